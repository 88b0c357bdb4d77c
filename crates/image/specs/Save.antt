-- Save: FRAME, SCRATCH, INVALID, then ROOM where the bytes lent are too few; else the image, and how many bytes it has.
-- Excluded: a byte written past the answer; an image written before ROOM is tested.
use Rattle.std.specs.Prelude.{false, cond, List, ℕ, eqb, ltb, length}
use Rattle.link.specs.declared.header.Header.{Header}
use Rattle.rules.specs.Answers.{DONE, refusal, reply}
use Rattle.rules.specs.declared.answer.Reply.{Reply}
use Rattle.sound.specs.Guard.{scratch_after, guard_no}
use Rattle.image.specs.Image.{image_length, image_of, laid}

-- On ready memory: the bytes after, and the reply.
unfoldable pub written : List ℕ → Header → List ℕ → List ℕ × Reply
written m h bytes =
    let no = refusal false false false false false false false (ltb (length bytes) (image_length h.used)) in
    cond (eqb no DONE) (laid (image_of m h) bytes, reply DONE (image_length h.used)) (bytes, reply no 0)

-- A call whose work, on ready memory, leaves a lent list and the reply `work`: scratch, list and reply on any memory.
unfoldable pub guarded_write : List ℕ → Header → List ℕ → List ℕ → List ℕ × Reply → List ℕ × List ℕ × Reply
guarded_write m h scratch list work =
    let no = guard_no m h (length scratch) in
    cond (eqb no DONE) (scratch_after m h scratch, work.0, work.1) (scratch_after m h scratch, list, reply no 0)

unfoldable pub saved : List ℕ → Header → List ℕ → List ℕ → List ℕ × List ℕ × Reply
saved m h scratch bytes = guarded_write m h scratch bytes (written m h bytes)
