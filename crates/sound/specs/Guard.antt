-- What the validator answers, and the guard of every call that needs ready memory: FRAME, SCRATCH, INVALID, in document 01's order.
-- Excluded: INVALID answered by the validator; scratch words left as they were by a call that is refused INVALID.
use Rattle.std.specs.Prelude.{Bool, false, cond, not, List, ℕ, ◌*◌, eqb, ltb, length}
use Rattle.link.specs.Words.{capacity_of}
use Rattle.link.specs.declared.header.Header.{Header}
use Rattle.rules.specs.Answers.{DONE, INVALID, refusal, reply, answer}
use Rattle.rules.specs.declared.answer.Reply.{Reply}
use Rattle.rules.specs.declared.answer.Answer.{Answer}
use Rattle.examine.specs.Scratch.{zeroed}
use Rattle.examine.specs.Verdicts.{sound_b, ready_b}
use Rattle.examine.specs.Examination.{examined}
use Rattle.examine.specs.declared.chain.Verdict.{Verdict}

-- used exceeds capacity; scratch under 2 × used words
abbrev pub frame_b : ℕ → ℕ → Bool
frame_b lent used = ltb (capacity_of lent) used

abbrev pub scratch_b : ℕ → ℕ → Bool
scratch_b used scratch = ltb scratch (2 * used)

-- FRAME, then SCRATCH: soundness is examined where neither refuses.
unfoldable pub fit_no : ℕ → ℕ → ℕ → ℕ
fit_no lent used scratch = refusal (frame_b lent used) (scratch_b used scratch) false false false false false false

-- Where soundness was examined, the first 2 × used scratch words are zero; else scratch is untouched.
unfoldable pub scratch_after : List ℕ → Header → List ℕ → List ℕ
scratch_after m h scratch =
    cond (eqb (fit_no (length m) h.used (length scratch)) DONE) (zeroed (2 * h.used) scratch) scratch

unfoldable pub sound_result : Verdict → ℕ
sound_result verdict = cond (sound_b verdict) 1 0

unfoldable pub ready_no : Verdict → ℕ
ready_no verdict = cond (ready_b verdict) DONE INVALID

-- The validator answers FRAME, SCRATCH, else 1 or 0 for sound.
unfoldable pub validated : List ℕ → Header → List ℕ → List ℕ × Reply
validated m h scratch =
    let no = fit_no (length m) h.used (length scratch) in
    (scratch_after m h scratch, reply no (cond (eqb no DONE) (sound_result (examined m h)) 0))

-- Every other call that needs ready memory: FRAME, SCRATCH, INVALID.
unfoldable pub guard_no : List ℕ → Header → ℕ → ℕ
guard_no m h scratch =
    refusal (frame_b (length m) h.used) (scratch_b h.used scratch) (not (ready_b (examined m h))) false false false false false

-- A call whose work, on ready memory, leaves the words and the answer `work`: words, scratch and answer on any memory.
unfoldable pub guarded : List ℕ → Header → List ℕ → List ℕ × Answer → List ℕ × List ℕ × Answer
guarded m h scratch work =
    let no = guard_no m h (length scratch) in
    cond (eqb no DONE) (work.0, scratch_after m h scratch, work.1) (m, scratch_after m h scratch, answer h no 0)

-- The same for a call that only reads.
unfoldable pub guarded_read : List ℕ → Header → List ℕ → Reply → List ℕ × Reply
guarded_read m h scratch work =
    let no = guard_no m h (length scratch) in
    (scratch_after m h scratch, cond (eqb no DONE) work (reply no 0))
