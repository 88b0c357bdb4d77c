-- Single reads, set and clear, on any memory and header: FRAME, then REMOVED; a read gives the word as it stands.
-- Excluded: reading through the slot and ignoring the stamp; a set that writes another slot, or writes where it refuses.
use Rattle.std.specs.Prelude.{false, cond, not, List, ℕ, eqb, length}
use Rattle.link.specs.Words.{NUMBER, link, set_link}
use Rattle.link.specs.Found.{found_b}
use Rattle.link.specs.declared.header.Header.{Header}
use Rattle.rules.specs.Answers.{DONE, refusal, reply, header}
use Rattle.rules.specs.declared.answer.Reply.{Reply}
use Rattle.sound.specs.Guard.{frame_b}

-- The number of a call that names one identifier and needs neither scratch nor ready memory.
unfoldable pub named_no : List ℕ → Header → ℕ → ℕ
named_no m h id = refusal (frame_b (length m) h.used) false false false (not (found_b m h.used id)) false false false

-- Word k of the node: the number stored, or a link.
unfoldable pub read_word : ℕ → List ℕ → Header → ℕ → Reply
read_word k m h id = cond (eqb (named_no m h id) DONE) (reply DONE (link m id k)) (reply (named_no m h id) 0)

-- The number of the node is set.
unfoldable pub set_number : List ℕ → Header → ℕ → ℕ → List ℕ × Reply
set_number m h id number =
    cond (eqb (named_no m h id) DONE) (set_link m id NUMBER number, reply DONE 0) (m, reply (named_no m h id) 0)

-- Nothing in use. No word is touched.
abbrev pub cleared : Header
cleared = header 0 0 0
