-- `unlink_exhausted_free_slots`: from the free chain's first slot along next, each spent slot is taken off and its next set to none.
-- Excluded: a spent slot left on the chain; the chain behind a spent slot cut off; last free left at a slot that was taken off.
use Rattle.std.specs.Prelude.{cond, List, ℕ, zero, suc, ◌+◌, eqb, ltb}
use Rattle.link.specs.Ids.{stamp_of}
use Rattle.link.specs.Words.{STAMP, NUMBER, word, set_word}
use Rattle.link.specs.declared.header.Header.{Header}
use Rattle.rules.specs.Answers.{header}

-- Slot x, whose next is `next`, is taken off: the slot before it, or the chain's first, leads past it. The words, and the first.
unfoldable pub bypassed : List ℕ → ℕ → ℕ → ℕ → ℕ → List ℕ × ℕ
bypassed m first before x next =
    cond (eqb before 0) (set_word m x NUMBER 0, next) (set_word (set_word m before NUMBER next) x NUMBER 0, first)

-- n slots from x on, behind `before`, the last that stays (0: none yet).
unfoldable pub unlink_run : ℕ → List ℕ → ℕ → ℕ → ℕ → ℕ → List ℕ × Header
unlink_run zero m used first before x = (m, header used first before)
unlink_run (suc n) m used first before x =
    cond (eqb x 0) (m, header used first before)
    (cond (ltb used x) (m, header used first before)
    (cond (eqb (stamp_of (word m x STAMP)) 32768)
    (let b = bypassed m first before x (word m x NUMBER) in unlink_run n b.0 used b.1 before (word m x NUMBER))
    (unlink_run n m used first x (word m x NUMBER))))

unfoldable pub unlinked : List ℕ → Header → List ℕ × Header
unlinked m h = unlink_run (h.used + 1) m h.used h.first 0 h.first
