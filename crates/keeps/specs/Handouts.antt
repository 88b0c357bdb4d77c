-- How often a slot was handed out, read off its stamp: the stamps that it had are 0 to one less than that.
-- Excluded: a slot that was removed counted as never handed out; a fresh slot counted by the words that lie there.
use Rattle.std.specs.Prelude.{cond, List, ◌-◌, ℕ, ◌+◌, leb}
use Rattle.link.specs.Ids.{stamp_of}
use Rattle.link.specs.Words.{STAMP, word}

-- From the 16 bits: one more than the stamp while it is live, its negative once it is removed.
unfoldable pub handouts : ℕ → ℕ
handouts bits = cond (leb bits 32767) (bits + 1) (65536 - bits)

-- Slot s of memory with `used` slots in use. A slot beyond used was never handed out.
unfoldable pub times_out : List ℕ → ℕ → ℕ → ℕ
times_out m used s = cond (leb s used) (handouts (stamp_of (word m s STAMP))) 0
