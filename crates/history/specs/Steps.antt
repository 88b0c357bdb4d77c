-- What one call does, as a history sees it: which identifiers it handed out and took, what it stored, by what it answered. And what memory
-- is before and after it.
use Rattle.std.specs.Prelude.{◌≡◌, ◌⊎◌, ◌↔◌, ℕ, ◌+◌, ◌*◌, ◌<◌, ◌≤◌, length}
use Rattle.link.specs.Ids.{slot_of, stamp_of}
use Rattle.link.specs.Words.{NUMBER, capacity_of, word}
use Rattle.rules.specs.Lists.{In, NoDup}
use Rattle.rules.specs.Sound.{Ready}
use Rattle.keeps.specs.Handouts.{times_out}
use Rattle.history.specs.Calls.{Memory, Call, Told}
use Rattle.history.specs.History.{FoundIn, handed_by, TakenBy, StoredBy, times_of}
use Rattle.history.specs.FreeSlots.{Joined}

-- Memory as calls leave it: ready, within its capacity, scratch for all of it, every slot that can be reused on the free chain.
pub record Fine (w : Memory) : Type 0 where
  pub ready : Ready w.words w.header
  pub fits : w.header.used ≤ capacity_of (length w.words)
  pub room : 2 * capacity_of (length w.words) ≤ length w.scratch
  pub joined : Joined w.words w.header

abbrev pub times_in : Memory → ℕ → ℕ
times_in w s = times_out w.words w.header.used s

abbrev pub number_in : Memory → ℕ → ℕ
number_in w x = word w.words (slot_of x) NUMBER

-- The number of a node after a call: one that the call stored, and it stored no other; else what it was, and the call stored none.
pub record StoredNow (w : Memory) (c : Call) (t : Told) (w' : Memory) (x : ℕ) : Type 0 where
  pub is : StoredBy c t x (number_in w' x)
  pub only : (n : ℕ) → StoredBy c t x n → number_in w' x ≡ n

pub record KeptNow (w : Memory) (c : Call) (t : Told) (w' : Memory) (x : ℕ) : Type 0 where
  pub was : FoundIn w x
  pub same : number_in w' x ≡ number_in w x
  pub none : (n : ℕ) → StoredBy c t x n → ⊥

pub record Step (w : Memory) (c : Call) (r : Memory × Told) : Type 0 where
  pub fine : Fine r.0
  pub size : length r.0.words ≡ length w.words
  -- what is found is what was handed out now, and what was found and is not taken
  pub found : (y : ℕ) → FoundIn r.0 y ↔ (In y (handed_by c r.1) ⊎ (FoundIn w y × (TakenBy w c r.1 y → ⊥)))
  -- each slot was handed out as often as before, and by this call
  pub times : (s : ℕ) → 0 < s → times_in r.0 s ≡ times_of s (handed_by c r.1) + times_in w s
  -- with the stamp that is next for its slot
  pub stamps : (x : ℕ) → In x (handed_by c r.1) → (0 < slot_of x) × (stamp_of x ≡ times_in w (slot_of x))
  pub single : NoDup (handed_by c r.1)
  pub number : (y : ℕ) → FoundIn r.0 y → StoredNow w c r.1 r.0 y ⊎ KeptNow w c r.1 r.0 y
