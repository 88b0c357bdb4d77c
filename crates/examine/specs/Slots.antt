-- The model of the first pass: what is tested of each slot in use, and what leads to it.
-- Nothing here has to be believed: that memory passes exactly when it is sound is a theorem of the crate `exact`.
use Rattle.std.specs.Prelude.{Bool, true, false, cond, Option, Some, None, List, ℕ, zero, suc, ◌+◌, eqb, ltb, set}
use Rattle.link.specs.Ids.{slot_of, id_of, stamp_of}
use Rattle.link.specs.Words.{STAMP, PARENT, PREVIOUS, NEXT, FIRST, LAST, word}
use Rattle.link.specs.Found.{found_b}

-- No slot number: a slot that fails a test.
abbrev pub bad : ℕ
bad = 65536

-- The number as an answer of Rust: `None` for the bad one.
unfoldable pub prior_of : ℕ → Option ℕ
prior_of n = cond (eqb n bad) None (Some n)

-- And back: the number that an answer stands for.
abbrev pub prior_no : Option ℕ → ℕ
prior_no None = bad
prior_no (Some n) = n

-- y is found, its word j is a and its word k is b.
unfoldable pub has_b : List ℕ → ℕ → ℕ → ℕ → ℕ → ℕ → ℕ → Bool
has_b m used y j a k b =
    cond (found_b m used y) (cond (eqb (word m (slot_of y) j) a) (eqb (word m (slot_of y) k) b) false) false

unfoldable pub children_ok : List ℕ → ℕ → ℕ → ℕ → ℕ → Bool
children_ok m used x first last =
    cond (eqb first 0) (eqb last 0)
    (cond (has_b m used first PARENT x PREVIOUS 0) (has_b m used last PARENT x NEXT 0) false)

unfoldable pub next_ok : List ℕ → ℕ → ℕ → ℕ → ℕ → Bool
next_ok m used x parent next = cond (eqb next 0) true (has_b m used next PREVIOUS x PARENT parent)

unfoldable pub lead_ok : List ℕ → ℕ → ℕ → ℕ → Bool
lead_ok m used x parent = cond (eqb parent 0) true (has_b m used parent FIRST x FIRST x)

unfoldable pub none_or_found_b : List ℕ → ℕ → ℕ → Bool
none_or_found_b m used id = cond (eqb id 0) true (found_b m used id)

unfoldable pub previous_ok : List ℕ → ℕ → ℕ → ℕ → ℕ → Bool
previous_ok m used x parent previous =
    cond (eqb previous 0) (lead_ok m used x parent)
    (cond (has_b m used previous NEXT x NEXT x) (none_or_found_b m used parent) false)

-- The slot of the previous sibling, else of the parent.
unfoldable pub prior_slot : ℕ → ℕ → ℕ
prior_slot parent previous = cond (eqb previous 0) (slot_of parent) (slot_of previous)

-- All tests of the live node x in slot s.
unfoldable pub kin_ok : List ℕ → ℕ → ℕ → ℕ → Bool
kin_ok m used s x =
    cond (previous_ok m used x (word m s PARENT) (word m s PREVIOUS))
    (cond (next_ok m used x (word m s PARENT) (word m s NEXT)) (children_ok m used x (word m s FIRST) (word m s LAST)) false)
    false

unfoldable pub kin_of : List ℕ → ℕ → ℕ → ℕ → ℕ
kin_of m used s x = cond (kin_ok m used s x) (prior_slot (word m s PARENT) (word m s PREVIOUS)) bad

-- Of a removed slot nothing is asked and nothing leads to it; a live one has kind 0.
unfoldable pub look : List ℕ → ℕ → ℕ → ℕ
look m used s =
    cond (ltb 32767 (stamp_of (word m s STAMP))) 0
    (cond (ltb 65535 (word m s STAMP)) bad (kin_of m used s (id_of s (word m s STAMP))))

-- n slots from s on: place s of the scratch takes what leads to it, and the pass stops at a bad one.
unfoldable pub look_run : ℕ → List ℕ → ℕ → ℕ → List ℕ → List ℕ × Bool
look_run zero m used s scratch = (scratch, true)
look_run (suc n) m used s scratch =
    cond (eqb (look m used s) bad) (scratch, false) (look_run n m used (s + 1) (set scratch s (look m used s)))
