-- The first pass, one slot at a time; it writes to the places of the slots it looks at, and finds no leading slot past used.
-- From its definition alone.
use Rattle.std.specs.Prelude.{◌≡◌, refl, Bool, true, false, Some, None, List, eqb, set}
use Rattle.std.proofs.Math.Bool.{cond}
use Prim.Native.Nat.{◌-◌, ℕ, zero, suc, ◌+◌, ◌<◌, ◌≤◌}
use native.Mathlib.Omega.{arith}
use Rattle.std.proofs.Math.Numerals.{sub-one}
use Rattle.std.proofs.Common.{sym, eqb-true}
use Rattle.std.proofs.Math.Nat.{sub-add-eq}
use Rattle.std.proofs.lemmas.Bool.Decides.{nat_tests}
use Rattle.link.specs.Ids.{slot_of}
use Rattle.link.specs.Words.{PARENT, PREVIOUS, NEXT, FIRST, word}
use Rattle.examine.specs.Slots.{bad, prior_of, prior_no, has_b, lead_ok, none_or_found_b, previous_ok, prior_slot, kin_ok, look, look_run}
use Rattle.examine.specs.TestLaws.{both_true, has-true}
use Rattle.examine.specs.ScratchLaws.{Within, within_none, within-set}

-- The answer keeps the number.
pub prior_no-of : (n : ℕ) → prior_no (prior_of n) ≡ n
unfolding prior_of
prior_no-of n = by (eqb n bad) refl
  where
    by : (t : Bool) → eqb n bad ≡ t → prior_no (cond t None (Some n)) ≡ n
    by true e = sym (eqb-true n bad e)
    by false e = refl

module _ (n : ℕ) (m : List ℕ) (used s : ℕ) (scratch : List ℕ) where
  pub look-out : n ≤ 0 → look_run n m used s scratch ≡ (scratch, true)
  unfolding look_run
  look-out h = let e : n ≡ 0 = omega arith in rw e

  pub look-step : 0 < n → look_run n m used s scratch ≡
      cond (eqb (look m used s) bad) (scratch, false) (look_run (n - 1) m used (s + 1) (set scratch s (look m used s)))
  unfolding look_run
  look-step h = by n h
    where
      by : (k : ℕ) → 0 < k → look_run k m used s scratch ≡
          cond (eqb (look m used s) bad) (scratch, false) (look_run (k - 1) m used (s + 1) (set scratch s (look m used s)))
      by zero g = absurd (omega arith)
      by (suc k) g = simp sub-one

-- For the loop that counts up: at step i of n, n - i are left.
pub ruleset look_turns = (nat_tests, sub-add-eq, look-out, look-step)

pub look-within : (n : ℕ) (m : List ℕ) (used s : ℕ) (scratch : List ℕ) → 1 ≤ s → s + n ≤ used + 1 → Within used scratch (look_run n m used s scratch).0
unfolding look_run
look-within zero m used s scratch a b = within_none used scratch
look-within (suc n) m used s scratch a b = by (eqb (look m used s) bad) (look-within n m used (s + 1) (set scratch s (look m used s)) (omega arith) (omega arith))
  where
    by : (t : Bool) → Within used (set scratch s (look m used s)) (look_run n m used (s + 1) (set scratch s (look m used s))).0
        → Within used scratch (cond t (scratch, false) (look_run n m used (s + 1) (set scratch s (look m used s)))).0
    by true w = within_none used scratch
    by false w = within-set used scratch s (look m used s) (omega arith) (omega arith) w

prior-most : (m : List ℕ) (used x parent previous : ℕ) → previous_ok m used x parent previous ≡ true → prior_slot parent previous ≤ used
unfolding previous_ok lead_ok prior_slot
prior-most m used x parent previous e = by (eqb previous 0) refl e
  where
    lead : (t : Bool) → eqb parent 0 ≡ t → cond t true (has_b m used parent FIRST x FIRST x) ≡ true → slot_of parent ≤ used
    lead true q w = let z = eqb-true parent 0 q in omega arith
    lead false q w = ((has-true m used parent FIRST x FIRST x).0 w).0.upto

    by : (t : Bool) → eqb previous 0 ≡ t
        → cond t (cond (eqb parent 0) true (has_b m used parent FIRST x FIRST x)) (cond (has_b m used previous NEXT x NEXT x) (none_or_found_b m used parent) false) ≡ true
        → cond t (slot_of parent) (slot_of previous) ≤ used
    by true q w = lead (eqb parent 0) refl w
    by false q w = ((has-true m used previous NEXT x NEXT x).0 ((both_true _ _).0 w).0).0.upto

-- What leads to a slot that passes is none or a slot in use.
pub kin-most : (m : List ℕ) (used s x : ℕ) → kin_ok m used s x ≡ true → prior_slot (word m s PARENT) (word m s PREVIOUS) ≤ used
unfolding kin_ok
kin-most m used s x e = prior-most m used x (word m s PARENT) (word m s PREVIOUS) ((both_true _ _).0 e).0
