-- The second pass, one step of a climb and one climb at a time; it writes to the place of none and those of slots in use.
-- From its definitions alone.
use Rattle.std.specs.Prelude.{◌≡◌, refl, Bool, true, false, List, eqb, ltb, get_or, set}
use Rattle.std.proofs.Math.Bool.{cond, not}
use Prim.Native.Nat.{◌-◌, ℕ, zero, suc, ◌+◌, ◌<◌, ◌≤◌}
use native.Mathlib.Omega.{arith}
use Rattle.std.proofs.Math.Numerals.{sub-one}
use Rattle.std.proofs.Common.{ltb-false}
use Rattle.std.proofs.Math.Nat.{sub-add-eq}
use Rattle.std.proofs.lemmas.Bool.Decides.{nat_tests}
use Rattle.examine.specs.Marks.{climb_run, climbs_run}
use Rattle.examine.specs.ScratchLaws.{Within, within_none, within-set, within_both}

module _ (n used i x : ℕ) (scratch : List ℕ) where
  pub climb-out : n ≤ 0 → climb_run n used i x scratch ≡ (scratch, false)
  unfolding climb_run
  climb-out h = let e : n ≡ 0 = omega arith in rw e

  pub climb-step : 0 < n → climb_run n used i x scratch ≡
      cond (ltb used (get_or scratch x 0)) (scratch, not (eqb (get_or scratch x 0) (65536 + i)))
      (climb_run (n - 1) used i (get_or scratch x 0) (set scratch x (65536 + i)))
  unfolding climb_run
  climb-step h = by n h
    where
      by : (k : ℕ) → 0 < k → climb_run k used i x scratch ≡
          cond (ltb used (get_or scratch x 0)) (scratch, not (eqb (get_or scratch x 0) (65536 + i)))
          (climb_run (k - 1) used i (get_or scratch x 0) (set scratch x (65536 + i)))
      by zero g = absurd (omega arith)
      by (suc k) g = simp sub-one

module _ (n used i : ℕ) (scratch : List ℕ) where
  pub climbs-out : n ≤ 0 → climbs_run n used i scratch ≡ (scratch, true)
  unfolding climbs_run
  climbs-out h = let e : n ≡ 0 = omega arith in rw e

  pub climbs-step : 0 < n → climbs_run n used i scratch ≡
      cond (climb_run (used + 2) used i i scratch).1
      (climbs_run (n - 1) used (i + 1) (climb_run (used + 2) used i i scratch).0)
      (climb_run (used + 2) used i i scratch)
  unfolding climbs_run
  climbs-step h = by n h
    where
      by : (k : ℕ) → 0 < k → climbs_run k used i scratch ≡
          cond (climb_run (used + 2) used i i scratch).1
          (climbs_run (k - 1) used (i + 1) (climb_run (used + 2) used i i scratch).0)
          (climb_run (used + 2) used i i scratch)
      by zero g = absurd (omega arith)
      by (suc k) g = simp sub-one

-- For the loops that count up: at step i of n, n - i are left.
pub ruleset climb_turns = (nat_tests, sub-add-eq, climb-out, climb-step)

pub ruleset climbs_turns = (nat_tests, sub-add-eq, climbs-out, climbs-step)

pub climb-within : (n used i x : ℕ) (scratch : List ℕ) → 1 ≤ used → x ≤ used → Within used scratch (climb_run n used i x scratch).0
unfolding climb_run
climb-within zero used i x scratch a b = within_none used scratch
climb-within (suc n) used i x scratch a b =
    by (ltb used (get_or scratch x 0)) refl (climb-within n used i (get_or scratch x 0) (set scratch x (65536 + i)) a)
  where
    by : (t : Bool) → ltb used (get_or scratch x 0) ≡ t
        → (get_or scratch x 0 ≤ used → Within used (set scratch x (65536 + i)) (climb_run n used i (get_or scratch x 0) (set scratch x (65536 + i))).0)
        → Within used scratch
        (cond t (scratch, not (eqb (get_or scratch x 0) (65536 + i)))
        (climb_run n used i (get_or scratch x 0) (set scratch x (65536 + i)))).0
    by true e ih = within_none used scratch
    by false e ih = within-set used scratch x (65536 + i) a b (ih (ltb-false used (get_or scratch x 0) e))

pub climbs-within : (n used i : ℕ) (scratch : List ℕ) → 1 ≤ used → i + n ≤ used + 1 → Within used scratch (climbs_run n used i scratch).0
unfolding climbs_run
climbs-within zero used i scratch a b = within_none used scratch
climbs-within (suc n) used i scratch a b =
    by (climb_run (used + 2) used i i scratch).1 (climb-within (used + 2) used i i scratch a (omega arith))
    (climbs-within n used (i + 1) (climb_run (used + 2) used i i scratch).0 a (omega arith))
  where
    by : (t : Bool) → Within used scratch (climb_run (used + 2) used i i scratch).0
        → Within used (climb_run (used + 2) used i i scratch).0 (climbs_run n used (i + 1) (climb_run (used + 2) used i i scratch).0).0
        → Within used scratch (cond t (climbs_run n used (i + 1) (climb_run (used + 2) used i i scratch).0) (climb_run (used + 2) used i i scratch)).0
    by true v w = within_both used v w
    by false v w = v
