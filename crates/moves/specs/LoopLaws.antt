-- The two loops, one turn at a time: along the parents, and along the children that are scattered.
use Rattle.std.specs.Prelude.{◌≡◌, List, eqb}
use Rattle.std.proofs.Math.Bool.{true, false, cond}
use Prim.Native.Nat.{◌-◌, ℕ, zero, suc, ◌<◌, ◌≤◌}
use native.Mathlib.Omega.{arith}
use Rattle.std.proofs.Math.Numerals.{sub-one}
use Rattle.std.proofs.lemmas.Bool.Decides.{nat_tests}
use Rattle.std.proofs.Math.Nat.{sub-add-eq}
use Rattle.link.specs.Words.{PARENT, PREVIOUS, NEXT, link, set_link}
use Rattle.moves.specs.Detach.{scatter}
use Rattle.moves.specs.Moves.{on_path_b}

module _ (n : ℕ) (m : List ℕ) where
  pub path-out : (id other : ℕ) → n ≤ 0 → on_path_b n m id other ≡ true
  unfolding on_path_b
  path-out id other h = let e : n ≡ 0 = omega arith in rw e

  pub path-step : (id other : ℕ) → 0 < n
      → on_path_b n m id other ≡ cond (eqb other 0) false (cond (eqb other id) true (on_path_b (n - 1) m id (link m other PARENT)))
  unfolding on_path_b
  path-step id other h = by n h
    where
      by : (k : ℕ) → 0 < k
          → on_path_b k m id other ≡ cond (eqb other 0) false (cond (eqb other id) true (on_path_b (k - 1) m id (link m other PARENT)))
      by zero g = absurd (omega arith)
      by (suc k) g = simp sub-one

  pub scatter-out : (child : ℕ) → n ≤ 0 → scatter n m child ≡ m
  unfolding scatter
  scatter-out child h = let e : n ≡ 0 = omega arith in rw e

  pub scatter-step : (child : ℕ) → 0 < n
      → scatter n m child
      ≡ cond (eqb child 0) m
      (scatter (n - 1) (set_link (set_link (set_link m child NEXT 0) child PREVIOUS 0) child PARENT 0) (link m child NEXT))
  unfolding scatter
  scatter-step child h = by n h
    where
      by : (k : ℕ) → 0 < k
          → scatter k m child
          ≡ cond (eqb child 0) m
          (scatter (k - 1) (set_link (set_link (set_link m child NEXT 0) child PREVIOUS 0) child PARENT 0) (link m child NEXT))
      by zero g = absurd (omega arith)
      by (suc k) g = simp sub-one

-- What the two loops are proved by.
pub ruleset path_turns = (nat_tests, sub-add-eq, path-out, path-step)

pub ruleset scatter_turns = (nat_tests, sub-add-eq, scatter-out, scatter-step)
