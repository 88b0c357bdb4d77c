-- The third pass, one slot of the free chain at a time: what it answers out of steps, and with one step more.
-- From its definition alone.
use Rattle.std.specs.Prelude.{◌≡◌, Bool, List, eqb, ltb}
use Rattle.std.proofs.Math.Bool.{cond}
use Prim.Native.Nat.{◌-◌, ℕ, zero, suc, ◌<◌, ◌≤◌}
use native.Mathlib.Omega.{arith}
use Rattle.std.proofs.Math.Numerals.{sub-one}
use Rattle.std.proofs.Math.Nat.{sub-add-eq}
use Rattle.std.proofs.lemmas.Bool.Decides.{nat_tests}
use Rattle.link.specs.Words.{STAMP, NUMBER, word}
use Rattle.examine.specs.Chain.{free_word, met_spent, at_end, chain_run}
use Rattle.examine.specs.declared.chain.Verdict.TheVariants.{Unsound}

module _ (n : ℕ) (m : List ℕ) (used last : ℕ) (spent : Bool) (before x : ℕ) where
  pub chain-out : n ≤ 0 → chain_run n m used last spent before x ≡ Unsound
  unfolding chain_run
  chain-out h = let e : n ≡ 0 = omega arith in rw e

  pub chain-step : 0 < n → chain_run n m used last spent before x ≡
      cond (eqb x 0) (at_end last before spent)
      (cond (ltb used x) Unsound
      (cond (free_word (word m x STAMP))
      (chain_run (n - 1) m used last (met_spent spent (word m x STAMP)) x (word m x NUMBER))
      Unsound))
  unfolding chain_run
  chain-step h = by n h
    where
      by : (k : ℕ) → 0 < k → chain_run k m used last spent before x ≡
          cond (eqb x 0) (at_end last before spent)
          (cond (ltb used x) Unsound
          (cond (free_word (word m x STAMP))
          (chain_run (k - 1) m used last (met_spent spent (word m x STAMP)) x (word m x NUMBER))
          Unsound))
      by zero g = absurd (omega arith)
      by (suc k) g = simp sub-one

-- For the loop that counts its steps up: at step i of n, n - i are left.
pub ruleset chain_turns = (nat_tests, sub-add-eq, chain-out, chain-step)
