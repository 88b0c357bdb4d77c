-- Every call is a step, and a fresh arena is where steps begin: so what holds after any calls holds of every history.
use Rattle.std.specs.Prelude.{refl, List, [], ℕ, ◌*◌, ◌≤◌, length}
use Rattle.std.proofs.Common.{sym, arith}
use Rattle.link.specs.Words.{capacity_of}
use Rattle.keeps.specs.HandoutLaws.{times_none}
use Rattle.keeps.specs.Clear.{clear-ready, clear_none}
use Rattle.history.specs.Calls.{Memory, fresh, Call, change, set, read, called}
use Rattle.history.specs.History.{after, history}
use Rattle.history.specs.Steps.{Fine, Step}
use Rattle.history.specs.StepLaws.{read_step, set-step}
use Rattle.history.proofs.ChangeSteps.{change-step}
use Rattle.history.specs.Invariant.{Good, good-run}

pub step : (w : Memory) → Fine w → (c : Call) → Step w c (called c w)
step w F (change c a b) = change-step w F c a b
step w F (set x n) = set-step w F x n
step w F (read c) = read_step w F c

module _ (words scratch : List ℕ) (enough : 2 * capacity_of (length words) ≤ length scratch) where
  good-fresh : Good (length words) (fresh words scratch) []
  good-fresh = record {
    fine = record { ready = clear-ready words; fits = omega arith; room = enough; joined = λ chain s (a : 1 ≤ s) (b : s ≤ 0) k. absurd (omega arith) };
    long = refl;
    once = tt;
    times = λ s p. sym (times_none words 0 s p);
    past = λ x i. absurd i;
    found = λ x. (λ f. absurd (clear_none words x f), λ q. absurd q);
    number = λ x f. absurd (clear_none words x f);
  }

  pub good : (cs : List Call) → Good (length words) (after called (fresh words scratch) cs) (history called (fresh words scratch) cs)
  good cs = good-run step (length words) cs (fresh words scratch) [] good-fresh
