-- The contract of `batch::trace::answers_of`.
use Rattle.std.proofs.Common.{◌≡◌, refl, Bool, true, false, cond, eqb, ℕ, ◌+◌, ◌/◌, ◌%◌, min, arith, eqb-true, ◌∙◌}
use borrow.Author.Tests.{eqb-false}
use Rattle.batch.specs.Trace.{answers_of}
use Rattle.batch.proofs.trace.answers_of.Goals as goal

rounded_up : (n : ℕ) → n / 12 + min 1 (n % 12) ≡ cond (eqb (n % 12) 0) (n / 12) (n / 12 + 1)
rounded_up n = by (eqb (n % 12) 0) refl
  where
    by : (b : Bool) → eqb (n % 12) 0 ≡ b → n / 12 + min 1 (n % 12) ≡ cond b (n / 12) (n / 12 + 1)
    by true e = let z = eqb-true (n % 12) 0 e in omega arith
    by false e = let z = eqb-false (n % 12) 0 e in omega arith

pub returns : goal.returns
unfolding answers_of
returns c = c.div_ceil.ensures ∙ rounded_up c.args.length
