-- The contract of `lines::decimal::put_number`.
use native.Mathlib.Omega.{arith}
use Rattle.lines.specs.LineLaws.{places-bound, number_put, digit_put}
use Rattle.lines.proofs.decimal.put_number.Goals as goal

pub put_digits-requires : goal.put_digits-requires
put_digits-requires c = omega (arith, places-bound c.args.n)

pub returns-then-n-lt10 : goal.returns-then-n-lt10
returns-then-n-lt10 c = let a = c.args in digit_put a.out.now a.at a.n c.if-n-lt10.true

pub overflow_add-result-2 : goal.overflow_add-result-2
overflow_add-result-2 c = omega (arith, places-bound c.args.n)

pub returns : goal.returns
returns c =
    let a = c.args in
    number_put a.out.now a.at a.n c.places-k.ensures c.put_digits.ensures
