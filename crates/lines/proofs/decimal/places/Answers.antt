-- The contract of `lines::decimal::places`.
use native.Mathlib.Omega.{arith}
use Rattle.lines.specs.LineLaws.{places-log}
use Rattle.lines.proofs.decimal.places.Goals as goal

pub returns : goal.returns
returns c = let e = c.ilog10.ensures in places-log c.args.n c.ilog10.result (omega arith) (omega arith) e.bound
