-- The contract of `lines::decimal::put_digits`.
use mathlib.Core.Path.{sym, ◌∙◌}
use native.Mathlib.Omega.{arith}
use Rattle.lines.specs.LineLaws.{digits_last, digits_none}
use Rattle.lines.proofs.decimal.put_digits.Goals as goal

pub loop-i-preserved : goal.loop-i-preserved
loop-i-preserved c = let l = c.loop-i in sym (digits_last l.out c.args.at l.i l.rest (omega arith)) ∙ l.invariant

pub returns : goal.returns
returns c = let l = c.loop-i in sym (digits_none l.out c.args.at l.i l.rest (omega arith)) ∙ l.invariant
