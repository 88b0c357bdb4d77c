-- The contract of `lines::decimal::put_digits`.
use mathlib.Core.Path.{◌≡◌}
use lib.Seq.{sets}
use Rattle.lines.specs.Decimal.{digits_of}
use Rattle.lines.proofs.decimal.put_digits.Given as goal

abbrev pub invariant-loop-i : goal.invariant-loop-i
invariant-loop-i l = sets l.out l.at (digits_of l.i l.rest) ≡ sets l.initial.out l.at (digits_of l.k l.n)
