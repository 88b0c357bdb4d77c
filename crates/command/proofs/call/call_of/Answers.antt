-- The contract of `command::call::call_of`.
use mathlib.Core.Path.{◌∙◌, sym, ap}
use native.Mathlib.Omega.{arith}
use Rattle.command.specs.CallLaws.{call-past, value-call}
use Rattle.command.specs.declared.call.Call.TheVariants.{Make}
use Rattle.command.specs.declared.call.Change.TheVariants.{Value}
use Rattle.moves.specs.declared.place.Place.{Place}
use Rattle.command.proofs.call.call_of.Goals as goal

pub returns-in-21-to-24 : goal.returns-in-21-to-24
returns-in-21-to-24 c = ap (λ (p : Place). Make (Value p)) c.place_of-in-21-to-24.ensures ∙ value-call c.args.code (omega arith) (omega arith)

pub returns-in_default-2 : goal.returns-in_default-2
returns-in_default-2 c = sym (call-past c.args.code (omega arith))
