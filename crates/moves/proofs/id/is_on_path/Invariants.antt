-- The contract of `moves::id::is_on_path`.
use mathlib.Core.Path.{◌≡◌}
use Prim.Native.Nat.{◌-◌}
use Rattle.moves.specs.Moves.{on_path_b}
use Rattle.moves.proofs.id.is_on_path.Given as goal

abbrev pub invariant-loop : goal.invariant-loop
invariant-loop l = on_path_b (l.steps - l.counter) l.words l.id l.at ≡ on_path_b l.steps l.words l.id l.other
