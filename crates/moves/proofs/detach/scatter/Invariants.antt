-- The contract of `moves::detach::scatter`.
use mathlib.Core.Path.{◌≡◌}
use Prim.Native.Nat.{◌-◌}
use Rattle.moves.specs.Detach.{scatter}
use Rattle.moves.proofs.detach.scatter.Given as goal

abbrev pub invariant-loop : goal.invariant-loop
invariant-loop l = scatter (l.steps - l.counter) l.words l.child ≡ scatter l.steps l.initial.words l.initial.child
