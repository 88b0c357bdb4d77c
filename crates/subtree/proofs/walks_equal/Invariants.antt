-- The contract of `subtree::walks_equal`.
use mathlib.Core.Path.{◌≡◌}
use Prim.Native.Nat.{◌-◌}
use Rattle.walk.specs.declared.edge.Edge.TheVariants.{Start}
use Rattle.subtree.specs.Compare.{compare_run}
use Rattle.subtree.proofs.walks_equal.Given as goal

abbrev pub invariant-loop : goal.invariant-loop
invariant-loop l =
    compare_run (l.steps - l.counter) l.words l.root l.e l.others l.other_root l.f ≡ compare_run l.steps l.words l.root (Start l.root) l.others l.other_root (Start l.other_root)
