-- The contract of `lists::levels::write_levels`.
use Prim.Native.Nat.{◌-◌}
use Rattle.lists.specs.LevelLaws.{Levelling}
use Rattle.lists.proofs.levels.write_levels.Given as goal

abbrev pub invariant-loop-asked : goal.invariant-loop-asked
invariant-loop-asked l = Levelling l.words l.root l.size l.initial.list l.list l.asked l.at

abbrev pub decreases-loop-asked : goal.decreases-loop-asked
decreases-loop-asked l = l.size - l.asked
