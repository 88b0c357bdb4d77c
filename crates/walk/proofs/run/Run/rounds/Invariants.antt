-- The contract of `walk::run::Run::rounds`.
use Prim.Native.Nat.{◌-◌}
use Rattle.walk.specs.Runs.{Gone}
use Rattle.walk.specs.declared.edge.Edge.TheVariants.{Start}
use Rattle.walk.specs.declared.edge.Step.TheVariants as S
use Rattle.walk.proofs.run.Run.rounds.Given as goal

abbrev pub invariant-loop-count : goal.invariant-loop-count
invariant-loop-count l = Gone l.self.words.now l.self.used l.self.root l.self.budget (S.Edge (Start l.first)) l.initial.list l.written (S.Edge (Start l.id)) l.list l.count

abbrev pub decreases-loop-count : goal.decreases-loop-count
decreases-loop-count l = l.self.budget - l.count
