-- The contract of `walk::run::Run::ends`.
use Rattle.walk.specs.Runs.{Gone}
use Rattle.walk.specs.declared.edge.Edge.TheVariants.{End}
use Rattle.walk.specs.declared.edge.Step.TheVariants as S
use Rattle.walk.proofs.run.Run.ends.Given as goal

abbrev pub invariant-loop-count : goal.invariant-loop-count
invariant-loop-count l = Gone l.self.words.now l.self.used l.self.root l.self.budget (S.Edge (End l.first)) l.initial.list l.written (S.Edge (End l.id)) l.list l.count
