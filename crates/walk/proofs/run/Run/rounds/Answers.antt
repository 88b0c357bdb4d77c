-- The contract of `walk::run::Run::rounds`.
use borrow.Author.Rules.{rules}
use Rattle.walk.specs.RunLaws.{gone-full, ran_stops-up, end-not_start, none-not}
use Rattle.walk.specs.declared.edge.Edge.TheVariants.{Start}
use Rattle.walk.specs.declared.edge.Step.TheVariants as S
use Rattle.walk.proofs.run.Run.rounds.Goals as goal

pub returns-in_default : goal.returns-in_default
returns-in_default c =
    let at = c.loop-count in
    ran_stops-up c.round-round.result.next _ _ at.invariant c.round-round.ensures (search (rules, end-not_start))

pub returns-in_default-2 : goal.returns-in_default-2
returns-in_default-2 c =
    let at = c.loop-count in
    ran_stops-up c.round-round.result.next _ _ at.invariant c.round-round.ensures (search (rules, none-not))

pub returns : goal.returns
returns c =
    let at = c.loop-count in
    gone-full (S.Edge (Start at.id)) at.list at.count at.invariant c.loop-count-test.false
