-- The contract of `walk::run::Run::upwards`.
use mathlib.Core.Path.{◌∙◌}
use native.Mathlib.Omega.{arith}
use borrow.Author.Rules.{rules}
use Rattle.walk.specs.RunLaws.{gone_none, ran_stops-up, from_first, end-not_start, none-not}
use Rattle.walk.specs.declared.edge.Edge.TheVariants.{End}
use Rattle.walk.specs.declared.edge.Step.TheVariants as S
use Rattle.walk.proofs.run.Run.upwards.Goals as goal

pub returns-in_default : goal.returns-in_default
returns-in_default c =
    let a = c.args in
    ran_stops-up c.ends-up.result.next _ _ (gone_none a.self.words.now a.self.used a.self.root a.self.budget (S.Edge (End a.first)) a.list.now 0 (omega arith)) c.ends-up.ensures (search (rules, end-not_start))
    ∙ from_first a.self.budget a.self.words.now a.self.used a.self.root (S.Edge (End a.first)) a.list.now

pub returns-in_default-2 : goal.returns-in_default-2
returns-in_default-2 c =
    let a = c.args in
    ran_stops-up c.ends-up.result.next _ _ (gone_none a.self.words.now a.self.used a.self.root a.self.budget (S.Edge (End a.first)) a.list.now 0 (omega arith)) c.ends-up.ensures (search (rules, none-not))
    ∙ from_first a.self.budget a.self.words.now a.self.used a.self.root (S.Edge (End a.first)) a.list.now
