-- The contract of `walk::walk::walk_edges`.
use mathlib.Core.Path.{sym}
use native.Mathlib.Omega.{arith}
use Rattle.walk.specs.WalkLaws.{yield-out, yield-whole}
use Rattle.walk.specs.RunLaws.{yield-still}
use Rattle.walk.specs.declared.edge.Step.TheVariants as S
use Rattle.walk.proofs.walk.walk_edges.Goals as goal

pub returns-then-budget-eq0 : goal.returns-then-budget-eq0
returns-then-budget-eq0 c =
    let a = c.args in
    let z = c.if-budget-eq0.true in
    yield-whole a.budget a.words.now a.used a.root a.start a.list.now c.requires.2 (sym (yield-out a.budget a.words.now a.used a.root a.list.now 0 a.start (omega arith))) c.yielded_to.ensures

pub returns-in_default : goal.returns-in_default
returns-in_default c =
    let a = c.args in
    yield-whole a.budget a.words.now a.used a.root a.start a.list.now c.requires.2 (sym (yield-still a.budget a.words.now a.used a.root a.list.now 0 a.start c.in_default.not-Edge)) c.yielded_to-in_default.ensures

pub returns : goal.returns
returns c =
    let a = c.args in
    rw c.in-Edge.is (yield-whole a.budget a.words.now a.used a.root (S.Edge c.in-Edge.e) a.list.now c.requires.2 c.write_from-reached.ensures c.yielded_to-2.ensures)
