-- The contract of `preorder::preorder::turn`.
use Rattle.preorder.specs.Stack.{turned_to}
use Rattle.preorder.specs.StackLaws.{down_by, on_by}
use Rattle.preorder.proofs.preorder.turn.Goals as goal

pub returns-then-first-ne0 : goal.returns-then-first-ne0
unfolding turned_to
returns-then-first-ne0 c =
    let a = c.args in
    down_by a.words.now a.x a.scratch.now a.top c.link_of-first.ensures c.link_of-next.ensures c.if-first-ne0.true c.choose.ensures

pub returns : goal.returns
unfolding turned_to
returns c =
    let a = c.args in
    on_by a.words.now a.x a.scratch.now a.top c.link_of-first.ensures c.link_of-next.ensures c.if-first-ne0.false c.choose-2.ensures c.choose-3.ensures c.choose-4.ensures
