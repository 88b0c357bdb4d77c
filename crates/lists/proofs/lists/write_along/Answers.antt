-- The contract of `lists::lists::write_along`.
use mathlib.Core.Path.{◌∙◌, sym, ap}
use mathlib.Core.List.{List}
use Prim.Native.Nat.{ℕ}
use borrow.Author.Rules.{rules}
use Rattle.lists.specs.OrderLaws.{stored-done}
use Rattle.lists.specs.NodeLaws.{store-next, store-room}
use Rattle.lists.specs.Storing.{stored_at}
use Rattle.lists.proofs.lists.write_along.Goals as goal

pub offset_bounds-list-at : goal.offset_bounds-list-at
offset_bounds-list-at c =
    let at = c.loop-x in
    let h = store-room c.in-Some.x _ at.list at.at _ c.args.list.now c.args.start c.in-Some.ensures.steps at.invariant c.requires at.auto.list in
    search rules

pub bounds-list-at : goal.bounds-list-at
bounds-list-at c =
    let at = c.loop-x in
    store-room c.in-Some.x _ at.list at.at _ c.args.list.now c.args.start c.in-Some.ensures.steps at.invariant c.requires at.auto.list

pub overflow_add-at : goal.overflow_add-at
overflow_add-at c =
    let at = c.loop-x in
    let h = store-room c.in-Some.x _ at.list at.at _ c.args.list.now c.args.start c.in-Some.ensures.steps at.invariant c.requires at.auto.list in
    search rules

pub loop-x-preserved : goal.loop-x-preserved
loop-x-preserved c =
    let at = c.loop-x in
    store-next c.in-Some.x _ at.list at.at c.in-Some.ensures.steps at.invariant

pub returns : goal.returns
returns c =
    let at = c.loop-x in
    sym (stored-done at.list at.at) ∙ ap (λ (xs : List ℕ). stored_at xs at.list at.at) (sym c.in-None.ensures.steps.0) ∙ at.invariant
