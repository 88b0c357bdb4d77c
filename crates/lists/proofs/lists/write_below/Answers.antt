-- The contract of `lists::lists::write_below`.
use mathlib.Core.Path.{◌∙◌, sym, ap}
use mathlib.Core.List.{List}
use Prim.Native.Nat.{ℕ}
use borrow.Author.Rules.{rules}
use Rattle.lists.specs.Orders.{kept, keep_b}
use Rattle.lists.specs.OrderLaws.{stored-done}
use Rattle.lists.specs.OrderLinks.{down-ordered}
use Rattle.lists.specs.NodeLaws.{store-next, store-room, kept-more, kept-less, kept-none}
use Rattle.lists.specs.Storing.{stored_at}
use Rattle.lists.specs.Nodes.{below_left}
use Rattle.lists.proofs.lists.write_below.Goals as goal

pub loop-x-init : goal.loop-x-init
loop-x-init c =
    let a = c.args in
    ap (λ (xs : List ℕ). stored_at (kept (keep_b a.words.now a.order) xs) a.list.now a.start) (ap below_left c.into_iter-x-iterator.ensures.into_iter_gives ∙ c.of-x-items.ensures)
    ∙ ap (λ (xs : List ℕ). stored_at xs a.list.now a.start) (down-ordered a.words.now a.used a.order a.root c.requires.0)

pub offset_bounds-list-at : goal.offset_bounds-list-at
offset_bounds-list-at c =
    let a = c.args in
    let at = c.loop-x in
    let h = store-room c.in-Some.x _ at.list at.at _ a.list.now a.start
    (kept-more (keep_b a.words.now a.order) c.in-Some.x _ c.in-Some.ensures.steps c.keeps.ensures c.if-keeps.true) at.invariant c.requires.1 at.auto.list in
    search rules

pub bounds-list-at : goal.bounds-list-at
bounds-list-at c =
    let a = c.args in
    let at = c.loop-x in
    store-room c.in-Some.x _ at.list at.at _ a.list.now a.start
    (kept-more (keep_b a.words.now a.order) c.in-Some.x _ c.in-Some.ensures.steps c.keeps.ensures c.if-keeps.true) at.invariant c.requires.1 at.auto.list

pub overflow_add-at : goal.overflow_add-at
overflow_add-at c =
    let a = c.args in
    let at = c.loop-x in
    let h = store-room c.in-Some.x _ at.list at.at _ a.list.now a.start
    (kept-more (keep_b a.words.now a.order) c.in-Some.x _ c.in-Some.ensures.steps c.keeps.ensures c.if-keeps.true) at.invariant c.requires.1 at.auto.list in
    search rules

pub loop-x-preserved-then-keeps : goal.loop-x-preserved-then-keeps
loop-x-preserved-then-keeps c =
    let a = c.args in
    let at = c.loop-x in
    store-next c.in-Some.x _ at.list at.at (kept-more (keep_b a.words.now a.order) c.in-Some.x _ c.in-Some.ensures.steps c.keeps.ensures c.if-keeps.true) at.invariant

pub loop-x-preserved : goal.loop-x-preserved
loop-x-preserved c =
    let a = c.args in
    let at = c.loop-x in
    ap (λ (xs : List ℕ). stored_at xs at.list at.at) (sym (kept-less (keep_b a.words.now a.order) c.in-Some.x _ c.in-Some.ensures.steps c.keeps.ensures c.if-keeps.false)) ∙ at.invariant

pub returns : goal.returns
returns c =
    let a = c.args in
    let at = c.loop-x in
    sym (stored-done at.list at.at) ∙ ap (λ (xs : List ℕ). stored_at xs at.list at.at) (sym (kept-none (keep_b a.words.now a.order) c.in-None.ensures.steps.0)) ∙ at.invariant
