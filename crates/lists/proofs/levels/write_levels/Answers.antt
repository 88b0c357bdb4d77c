-- The contract of `lists::levels::write_levels`.
use mathlib.Core.Path.{refl, ap, ◌∙◌}
use mathlib.Core.List.{List}
use Prim.Native.Nat.{◌-◌, ℕ}
use native.Mathlib.Omega.{arith}
use lib.ListN.{length, length-set, get_or, set}
use borrow.Author.Rules.{rules}
use borrow.Author.Tests.{eq-eqb}
use Rattle.walk.specs.Written.{written}
use Rattle.lists.specs.Levels.{level_order}
use Rattle.lists.specs.Storing.{stored_at}
use Rattle.lists.specs.OrderLinks.{linked-children}
use Rattle.lists.specs.OrderLaws.{ordered-most}
use Rattle.lists.specs.LevelLaws.{levelling-begin, levelling-more, levelling-end}
use Rattle.lists.specs.declared.order.Order.TheVariants.{Children}
use Rattle.lists.proofs.levels.write_levels.Goals as goal

pub returns-then-size-eq0 : goal.returns-then-size-eq0
unfolding level_order written
returns-then-size-eq0 c = simp (eq-eqb _ _ c.if-size-eq0.true) (refl, refl)

pub loop-asked-init : goal.loop-asked-init
loop-asked-init c =
    let a = c.args in
    let n = c.if-size-eq0.false in
    levelling-begin a.words.now a.root a.size a.list.now c.requires (omega arith)

pub bounds-list-asked : goal.bounds-list-asked
bounds-list-asked c =
    let at = c.loop-asked in
    let l = length-set c.args.list.now 0 c.args.root in
    let w = at.invariant.places in
    let b = at.invariant.within in
    let p = c.requires in
    let t = c.loop-asked-test.true in
    search rules

pub write_along-at-requires : goal.write_along-at-requires
write_along-at-requires c =
    let a = c.args in
    let at = c.loop-asked in
    let b = ordered-most a.words.now (a.size - at.at) Children (get_or at.list at.asked 0) in
    let e = ap length (linked-children a.words.now (a.size - at.at) (get_or at.list at.asked 0) c.link_of-first.ensures) in
    let l = length-set a.list.now 0 a.root in
    let w = at.invariant.places in
    let i = at.invariant.within in
    let p = c.requires in
    omega arith

pub loop-asked-preserved : goal.loop-asked-preserved
loop-asked-preserved c =
    let a = c.args in
    let at = c.loop-asked in
    levelling-more a.words.now a.root a.size (set a.list.now 0 a.root) at.list at.asked at.at (get_or at.list at.asked 0) (rw length-set c.requires) at.invariant c.loop-asked-test.true refl
    (c.write_along-at.ensures ∙ ap (λ (xs : List ℕ). stored_at xs at.list at.at) (linked-children a.words.now (a.size - at.at) (get_or at.list at.asked 0) c.link_of-first.ensures))

pub overflow_cast-result : goal.overflow_cast-result
overflow_cast-result c =
    let i = c.loop-asked.invariant.within in
    search rules

pub shape_of-list : goal.shape_of-list
shape_of-list c =
    let l = length-set c.args.list.now 0 c.args.root in
    let w = c.loop-asked.invariant.places in
    search rules

pub returns : goal.returns
returns c =
    let a = c.args in
    let at = c.loop-asked in
    levelling-end a.words.now a.root a.size a.list.now at.list at.asked at.at c.requires c.if-size-eq0.false at.invariant c.loop-asked-test.false
