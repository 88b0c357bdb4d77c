-- The contract of `preorder::preorder::write_preorder`.
use mathlib.Core.Path.{refl}
use Prim.Native.Nat.{◌<◌}
use native.Mathlib.Omega.{arith}
use lib.ListN.{length, length-set}
use borrow.Author.Rules.{rules}
use Rattle.link.specs.FoundLaws.{found_is}
use Rattle.preorder.specs.TurnLaws.{ordered-some, begins, turns, finishes}
use Rattle.preorder.proofs.preorder.write_preorder.Goals as goal

pub bounds-list-0 : goal.bounds-list-0
bounds-list-0 c =
    let a = c.args in let p = c.requires in
    let z = ordered-some a.words.now a.h p.0 a.root (found_is _ _ _ p.3) in
    omega arith

pub overflow_sub-top : goal.overflow_sub-top
overflow_sub-top c =
    let a = c.args in
    let f = found_is a.words.now a.h.used a.root c.requires.3 in
    let b = f.from in let u = f.upto in
    search rules

pub loop-x-init : goal.loop-x-init
loop-x-init c =
    let a = c.args in let p = c.requires in
    (refl, refl, begins a.words.now a.h p.0 a.root (found_is _ _ _ p.3) a.scratch.now a.list.now p.2 c.link_of-x.ensures)

pub offset_bounds-list-at : goal.offset_bounds-list-at
offset_bounds-list-at c =
    let a = c.args in let p = c.requires in let at = c.loop-x in
    let t = turns at.invariant.2 p.2 c.loop-x-test.true in
    let r = t.room in let l = at.invariant.0 in let q = length-set a.list.now 0 a.root in
    let b : at.at < length at.list = omega arith in
    search rules

pub bounds-list-at : goal.bounds-list-at
bounds-list-at c =
    let a = c.args in let p = c.requires in let at = c.loop-x in
    let t = turns at.invariant.2 p.2 c.loop-x-test.true in
    let r = t.room in let l = at.invariant.0 in let q = length-set a.list.now 0 a.root in
    omega arith

pub overflow_add-at : goal.overflow_add-at
overflow_add-at c =
    let a = c.args in let p = c.requires in let at = c.loop-x in
    let t = turns at.invariant.2 p.2 c.loop-x-test.true in
    let r = t.room in let l = at.invariant.0 in let q = length-set a.list.now 0 a.root in
    let b : at.at < length at.list = omega arith in
    search rules

pub turn-after-requires : goal.turn-after-requires
turn-after-requires c =
    let p = c.requires in let at = c.loop-x in
    let t = turns at.invariant.2 p.2 c.loop-x-test.true in
    (t.above, t.inside)

pub loop-x-smaller : goal.loop-x-smaller
loop-x-smaller c =
    let a = c.args in let p = c.requires in let at = c.loop-x in
    let t = turns at.invariant.2 p.2 c.loop-x-test.true in
    let r = t.room in let l = at.invariant.0 in let q = length-set a.list.now 0 a.root in
    omega arith

pub loop-x-preserved : goal.loop-x-preserved
loop-x-preserved c =
    let p = c.requires in let at = c.loop-x in
    let t = turns at.invariant.2 p.2 c.loop-x-test.true in
    (search rules, search rules, t.on c.turn-after.ensures)

pub shape_of-list : goal.shape_of-list
shape_of-list c =
    let a = c.args in let q = length-set a.list.now 0 a.root in let l = c.loop-x.invariant.0 in
    omega arith

pub returns : goal.returns
returns c =
    let a = c.args in let p = c.requires in
    finishes a.words.now a.h p.0 a.root (found_is _ _ _ p.3) a.scratch.now a.list.now p.2 c.loop-x.invariant.2 c.loop-x-test.false
