-- The contract of `subtree::walks_equal`.
use mathlib.Core.Path.{◌∙◌, sym}
use Prim.Native.Nat.{◌-◌, ◌+◌}
use native.Mathlib.Omega.{arith}
use Rattle.subtree.specs.CompareLaws.{compare-out, compare-step}
use Rattle.subtree.proofs.walks_equal.Goals as goal

pub loop-preserved : goal.loop-preserved
loop-preserved c =
    let a = c.args in
    let at = c.loop in
    sym (compare-step (a.steps - at.counter) a.words.now a.root at.e a.others.now a.other_root at.f (a.steps - (at.counter + 1)) (omega arith) (sym c.in-On.is ∙ c.step_together.ensures)) ∙ at.invariant

pub returns-in-Same : goal.returns-in-Same
returns-in-Same c =
    let a = c.args in
    let at = c.loop in
    sym (compare-step (a.steps - at.counter) a.words.now a.root at.e a.others.now a.other_root at.f (a.steps - (at.counter + 1)) (omega arith) (sym c.in-Same.is ∙ c.step_together.ensures)) ∙ at.invariant

pub returns-in-Different : goal.returns-in-Different
returns-in-Different c =
    let a = c.args in
    let at = c.loop in
    sym (compare-step (a.steps - at.counter) a.words.now a.root at.e a.others.now a.other_root at.f (a.steps - (at.counter + 1)) (omega arith) (sym c.in-Different.is ∙ c.step_together.ensures)) ∙ at.invariant

pub returns : goal.returns
returns c =
    let a = c.args in
    let at = c.loop in
    sym (compare-out (a.steps - at.counter) a.words.now a.root at.e a.others.now a.other_root at.f (omega arith)) ∙ at.invariant
