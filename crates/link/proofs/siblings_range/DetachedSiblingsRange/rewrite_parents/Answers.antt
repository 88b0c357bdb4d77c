-- The contract of `link::siblings_range::DetachedSiblingsRange::rewrite_parents`.
use mathlib.Core.Path.{◌≡◌}
use native.Mathlib.Omega.{arith}
use Prim.Native.Nat.{◌+◌, ◌-◌}
use borrow.Author.Tests.{ne_eqb}
use Rattle.link.specs.SiblingLaws.{rewrite-step}
use Rattle.link.proofs.siblings_range.DetachedSiblingsRange.rewrite_parents.Goals as goal

pub loop-preserved : goal.loop-preserved
loop-preserved c =
    let at = c.loop in
    let a = c.args in
    let left : a.steps - (at.counter + 1) ≡ a.steps - at.counter - 1 = omega arith in
    cc (simp (ne_eqb at.child 0 c.if-child-eq0.false, ne_eqb at.child a.parent c.if-child-parent.false) at
    (rewrite-step (a.steps - at.counter) at.words at.child a.parent (omega arith)))
