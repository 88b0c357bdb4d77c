-- The contract of `lists::order::after_subtree`.
use mathlib.Core.Path.{◌≡◌, ◌∙◌, sym}
use native.Mathlib.Omega.{arith}
use Prim.Native.Nat.{◌+◌, ◌-◌}
use borrow.Author.Tests.{eq-eqb, ne_eqb}
use Rattle.lists.specs.OrderLaws.{after-out, after-step}
use Rattle.lists.proofs.order.after_subtree.Goals as goal

pub returns-then-at-root : goal.returns-then-at-root
returns-then-at-root c =
    let a = c.args in
    let at = c.loop in
    sym (simp (eq-eqb at.at a.root c.if-at-root.true) at (after-step (a.steps - at.counter) a.words.now a.root at.at (omega arith))) ∙ at.invariant

pub returns-then-next-ne0 : goal.returns-then-next-ne0
returns-then-next-ne0 c =
    let a = c.args in
    let at = c.loop in
    c.link_of-next.ensures
    ∙ sym (simp (ne_eqb at.at a.root c.if-at-root.false, ne_eqb _ _ (λ x. c.if-next-ne0.true (c.link_of-next.ensures ∙ x))) at (after-step (a.steps - at.counter) a.words.now a.root at.at (omega arith))) ∙ at.invariant

pub loop-preserved : goal.loop-preserved
loop-preserved c =
    let a = c.args in
    let at = c.loop in
    let left : a.steps - (at.counter + 1) ≡ a.steps - at.counter - 1 = omega arith in
    cc (simp (ne_eqb at.at a.root c.if-at-root.false, eq-eqb _ _ (sym c.link_of-next.ensures ∙ c.if-next-ne0.false)) at (after-step (a.steps - at.counter) a.words.now a.root at.at (omega arith)))

pub returns : goal.returns
returns c = sym (after-out (c.args.steps - c.loop.counter) _ _ _ (omega arith)) ∙ c.loop.invariant
