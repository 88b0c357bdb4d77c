-- The contract of `lists::order::behind`.
use mathlib.Core.Path.{◌∙◌, sym, ap}
use Prim.Native.Nat.{◌-◌}
use native.Mathlib.Omega.{arith}
use borrow.Author.Tests.{eq-eqb, ne_eqb}
use Rattle.lists.specs.Orders.{after_subtree}
use Rattle.lists.specs.OrderLaws.{after-out, after-step}
use Rattle.lists.proofs.order.behind.Goals as goal
use Rattle.lists.proofs.order.behind.Goals.{then-steps-eq0-via-then-steps-eq0, then-steps-eq0-via-else-steps-eq0+then-y-root}

pub returns-then-steps-eq0 : goal.returns-then-steps-eq0
returns-then-steps-eq0 c =
    let a = c.args in
    elim c.then-steps-eq0.branch [
      | then-steps-eq0-via-then-steps-eq0 w ↦ sym (after-out a.steps a.words.now a.root a.y (omega arith))
      | then-steps-eq0-via-else-steps-eq0+then-y-root w ↦
          let z = w.if-steps-eq0.false in
          sym (simp (eq-eqb a.y a.root w.if-y-root.true) at (after-step a.steps a.words.now a.root a.y (omega arith)))
    ]

pub returns-then-next-ne0 : goal.returns-then-next-ne0
returns-then-next-ne0 c =
    let a = c.args in
    let z = c.if-steps-eq0.false in
    c.link_of-next.ensures ∙ sym (simp (ne_eqb a.y a.root c.if-y-root.false, ne_eqb _ _ (λ e. c.if-next-ne0.true (c.link_of-next.ensures ∙ e))) at (after-step a.steps a.words.now a.root a.y (omega arith)))

pub returns : goal.returns
returns c =
    let a = c.args in
    let z = c.if-steps-eq0.false in
    c.after_subtree.ensures ∙ ap (after_subtree (a.steps - 1) a.words.now a.root) c.link_of-parent.ensures
    ∙ sym (simp (ne_eqb a.y a.root c.if-y-root.false, eq-eqb _ _ (sym c.link_of-next.ensures ∙ c.if-next-ne0.false)) at (after-step a.steps a.words.now a.root a.y (omega arith)))
