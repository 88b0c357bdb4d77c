-- The contract of `lists::order::next_descendant`.
use mathlib.Core.Path.{◌∙◌, sym}
use borrow.Author.Tests.{eq-eqb, ne_eqb}
use Rattle.lists.specs.Orders.{next_descendant}
use Rattle.lists.proofs.order.next_descendant.Goals as goal

pub returns-then-first-ne0 : goal.returns-then-first-ne0
unfolding next_descendant
returns-then-first-ne0 c = rw c.link_of-first.ensures (simp (ne_eqb _ _ (λ x. c.if-first-ne0.true (c.link_of-first.ensures ∙ x))))

pub returns : goal.returns
unfolding next_descendant
returns c = simp (eq-eqb _ _ (sym c.link_of-first.ensures ∙ c.if-first-ne0.false)) c.behind.ensures
