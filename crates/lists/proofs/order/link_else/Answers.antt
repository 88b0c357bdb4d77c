-- The contract of `lists::order::link_else`.
use mathlib.Core.Path.{◌∙◌, sym}
use borrow.Author.Tests.{eq-eqb, ne_eqb}
use Rattle.lists.specs.OrderLinks.{link_else}
use Rattle.lists.proofs.order.link_else.Goals as goal

pub returns-then-by_near-ne0 : goal.returns-then-by_near-ne0
unfolding link_else
returns-then-by_near-ne0 c = rw c.link_of-by_near.ensures (simp (ne_eqb _ _ (λ x. c.if-by_near-ne0.true (c.link_of-by_near.ensures ∙ x))))

pub returns : goal.returns
unfolding link_else
returns c = simp (eq-eqb _ _ (sym c.link_of-by_near.ensures ∙ c.if-by_near-ne0.false)) c.link_of.ensures
