-- The contract of `preorder::calls::list_descendants`.
use mathlib.Core.Path.{refl, sym, ◌∙◌}
use borrow.Author.Rules.{rules}
use Rattle.lists.specs.Orders.{ordered}
use Rattle.lists.specs.OrderLaws.{stored-whole, ordered-most}
use Rattle.lists.specs.ListingLaws.{fits-room, listed-removed, listed-room, listed-done}
use Rattle.lists.specs.declared.order.Order.TheVariants.{Descendants}
use Rattle.preorder.proofs.calls.list_descendants.Goals as goal

pub returns-then-not-found : goal.returns-then-not-found
returns-then-not-found c =
    let a = c.args in
    (refl, listed-removed a.words.now a.h.used Descendants a.id a.list.now (sym c.found.ensures ∙ c.if-not-found.true))

pub returns-then-not-fits : goal.returns-then-not-fits
returns-then-not-fits c =
    let a = c.args in
    (refl, listed-room a.words.now a.h.used Descendants a.id a.list.now (sym c.found.ensures ∙ c.if-not-found.false) c.fits.ensures c.if-not-fits.true)

pub write_preorder-requires : goal.write_preorder-requires
write_preorder-requires c =
    let a = c.args in let p = c.requires in
    (p.0, p.1, p.2, sym c.found.ensures ∙ c.if-not-found.false, (fits-room a.words.now a.h.used Descendants a.id a.list.now c.fits.ensures c.if-not-fits.false))

pub overflow_cast-result : goal.overflow_cast-result
overflow_cast-result c =
    let a = c.args in
    let b = ordered-most a.words.now a.h.used Descendants a.id in
    let w = (stored-whole (ordered a.words.now a.h.used Descendants a.id) a.list.now (fits-room a.words.now a.h.used Descendants a.id a.list.now c.fits.ensures c.if-not-fits.false) c.write_preorder.ensures.1).1 in
    search rules

pub returns : goal.returns
returns c =
    let a = c.args in
    (c.write_preorder.ensures.0, listed-done a.words.now a.h.used Descendants a.id a.list.now (sym c.found.ensures ∙ c.if-not-found.false) (fits-room a.words.now a.h.used Descendants a.id a.list.now c.fits.ensures c.if-not-fits.false) c.write_preorder.ensures.1)
