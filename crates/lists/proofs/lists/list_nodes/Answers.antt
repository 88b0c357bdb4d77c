-- The contract of `lists::lists::list_nodes`.
use mathlib.Core.Path.{◌∙◌, sym}
use native.Mathlib.Omega.{arith}
use borrow.Author.Rules.{rules}
use Rattle.lists.specs.OrderLaws.{stored-whole}
use Rattle.lists.specs.ListingLaws.{fits-room, listed-removed, listed-room, listed-done}
use Rattle.lists.specs.Orders.{ordered}
use Rattle.lists.specs.OrderLaws.{ordered-most}
use Rattle.lists.proofs.lists.list_nodes.Goals as goal

pub returns-then-not-found : goal.returns-then-not-found
returns-then-not-found c =
    let a = c.args in
    listed-removed a.words.now a.used a.order a.root a.list.now (sym c.found.ensures ∙ c.if-not-found.true)

pub returns-then-not-fits : goal.returns-then-not-fits
returns-then-not-fits c =
    let a = c.args in
    listed-room a.words.now a.used a.order a.root a.list.now (sym c.found.ensures ∙ c.if-not-found.false) c.fits.ensures c.if-not-fits.true

pub write_listed-requires : goal.write_listed-requires
write_listed-requires c =
    let a = c.args in
    let f = fits-room a.words.now a.used a.order a.root a.list.now c.fits.ensures c.if-not-fits.false in
    omega arith

pub overflow_cast-result : goal.overflow_cast-result
overflow_cast-result c =
    let a = c.args in
    let f = fits-room a.words.now a.used a.order a.root a.list.now c.fits.ensures c.if-not-fits.false in
    let b = ordered-most a.words.now a.used a.order a.root in
    let w = (stored-whole (ordered a.words.now a.used a.order a.root) a.list.now f c.write_listed.ensures).1 in
    search rules

pub returns : goal.returns
returns c =
    let a = c.args in
    listed-done a.words.now a.used a.order a.root a.list.now (sym c.found.ensures ∙ c.if-not-found.false)
    (fits-room a.words.now a.used a.order a.root a.list.now c.fits.ensures c.if-not-fits.false) c.write_listed.ensures
