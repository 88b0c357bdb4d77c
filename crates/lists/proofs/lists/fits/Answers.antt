-- The contract of `lists::lists::fits`.
use native.Mathlib.Omega.{arith}
use lib.ListN.{length}
use borrow.Author.Tests.{le-ltb, le-leb}
use Rattle.lists.specs.Orders.{ordered}
use Rattle.lists.specs.OrderLaws.{ordered-most}
use Rattle.lists.proofs.lists.fits.Goals as goal

pub returns-then-used-places : goal.returns-then-used-places
returns-then-used-places c =
    let a = c.args in
    let b = ordered-most a.words.now a.used a.order a.root in
    let f = c.if-used-places.true in
    simp (le-leb a.used a.places (omega arith), le-ltb a.places (length (ordered a.words.now a.used a.order a.root)) (omega arith))
