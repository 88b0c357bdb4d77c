-- The contract of `preorder::calls::descendants`.
use mathlib.Core.Path.{refl, ◌∙◌}
use Rattle.lists.specs.Listing.{listed}
use Rattle.lists.specs.ListingLaws.{guarded-done, list-err}
use Rattle.lists.specs.declared.order.Order.TheVariants.{Descendants}
use Rattle.preorder.specs.StackLaws.{after-guard}
use Rattle.preorder.proofs.calls.descendants.Goals as goal

pub returns-in_err-guard : goal.returns-in_err-guard
returns-in_err-guard c =
    let a = c.args in
    let g = c.in_err-guard.ensures.outcome in
    list-err a.words.now a.h a.scratch.now g.0 g.1 (λ n. n) a.list.now (listed a.words.now a.h.used Descendants a.id a.list.now) _ _ refl c.from_residual.ensures.1

pub list_descendants-requires : goal.list_descendants-requires
list_descendants-requires c =
    let a = c.args in
    let g = c.in_ok-guard.ensures in
    let r = g.exact.0 refl in
    let z = after-guard a.words.now a.h a.scratch.now g.outcome.0 r.0 r.1 in
    (r.2.sound, z.0, z.1)

pub returns : goal.returns
returns c =
    let a = c.args in
    let g = c.in_ok-guard.ensures.outcome in
    let d = c.list_descendants.ensures in
    guarded-done a.words.now a.h a.scratch.now (d.0 ∙ g.0) g.1 a.list.now refl d.1
