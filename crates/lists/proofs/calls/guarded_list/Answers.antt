-- The contract of `lists::calls::guarded_list`.
use mathlib.Core.Path.{refl}
use Rattle.lists.specs.Listing.{listed}
use Rattle.lists.specs.ListingLaws.{guarded-done, list-err}
use Rattle.lists.proofs.calls.guarded_list.Goals as goal

pub returns-in_err-guard : goal.returns-in_err-guard
returns-in_err-guard c =
    let a = c.args in
    let g = c.in_err-guard.ensures.outcome in
    list-err a.words.now a.h a.scratch.now g.0 g.1 (λ n. n) a.list.now (listed a.words.now a.h.used a.order a.root a.list.now) _ _ refl c.from_residual.ensures.1

pub returns : goal.returns
returns c =
    let a = c.args in
    let g = c.in_ok-guard.ensures.outcome in
    guarded-done a.words.now a.h a.scratch.now g.0 g.1 a.list.now refl c.list_nodes.ensures
