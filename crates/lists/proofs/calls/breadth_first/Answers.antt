-- The contract of `lists::calls::breadth_first`.
use mathlib.Core.Path.{refl}
use Rattle.lists.specs.Listing.{levels_listed}
use Rattle.lists.specs.ListingLaws.{guarded-done, list-err}
use Rattle.lists.proofs.calls.breadth_first.Goals as goal

pub returns-in_err-guard : goal.returns-in_err-guard
returns-in_err-guard c =
    let a = c.args in
    let g = c.in_err-guard.ensures.outcome in
    list-err a.words.now a.h a.scratch.now g.0 g.1 (λ n. n) a.list.now (levels_listed a.words.now a.h.used a.id a.list.now) _ _ refl c.from_residual.ensures.1

pub returns : goal.returns
returns c =
    let a = c.args in
    let g = c.in_ok-guard.ensures.outcome in
    guarded-done a.words.now a.h a.scratch.now g.0 g.1 a.list.now refl c.list_levels.ensures
