-- The contract of `lists::calls::descendant_count`.
use mathlib.Core.Path.{refl}
use Rattle.sound.specs.GuardedLaws.{read-passed, read-err}
use Rattle.lists.specs.Listing.{counted}
use Rattle.lists.proofs.calls.descendant_count.Goals as goal

pub returns-in_err-guard : goal.returns-in_err-guard
returns-in_err-guard c =
    let a = c.args in
    let g = c.in_err-guard.ensures.outcome in
    read-err a.words.now a.h a.scratch.now g.0 g.1 (λ n. n) (counted a.words.now a.h.used a.id) _ _ refl c.from_residual.ensures.1

pub returns : goal.returns
returns c =
    let a = c.args in
    let g = c.in_ok-guard.ensures.outcome in
    read-passed a.words.now a.h a.scratch.now g.0 g.1 refl c.count_nodes.ensures
