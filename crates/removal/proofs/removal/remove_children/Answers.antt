-- The contract of `removal::removal::remove_children`.
use mathlib.Core.Path.{refl}
use Rattle.sound.specs.GuardedLaws.{guarded-done, guarded-err}
use Rattle.removal.specs.FreeableLaws.{last-used}
use Rattle.removal.proofs.removal.remove_children.Goals as goal

pub returns-in_err-guard : goal.returns-in_err-guard
returns-in_err-guard c =
    let g = c.in_err-guard.ensures.outcome in
    guarded-err _ _ _ g.0 g.1 (λ _ h. h) (λ _. 0) _ _ _ refl c.from_residual.ensures.1

pub remove_children_found-requires : goal.remove_children_found-requires
remove_children_found-requires c =
    let a = c.args in
    let w = c.in_ok-guard.ensures.exact.0 refl in
    (w.0, last-used a.words.now a.h w.2)

pub returns : goal.returns
returns c = let g = c.in_ok-guard.ensures.outcome in guarded-done _ _ _ g.0 g.1 refl c.remove_children_found.ensures
