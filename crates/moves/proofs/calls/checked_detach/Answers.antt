-- The contract of `moves::calls::checked_detach`.
use mathlib.Core.Path.{refl}
use Rattle.sound.specs.GuardedLaws.{guarded-done, guarded-err}
use Rattle.moves.proofs.calls.checked_detach.Goals as goal

pub returns-in_err-guard : goal.returns-in_err-guard
returns-in_err-guard c =
    let g = c.in_err-guard.ensures.outcome in
    guarded-err _ _ _ g.0 g.1 (λ h _. h) (λ _. 0) _ _ _ refl c.from_residual.ensures.1

pub returns : goal.returns
returns c = let g = c.in_ok-guard.ensures.outcome in guarded-done _ _ _ g.0 g.1 refl c.detach_node.ensures
