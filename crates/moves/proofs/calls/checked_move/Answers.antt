-- The contract of `moves::calls::checked_move`.
use mathlib.Core.Path.{refl}
use Rattle.sound.specs.GuardedLaws.{guarded-done, guarded-err}
use Rattle.moves.proofs.calls.checked_move.Goals as goal

pub returns-in_err-guard : goal.returns-in_err-guard
returns-in_err-guard c =
    let g = c.in_err-guard.ensures.outcome in
    guarded-err _ _ _ g.0 g.1 (λ h _. h) (λ _. 0) _ _ _ refl c.from_residual.ensures.1

pub move_node-requires : goal.move_node-requires
move_node-requires c = (c.in_ok-guard.ensures.exact.0 refl).0

pub returns : goal.returns
returns c = let g = c.in_ok-guard.ensures.outcome in guarded-done _ _ _ g.0 g.1 refl c.move_node.ensures
