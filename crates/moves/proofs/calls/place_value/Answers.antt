-- The contract of `moves::calls::place_value`.
use mathlib.Core.Path.{refl}
use Rattle.rules.specs.declared.answer.Created.{Created}
use Rattle.sound.specs.GuardedLaws.{guarded-done, guarded-err}
use Rattle.moves.proofs.calls.place_value.Goals as goal

pub returns-in_err-guard : goal.returns-in_err-guard
returns-in_err-guard c =
    let g = c.in_err-guard.ensures.outcome in
    guarded-err _ _ _ g.0 g.1 (λ _ (made : Created). made.header) (λ (made : Created). made.id) _ _ _ refl c.from_residual.ensures.1

pub value_node-requires : goal.value_node-requires
value_node-requires c = let w = c.in_ok-guard.ensures.exact.0 refl in (w.2, w.0)

pub returns : goal.returns
returns c = let g = c.in_ok-guard.ensures.outcome in guarded-done _ _ _ g.0 g.1 refl c.value_node.ensures
