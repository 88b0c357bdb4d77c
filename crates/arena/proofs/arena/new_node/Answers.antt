-- The contract of `arena::arena::new_node`.
use Rattle.std.proofs.Common.{refl}
use Rattle.rules.specs.declared.answer.Created.{Created}
use Rattle.sound.specs.GuardedLaws.{guarded-done, guarded-err}
use Rattle.arena.specs.Create.{new_call}
use Rattle.arena.proofs.arena.new_node.Goals as goal

pub returns-in_err-guard : goal.returns-in_err-guard
unfolding new_call
returns-in_err-guard c =
    guarded-err _ _ _ c.in_err-guard.ensures.outcome.0 c.in_err-guard.ensures.outcome.1 (λ _ (made : Created). made.header) (λ (made : Created). made.id)
    _ _ _ refl c.from_residual.ensures.1

pub create-requires : goal.create-requires
create-requires c = let w = c.in_ok-guard.ensures.exact.0 refl in (w.2, w.0)

pub returns : goal.returns
unfolding new_call
returns c = guarded-done _ _ _ c.in_ok-guard.ensures.outcome.0 c.in_ok-guard.ensures.outcome.1 refl c.create.ensures
