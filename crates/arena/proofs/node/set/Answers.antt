-- The contract of `arena::node::set`.
use Rattle.arena.specs.ReadLaws.{set-err}
use Rattle.arena.proofs.node.set.Goals as goal

pub returns-in_err-named : goal.returns-in_err-named
returns-in_err-named c = set-err _ _ _ _ _ _ c.in_err-named.ensures c.from_residual.ensures.1
