-- The contract of `arena::node::read`.
use Rattle.arena.specs.ReadLaws.{read-err}
use Rattle.arena.proofs.node.read.Goals as goal

pub returns-in_err-named : goal.returns-in_err-named
returns-in_err-named c = read-err _ _ _ _ _ _ c.in_err-named.ensures c.from_residual.ensures.1
