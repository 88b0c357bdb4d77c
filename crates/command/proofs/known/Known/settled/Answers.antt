-- The contract of `command::known::Known::settled`.
use borrow.Author.Tests.{le-leb, lt-leb}
use Rattle.command.specs.Known.{settled_to}
use Rattle.command.proofs.known.Known.settled.Goals as goal

pub returns-then-used-self : goal.returns-then-used-self
unfolding settled_to
returns-then-used-self c = simp (le-leb _ _ c.if-used-self.true)

pub returns-else-used-self : goal.returns-else-used-self
unfolding settled_to
returns-else-used-self c = simp (lt-leb _ _ c.if-used-self.false)
