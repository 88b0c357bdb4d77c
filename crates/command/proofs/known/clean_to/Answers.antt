-- The contract of `command::known::clean_to`.
use Rattle.command.specs.KnownLaws.{cleaned-more, cleaned-less}
use Rattle.command.proofs.known.clean_to.Goals as goal

pub returns-then-clean-n : goal.returns-then-clean-n
returns-then-clean-n c = let a = c.args in cleaned-more a.n a.scratch.now c.requires.2 c.zero_from.ensures

pub returns : goal.returns
returns c = let a = c.args in cleaned-less a.n a.clean a.scratch.now c.if-clean-n.false c.requires.0 c.requires.1
