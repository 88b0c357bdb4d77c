-- The contract of `command::known::zero_from`.
use borrow.Author.Rules.{rules}
use Rattle.command.specs.KnownLaws.{zeroed_from}
use Rattle.command.proofs.known.zero_from.Goals as goal

pub returns : goal.returns
returns c = let a = c.args in let h = c.fill.ensures in zeroed_from a.clean a.n a.scratch.now c.fill.new.self c.requires.0 c.requires.1 (search rules)
