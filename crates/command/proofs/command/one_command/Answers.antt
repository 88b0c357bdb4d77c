-- The contract of `command::command::one_command`.
use mathlib.Core.Path.{ap, ◌∙◌}
use Rattle.std.proofs.Common.{is_some}
use Rattle.command.specs.KnownLaws.{knows-nothing}
use Rattle.command.specs.StartLaws.{readied-knows, readied-same}
use Rattle.command.proofs.command.one_command.Goals as goal

pub start-begun-requires : goal.start-begun-requires
start-begun-requires c = let a = c.args in knows-nothing a.words.now a.h a.scratch.now (ap is_some c.nothing.ensures.0) c.nothing.ensures.1

pub returns-in-Some : goal.returns-in-Some
returns-in-Some c = (c.start-begun.ensures.answered c.in-Some.reply c.in-Some.is).same

pub act-requires : goal.act-requires
act-requires c = readied-knows c.start-begun.ensures c.in-None.is

pub returns-in-None : goal.returns-in-None
returns-in-None c = c.act.ensures.same ∙ readied-same c.start-begun.ensures c.in-None.is
