-- The contract of `command::start::enter`.
use mathlib.Core.Path.{ap}
use Rattle.rules.specs.Answers.{number_in}
use Rattle.command.specs.StartLaws.{entered-ready, entered-refused}
use Rattle.command.proofs.start.enter.Goals as goal

pub returns-in-Ok : goal.returns-in-Ok
returns-in-Ok c = let a = c.args in entered-ready a.words.now a.h a.scratch.now c.pass-gate.ensures (ap number_in c.in-Ok.is) c.readied.ensures

pub returns-in-Err : goal.returns-in-Err
returns-in-Err c = let a = c.args in entered-refused a.words.now a.h a.scratch.now c.in-Err.refusal c.pass-gate.ensures c.in-Err.is c.refused.ensures
