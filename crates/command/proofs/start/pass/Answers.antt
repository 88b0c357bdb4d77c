-- The contract of `command::start::pass`.
use mathlib.Core.Path.{refl, sym, ap, ◌∙◌}
use Rattle.std.proofs.Common.{Err}
use Rattle.rules.proofs.AnswerLaws.{refused-not_done}
use Rattle.sound.specs.Guard.{ready_no}
use Rattle.command.specs.KnownLaws.{settled_told}
use Rattle.command.specs.StepLaws.{fit-look, gated-fit, gated-unfit, gated-settled}
use Rattle.command.proofs.start.pass.Goals as goal

pub returns-in-Some : goal.returns-in-Some
returns-in-Some c =
    let a = c.args in
    let w = settled_told a.known a.h.used (sym c.settled.ensures ∙ c.in-Some.is) in
    gated-settled a.words.now a.h a.scratch.now c.requires w.0 (c.ready.ensures ∙ ap ready_no (sym w.1), refl)

pub look-seen-requires : goal.look-seen-requires
look-seen-requires c = let a = c.args in fit-look a.words.now a.h a.scratch.now c.in-Ok.ensures refl c.requires

pub returns-in-Ok : goal.returns-in-Ok
returns-in-Ok c =
    let a = c.args in
    gated-fit a.words.now a.h a.scratch.now c.in-Ok.ensures refl c.look-seen.ensures (c.ready-in-Ok.ensures, c.from.ensures)

pub returns-in-Err : goal.returns-in-Err
returns-in-Err c =
    let a = c.args in
    gated-unfit a.words.now a.h a.scratch.now c.in-Err.ensures (Err c.in-Err.refusal) refl (refused-not_done c.in-Err.refusal) c.requires
