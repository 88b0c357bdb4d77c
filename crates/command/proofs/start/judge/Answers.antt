-- The contract of `command::start::judge`.
use Rattle.std.proofs.Common.{◌≡◌, refl, cond, ◌∙◌, ap}
use Rattle.rules.specs.Answers.{DONE, reply}
use Rattle.rules.proofs.AnswerLaws.{refused-not_done}
use Rattle.examine.specs.Verdicts.{sound_b}
use Rattle.sound.specs.Guard.{sound_result}
use Rattle.sound.specs.GuardLaws.{validated-fits, validated-unfit}
use Rattle.command.specs.Known.{seen}
use Rattle.command.specs.Acts.{replies}
use Rattle.command.specs.StepLaws.{fit-look, did-kept}
use Rattle.command.specs.StartLaws.{starts-answered}
use Rattle.command.specs.declared.call.Call.TheVariants as Calls
use Rattle.command.specs.Commands.{called}
use Rattle.command.proofs.start.judge.Goals as goal

pub look-seen-requires : goal.look-seen-requires
look-seen-requires c = let a = c.args in fit-look a.words.now a.h a.scratch.now c.in-Ok.ensures refl c.requires

pub returns-in-Ok : goal.returns-in-Ok
unfolding called sound_result
returns-in-Ok c =
    let a = c.args in
    let L = c.look-seen.ensures in
    let v = c.look-seen.result in
    let told : c.replied.result ≡ replies (reply DONE (cond c.is_sound.result 1 0)) (seen v.verdict v.clean) =
    c.replied.ensures ∙ ap (λ x. replies x c.from.result) c.from-reply.ensures ∙ ap (replies (reply DONE (cond c.is_sound.result 1 0))) c.from.ensures in
    starts-answered (called Calls.Validate 0 0) a.words.now a.h a.scratch.now told
    (did-kept a.words.now a.h a.scratch.now
    (validated-fits a.words.now a.h a.scratch.now c.in-Ok.ensures refl L.zero
    (ap (λ b. cond b 1 0) (c.is_sound.ensures ∙ ap sound_b (L.knows.verdict L.looked)))) L.knows)

pub returns-in-Err : goal.returns-in-Err
unfolding called
returns-in-Err c =
    let a = c.args in
    starts-answered (called Calls.Validate 0 0) a.words.now a.h a.scratch.now c.refused.ensures
    (did-kept a.words.now a.h a.scratch.now
    (validated-unfit a.words.now a.h a.scratch.now c.in-Err.ensures (refused-not_done c.in-Err.refusal)) c.requires)
