-- The contract of `sound::validate`.
use Rattle.std.proofs.Common.{◌≡◌, ◌∙◌, refl, sym, ap, cond}
use lib.ListN.{length}
use Rattle.rules.specs.Answers.{DONE}
use Rattle.rules.proofs.AnswerLaws.{reply-refused, refused-not_done}
use Rattle.examine.specs.Verdicts.{sound_b}
use Rattle.sound.specs.Guard.{fit_no, sound_result}
use Rattle.sound.proofs.ExactLaws.{yes_exact}
use Rattle.sound.specs.GuardLaws.{fit-done, capacity-fits, validated-fits, validated-unfit}
use Rattle.sound.proofs.validate.Goals as goal

pub returns-in_err-fit : goal.returns-in_err-fit
returns-in_err-fit c =
    let a = c.args in
    let unfit = (λ (e : fit_no (length a.words.now) a.h.used (length a.scratch.now) ≡ DONE). refused-not_done _ (c.in_err-fit.ensures ∙ e)) in
    let whole = ap (λ r. (a.scratch.now, r)) (reply-refused (λ b. cond b 1 0) _ _ c.from_residual.ensures.1)
    ∙ validated-unfit a.words.now a.h a.scratch.now c.in_err-fit.ensures (refused-not_done _) in
    record { outcome = whole; exact = yes_exact a.words.now a.h a.scratch.now _ whole }

pub examine-requires : goal.examine-requires
examine-requires c =
    let a = c.args in
    let f = (fit-done (length a.words.now) a.h.used (length a.scratch.now)).0 (sym c.in_ok-fit.ensures) in
    let within = capacity-fits (length a.words.now) a.h.used f.frame in
    (within.0, within.1, f.room)

pub returns : goal.returns
unfolding sound_result
returns c =
    let a = c.args in
    let whole = validated-fits a.words.now a.h a.scratch.now c.in_ok-fit.ensures refl c.examine.ensures.0
    (ap (λ b. cond b 1 0) (c.is_sound.ensures ∙ ap sound_b c.examine.ensures.1)) in
    record { outcome = whole; exact = yes_exact a.words.now a.h a.scratch.now _ whole }
