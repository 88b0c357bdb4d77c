-- The contract of `sound::guard`.
use Rattle.std.proofs.Common.{◌≡◌, ◌∙◌, sym, ap}
use lib.ListN.{length}
use Rattle.rules.specs.Answers.{DONE, number_in}
use Rattle.rules.proofs.AnswerLaws.{number-refused, refused-not_done}
use Rattle.sound.specs.Guard.{fit_no, guard_no, ready_no}
use Rattle.sound.proofs.ExactLaws.{guard_exact}
use Rattle.sound.specs.GuardLaws.{fit-done, capacity-fits, guard-fits, guard-unfit, scratch-fits, scratch-unfit}
use Rattle.sound.proofs.guard.Goals as goal

pub returns-in_err-fit : goal.returns-in_err-fit
returns-in_err-fit c =
    let a = c.args in
    let unfit = (λ (e : fit_no (length a.words.now) a.h.used (length a.scratch.now) ≡ DONE). refused-not_done _ (c.in_err-fit.ensures ∙ e)) in
    let number : number_in c.from_residual.result ≡ guard_no a.words.now a.h (length a.scratch.now) =
    number-refused _ _ c.from_residual.ensures.1 ∙ c.in_err-fit.ensures ∙ sym (guard-unfit a.words.now a.h _ unfit) in
    record {
      outcome = (sym (scratch-unfit a.words.now a.h _ unfit), number);
      exact = guard_exact a.words.now a.h _ number;
    }

pub examine-requires : goal.examine-requires
examine-requires c =
    let a = c.args in
    let f = (fit-done (length a.words.now) a.h.used (length a.scratch.now)).0 (sym c.in_ok-fit.ensures) in
    let within = capacity-fits (length a.words.now) a.h.used f.frame in
    (within.0, within.1, f.room)

pub returns : goal.returns
returns c =
    let a = c.args in
    let f = (fit-done (length a.words.now) a.h.used (length a.scratch.now)).0 (sym c.in_ok-fit.ensures) in
    let number : number_in c.ready.result ≡ guard_no a.words.now a.h (length a.scratch.now) =
    c.ready.ensures ∙ ap ready_no c.examine.ensures.1 ∙ sym (guard-fits a.words.now a.h _ f) in
    record {
      outcome = (c.examine.ensures.0 ∙ sym (scratch-fits a.words.now a.h a.scratch.now f), number);
      exact = guard_exact a.words.now a.h _ number;
    }
