-- Crate sound: the validator and the guard. Its public functions, each with one outcome.
-- Excluded: a validator that is free on sound memory; a guard that may leave scratch as it likes.
use Rattle.std.proofs.Common.{sym, ◌∙◌}
use Rattle.rules.specs.Answers.{number_in, reply_yes}
use Rattle.rules.proofs.AnswerLaws.{number_in-one, reply_yes-one}
use Rattle.determined.specs.Outcome.{OneOutcome, one_view, one_left}
use Rattle.sound.proofs.guard
use Rattle.sound.proofs.fit
use Rattle.sound.proofs.ready
use Rattle.sound.proofs.validate

pub one-fit : OneOutcome fit.Kinds.ps fit.Kinds.r fit.Reads.Learnt
one-fit _ _ _ _ = one_view number_in number_in-one (λ r. (r, (tt, (tt, (tt, tt)))))

pub one-ready : OneOutcome ready.Kinds.ps ready.Kinds.r ready.Reads.Learnt
one-ready _ _ _ _ = one_view number_in number_in-one (λ r. (r, (tt, tt)))

pub one-validate : OneOutcome validate.Kinds.ps validate.Kinds.r validate.Reads.Learnt
one-validate _ _ _ _ p q = one_left reply_yes reply_yes-one (λ s r. (r, (tt, (tt, (s, tt))))) p.0 q.0

pub one-guard : OneOutcome guard.Kinds.ps guard.Kinds.r guard.Reads.Learnt
one-guard _ _ _ _ p q =
    let told = number_in-one _ _ (p.0.1 ∙ sym q.0.1) in
    λ i. (told i, (tt, (tt, ((p.0.0 ∙ sym q.0.0) i, tt))))
