-- Crate batch: commands one after the other. Its public functions, each with one outcome; of `perform`, all but what it remembers.
-- Excluded: a batch that does its first command and only answers the rest; places past the answers that may change.
use Rattle.std.proofs.Common.{sym, ◌∙◌}
use Rattle.std.specs.Prelude.{◌≡◌, List, ℕ, Result}
use Rattle.determined.specs.Outcome.{OneOutcome, one_value, one-three_left, OneSeen}
use Rattle.link.specs.declared.header.Header.{Header}
use Rattle.rules.specs.declared.answer.Refusal.{Refusal}
use Rattle.rules.proofs.AnswerLaws.{answer_by-one}
use Rattle.batch.specs.declared.batch.Batched.{Batched}
use Rattle.batch.specs.Answered.{answer_batched}
use Rattle.batch.proofs.batch.BatchedOutcome.value as batched_value
use Rattle.batch.proofs.batch.BatchedOutcome.after as batched_after
use Rattle.batch.proofs.perform.perform
use Rattle.batch.proofs.batch.batch
use Rattle.batch.proofs.perform.put_answer
use Rattle.batch.proofs.trace.command_at
use Rattle.batch.proofs.trace.answers_of

pub one-batched_value : OneOutcome batched_value.Kinds.ps batched_value.Kinds.r batched_value.Reads.Learnt
one-batched_value _ _ _ _ = one_value (λ t. (t, (tt, tt)))

pub one-batched_after : OneOutcome batched_after.Kinds.ps batched_after.Kinds.r batched_after.Reads.Learnt
one-batched_after _ _ _ _ = one_value (λ t. (t, (tt, (tt, tt))))

-- What a batch hands back is known from its numbers.
answer_batched-one : (h : Header) (r s : Result Batched Refusal) → answer_batched h r ≡ answer_batched h s → r ≡ s
answer_batched-one h =
    answer_by-one (λ _ (b : Batched). b.header) (λ (b : Batched). b.count) h (λ x y p q i. record { header = p i; count = q i })

pub one-batch : OneOutcome batch.Kinds.ps batch.Kinds.r batch.Reads.Learnt
one-batch _ _ _ _ = one-three_left (answer_batched _) (answer_batched-one _) (λ m s l r. (r, (m, (tt, (s, (tt, (l, tt)))))))

pub one-put_answer : OneOutcome put_answer.Kinds.ps put_answer.Kinds.r put_answer.Reads.Learnt
one-put_answer _ _ _ _ = one_value (λ t. (tt, (t, (tt, (tt, tt)))))

pub one-command_at : OneOutcome command_at.Kinds.ps command_at.Kinds.r command_at.Reads.Learnt
one-command_at _ _ _ _ = one_value (λ t. (t, (tt, (tt, tt))))

pub one-answers_of : OneOutcome answers_of.Kinds.ps answers_of.Kinds.r answers_of.Reads.Learnt
one-answers_of _ _ _ _ = one_value (λ t. (t, (tt, tt)))

-- Words, scratch, list and header. Open: what is remembered.
pub seen-perform :
    OneSeen perform.Kinds.ps perform.Kinds.r (List ℕ × List ℕ × List ℕ × Header) (λ _ _ x. (x.1.0, x.1.1.1.0, x.1.1.1.1.1.1.1.0, x.0.header)) perform.Reads.Learnt
seen-perform _ _ _ _ p q i =
    ((p.words ∙ sym q.words) i, (p.scratch ∙ sym q.scratch) i, (p.answers ∙ sym q.answers) i, (p.header ∙ sym q.header) i)
