-- What a batch hands back, as document 01's numbers.
use Rattle.std.specs.Prelude.{Result}
use Rattle.link.specs.declared.header.Header.{Header}
use Rattle.rules.specs.Answers.{answer_by}
use Rattle.rules.specs.declared.answer.Answer.{Answer}
use Rattle.rules.specs.declared.answer.Refusal.{Refusal}
use Rattle.batch.specs.declared.batch.Batched.{Batched}

abbrev pub answer_batched : Header → Result Batched Refusal → Answer
answer_batched = answer_by (λ _ (b : Batched). b.header) (λ (b : Batched). b.count)
