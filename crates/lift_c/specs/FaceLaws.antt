-- What a call answered, once its header and result stand behind pointers: one law for all calls.
use Rattle.std.specs.Prelude.{◌≡◌, List, ℕ}
use Rattle.std.proofs.Common.{ap, ◌∙◌}
use Rattle.link.specs.declared.header.Header.{Header}
use Rattle.rules.specs.Answers.{answer}
use Rattle.rules.specs.declared.answer.Answer.{Answer}

pub packed : {words scratch : List ℕ} {a : Answer} {h : Header} {outcome : List ℕ × List ℕ × Answer}
    → (words, scratch, a) ≡ outcome → h ≡ a.header → (words, scratch, answer h a.number a.result) ≡ outcome
packed {words} {scratch} {a} e f = ap (λ (k : Header). (words, scratch, answer k a.number a.result)) f ∙ e

-- the same with a list
pub packed-list : {words scratch list : List ℕ} {a : Answer} {h : Header} {outcome : List ℕ × List ℕ × List ℕ × Answer}
    → (words, scratch, list, a) ≡ outcome → h ≡ a.header → (words, scratch, list, answer h a.number a.result) ≡ outcome
packed-list {words} {scratch} {list} {a} e f = ap (λ (k : Header). (words, scratch, list, answer k a.number a.result)) f ∙ e
