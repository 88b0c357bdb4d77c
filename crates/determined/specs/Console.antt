-- Crate console: one turn of the program. What it means is one: memory, header, the text of the answers, the bytes kept for the next turn.
-- Open: places of its buffers that nothing is read from, and what is remembered of the memory (docs/EXCEPTIONS.md).
use Rattle.std.proofs.Common.{sym, ap, ◌∙◌}
use Rattle.std.specs.Prelude.{List, ℕ, ◌*◌, ◌/◌, take, drop}
use Rattle.link.specs.declared.header.Header.{Header}
use Rattle.batch.specs.Trace.{size}
use Rattle.determined.specs.Outcome.{OneSeen}
use Rattle.console.proofs.turn.take_turn

-- Words, scratch, header; the text, which lies from the first place of the output on; how many bytes are left.
pub seen-take_turn :
    OneSeen take_turn.Kinds.ps take_turn.Kinds.r (List ℕ × List ℕ × Header × List ℕ × ℕ)
    (λ _ _ (t, (words, (_, (scratch, (_, (_, (_, (_, (out, _))))))))). (words, scratch, t.header, take t.text out, t.left)) take_turn.Reads.Learnt
seen-take_turn _ _ _ _ p q i = (
  (p.words ∙ sym q.words) i,
  (p.scratch ∙ sym q.scratch) i,
  (p.header ∙ sym q.header) i,
  (p.text ∙ sym q.text) i,
  (p.left ∙ sym q.left) i,
)

-- The bytes that are left, from the first place on.
pub seen-rest :
    OneSeen take_turn.Kinds.ps take_turn.Kinds.r (List ℕ)
    (λ _ _ (t, (_, (_, (_, (_, (bytes, _)))))). take t.left bytes) take_turn.Reads.Learnt
seen-rest _ a _ _ p q =
    p.rest ∙ ap (λ (n : ℕ). take n (drop (a.1.1.1.1.1.0 / size * size) a.1.1.1.1.0.now)) (p.left ∙ sym q.left) ∙ sym q.rest
