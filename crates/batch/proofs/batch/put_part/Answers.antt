-- The contract of `batch::batch::put_part`.
use mathlib.Core.Path.{ap, ◌∙◌}
use Prim.Native.Nat.{◌+◌, ◌*◌}
use lib.ListN.{set}
use borrow.Author.Tests.{lt-ltb, le-ltb}
use Rattle.rules.specs.declared.answer.Reply.{Reply}
use Rattle.batch.specs.BatchLaws.{with_part}
use Rattle.batch.proofs.batch.put_part.Goals as goal

pub returns-then-n-count : goal.returns-then-n-count
unfolding with_part
returns-then-n-count c =
    let a = c.args in
    simp (lt-ltb _ _ c.if-n-count.true)
    (c.put_answer.ensures ∙ ap (λ (r : Reply). set (set a.list.now (2 * a.n) r.number) (2 * a.n + 1) r.result) c.from.ensures)

pub returns-else-n-count : goal.returns-else-n-count
unfolding with_part
returns-else-n-count c = simp (le-ltb _ _ c.if-n-count.false)
