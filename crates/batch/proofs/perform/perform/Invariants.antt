-- The contract of `batch::perform::perform`.
use mathlib.Core.Path.{◌≡◌}
use lib.ListN.{length}
use Rattle.batch.specs.Batch.{performed}
use Rattle.batch.specs.PerformLaws.{Performing}
use Rattle.batch.proofs.perform.perform.Given as goal

abbrev pub invariant-loop-i : goal.invariant-loop-i
invariant-loop-i l =
    (length l.words ≡ length l.initial.words) × (length l.scratch ≡ length l.initial.scratch)
    × Performing (performed l.n l.trace 0 l.initial.words l.h l.initial.scratch) l.n l.trace l.initial.list l.words l.scratch l.list l.i l.h l.knows
