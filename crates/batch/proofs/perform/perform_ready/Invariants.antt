-- The contract of `batch::perform::perform_ready`.
use mathlib.Core.Path.{◌≡◌}
use Prim.Native.Nat.{◌-◌, ◌*◌}
use lib.ListN.{length, take}
use Rattle.command.specs.Known.{ready}
use Rattle.batch.specs.Trace.{size}
use Rattle.batch.specs.Batch.{performed}
use Rattle.batch.specs.Performing.{before}
use Rattle.batch.specs.PerformLaws.{Performing}
use Rattle.batch.proofs.perform.perform_ready.Given as goal

abbrev pub invariant-loop-next : goal.invariant-loop-next
invariant-loop-next l =
    (length l.words ≡ length l.initial.words) × (length l.scratch ≡ length l.initial.scratch)
    × Performing (before (take (2 * l.from) l.initial.list) (performed (l.n - l.from) l.trace (l.from * size) l.initial.words l.initial.header l.initial.scratch)) l.n l.trace l.initial.list l.words l.scratch l.list l.next l.header (ready l.zeros)
