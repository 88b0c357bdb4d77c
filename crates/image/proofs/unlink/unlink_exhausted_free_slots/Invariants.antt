-- The contract of `image::unlink::unlink_exhausted_free_slots`.
use mathlib.Core.Path.{◌≡◌}
use Prim.Native.Nat.{◌+◌, ◌-◌, ◌≤◌}
use lib.ListN.{length}
use Rattle.image.specs.Unlink.{unlink_run, unlinked}
use Rattle.image.proofs.unlink.unlink_exhausted_free_slots.Given as goal

abbrev pub invariant-loop : goal.invariant-loop
invariant-loop l = record {
  size : length l.words ≡ length l.initial.words;
  low : l.previous ≤ l.used;
  rest : unlink_run (l.used + 1 - l.counter) l.words l.used l.first l.previous l.slot ≡ unlinked l.initial.words l.fn.h;
}
