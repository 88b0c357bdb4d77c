-- The contract of `examine::marks::climb`.
use mathlib.Core.Path.{◌≡◌}
use Prim.Native.Nat.{◌+◌, ◌-◌, ◌≤◌}
use Rattle.examine.specs.Marks.{climb_run}
use Rattle.examine.proofs.marks.climb.Given as goal

abbrev pub invariant-loop : goal.invariant-loop
invariant-loop l = record {
  in_use : l.x ≤ l.used;
  left : climb_run (l.used + 2 - l.counter) l.used l.i l.x l.scratch ≡ climb_run (l.used + 2) l.used l.i l.i l.initial.scratch;
}
