-- The contract of `examine::marks::climb_all`.
use mathlib.Core.Path.{◌≡◌}
use Prim.Native.Nat.{◌+◌, ◌-◌}
use Rattle.examine.specs.Marks.{climbs_run}
use Rattle.examine.proofs.marks.climb_all.Given as goal

abbrev pub invariant-loop-i : goal.invariant-loop-i
invariant-loop-i l = climbs_run (l.used + 1 - l.i) l.used l.i l.scratch ≡ climbs_run l.used l.used 1 l.initial.scratch
