-- The contract of `arena::census::count_stamps`.
use mathlib.Core.Path.{◌≡◌}
use Prim.Native.Nat.{◌+◌}
use Rattle.arena.specs.Census.{slots_that, stamp_in}
use Rattle.arena.proofs.census.count_stamps.Given as goal

abbrev pub invariant-loop-i : goal.invariant-loop-i
invariant-loop-i l = l.count + slots_that (stamp_in l.low l.high l.words) l.i ≡ slots_that (stamp_in l.low l.high l.words) l.used
