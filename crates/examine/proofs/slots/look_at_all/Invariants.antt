-- The contract of `examine::slots::look_at_all`.
use mathlib.Core.Path.{◌≡◌}
use Prim.Native.Nat.{◌+◌, ◌-◌}
use Rattle.examine.specs.Slots.{look_run}
use Rattle.examine.proofs.slots.look_at_all.Given as goal

abbrev pub invariant-loop-s : goal.invariant-loop-s
invariant-loop-s l = look_run (l.used + 1 - l.s) l.words l.used l.s l.scratch ≡ look_run l.used l.words l.used 1 l.initial.scratch
