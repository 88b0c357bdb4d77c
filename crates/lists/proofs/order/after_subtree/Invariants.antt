-- The contract of `lists::order::after_subtree`.
use mathlib.Core.Path.{◌≡◌}
use Prim.Native.Nat.{◌-◌}
use Rattle.lists.specs.Orders.{after_subtree}
use Rattle.lists.proofs.order.after_subtree.Given as goal

abbrev pub invariant-loop : goal.invariant-loop
invariant-loop l = after_subtree (l.steps - l.counter) l.words l.root l.at ≡ after_subtree l.steps l.words l.root l.y
