-- The contract of `preorder::preorder::write_preorder`.
use mathlib.Core.Path.{◌≡◌}
use Prim.Native.Nat.{◌-◌}
use lib.ListN.{length}
use Rattle.lists.specs.Orders.{ordered}
use Rattle.lists.specs.declared.order.Order.TheVariants.{Descendants}
use Rattle.preorder.specs.TurnLaws.{Turning}
use Rattle.preorder.proofs.preorder.write_preorder.Given as goal

abbrev pub invariant-loop-x : goal.invariant-loop-x
invariant-loop-x l =
    (length l.list ≡ length l.initial.list) × (length l.scratch ≡ length l.initial.scratch) × Turning l.words l.used (ordered l.words l.used Descendants l.root) l.initial.scratch l.initial.list l.scratch l.list l.top l.x l.at

abbrev pub decreases-loop-x : goal.decreases-loop-x
decreases-loop-x l = length l.initial.list - l.at
