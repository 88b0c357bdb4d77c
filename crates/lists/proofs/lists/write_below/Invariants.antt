-- The contract of `lists::lists::write_below`.
use mathlib.Core.Path.{◌≡◌}
use Rattle.lists.specs.Orders.{kept, keep_b, ordered}
use Rattle.lists.specs.Storing.{stored_at}
use Rattle.lists.specs.Nodes.{below_left}
use Rattle.lists.proofs.lists.write_below.Given as goal

abbrev pub invariant-loop-x : goal.invariant-loop-x
invariant-loop-x l = stored_at (kept (keep_b l.words l.order) (below_left l.x-iterator)) l.list l.at ≡ stored_at (ordered l.words l.used l.order l.root) l.initial.list l.start
