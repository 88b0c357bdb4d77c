-- The contract of `lists::lists::write_along`.
use mathlib.Core.Path.{◌≡◌}
use Rattle.lists.specs.OrderLinks.{linked}
use Rattle.lists.specs.Storing.{stored_at}
use Rattle.lists.specs.Nodes.{along_left}
use Rattle.lists.proofs.lists.write_along.Given as goal

abbrev pub invariant-loop-x : goal.invariant-loop-x
invariant-loop-x l = stored_at (along_left l.x-iterator) l.list l.at ≡ stored_at (linked l.words l.near l.far l.used l.first) l.initial.list l.start
