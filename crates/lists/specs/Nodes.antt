-- What the two iterators over nodes still have to give: from their next node on, at most as many as can still come.
-- Excluded: a node below the root that comes twice; one behind the last that can be.
use Rattle.std.specs.Prelude.{List, ℕ}
use Rattle.lists.specs.Orders.{along, next_descendant}
use Rattle.lists.specs.OrderLinks.{linked}
use Rattle.lists.specs.declared.nodes.Below.{Below}
use Rattle.lists.specs.declared.nodes.Along.{Along}

abbrev pub below_left : Below → List ℕ
below_left s = along (next_descendant s.words.now s.used s.root) s.left s.next

abbrev pub along_left : Along → List ℕ
along_left s = linked s.words.now s.near s.far s.left s.next
