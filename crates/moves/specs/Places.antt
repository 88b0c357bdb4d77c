-- Where the four moves and the four value forms put a node, by the links of the target: under which parent, between which two.
-- Excluded: prepend done as append; insert before that puts the node behind the target.
use Rattle.std.specs.Prelude.{List, ℕ}
use Rattle.link.specs.Words.{PARENT, PREVIOUS, NEXT, FIRST, LAST, link}
use Rattle.moves.specs.declared.place.Place.{Place}
use Rattle.moves.specs.declared.place.Place.TheVariants.{Append, Prepend, After, Before}
use Rattle.moves.specs.declared.place.Spot.{Spot}

abbrev pub between : ℕ → ℕ → ℕ → Spot
between parent previous next = record { parent = parent; previous = previous; next = next }

-- The last child of the target, the first child, the sibling after it, the sibling before it.
abbrev pub spot : Place → List ℕ → ℕ → Spot
spot Append m target = between target (link m target LAST) 0
spot Prepend m target = between target 0 (link m target FIRST)
spot After m target = between (link m target PARENT) target (link m target NEXT)
spot Before m target = between (link m target PARENT) (link m target PREVIOUS) target
