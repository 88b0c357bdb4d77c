-- Edges are Start or End of an identifier: document 01's values for each case, and what follows an edge by `next_traverse`.
-- Excluded: End written as its identifier alone; a walk that goes on past End of its root.
use Rattle.std.specs.Prelude.{cond, List, ℕ, ◌+◌, eqb}
use Rattle.link.specs.Words.{PARENT, NEXT, FIRST, link}
use Rattle.link.specs.Found.{found_b}
use Rattle.walk.specs.declared.edge.Edge.{Edge}
use Rattle.walk.specs.declared.edge.Edge.TheVariants.{Start, End}
use Rattle.walk.specs.declared.edge.Step.{Step}
use Rattle.walk.specs.declared.edge.Step.TheVariants as S

abbrev pub edge_id : Edge → ℕ
edge_id (Start id) = id
edge_id (End id) = id

-- Start is written as its identifier, End as that plus 32,768.
abbrev pub edge_code : Edge → ℕ
edge_code (Start id) = id
edge_code (End id) = id + 32768

-- The mark of a walk by where it stands: more while an edge is next, over, broken.
abbrev pub mark_of : Step → ℕ
mark_of (S.Edge e) = 0
mark_of S.Over = 1
mark_of S.Broken = 2

-- `next_traverse`: into the first child, else back; from there to the next sibling, else up to the parent, else over.
unfoldable pub next_traverse : List ℕ → Edge → Step
next_traverse m (Start id) = cond (eqb (link m id FIRST) 0) (S.Edge (End id)) (S.Edge (Start (link m id FIRST)))
next_traverse m (End id) =
    cond (eqb (link m id NEXT) 0)
    (cond (eqb (link m id PARENT) 0) S.Over (S.Edge (End (link m id PARENT))))
    (S.Edge (Start (link m id NEXT)))

-- Nothing follows End of the root.
unfoldable pub next_of_next : List ℕ → ℕ → Edge → Step
next_of_next m root (Start id) = next_traverse m (Start id)
next_of_next m root (End id) = cond (eqb id root) S.Over (next_traverse m (End id))

-- One step from the edge e: broken where its identifier is not found, else what follows it.
unfoldable pub step_from : List ℕ → ℕ → ℕ → Edge → Step
step_from m used root e = cond (found_b m used (edge_id e)) (next_of_next m root e) S.Broken
