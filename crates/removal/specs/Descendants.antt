-- All that is below a node is freed, on any memory: children first, left to right. The node itself stays.
-- Excluded: freeing a parent before its children; freeing the named node with them; going on from a node that is not found.
use Rattle.std.specs.Prelude.{cond, List, ℕ, zero, suc, ◌+◌, ◌*◌, eqb}
use Rattle.link.specs.Words.{PARENT, NEXT, FIRST, LAST, link, set_link}
use Rattle.link.specs.Found.{found_b}
use Rattle.link.specs.declared.header.Header.{Header}
use Rattle.arena.specs.FreeList.{free_node}
use Rattle.removal.specs.declared.id.Turn.{Turn}

abbrev pub turned : Header → ℕ → Turn
turned h cursor = record { header = h; cursor = cursor }

-- The first child of a parent leaves its chain; next, if any, is then the first.
unfoldable pub front_left : List ℕ → ℕ → ℕ → List ℕ
front_left m parent next =
    let m₁ = set_link m parent FIRST next in
    cond (eqb next 0) (set_link m₁ parent LAST 0) m₁

-- To the next sibling, else up to the parent.
unfoldable pub onward : ℕ → ℕ → ℕ
onward next parent = cond (eqb next 0) parent next

-- A leaf leaves its parent's chain and is freed; the cursor goes onward.
unfoldable pub leaf_freed : List ℕ → Header → ℕ → List ℕ × Turn
leaf_freed m h leaf =
    let next = link m leaf NEXT in
    let parent = link m leaf PARENT in
    let r = free_node (front_left m parent next) h leaf in
    (r.0, turned r.1 (onward next parent))

-- One turn below x: into the first child; at a leaf other than x, free it. A cursor of none says that the loop is over: it has come
-- back to x, or to what is no node (which in sound memory is never met).
unfoldable pub turn : List ℕ → Header → ℕ → ℕ → List ℕ × Turn
turn m h x cursor =
    cond (eqb (link m cursor FIRST) 0)
    (cond (eqb cursor x) (m, turned h 0)
    (cond (found_b m h.used cursor) (leaf_freed m h cursor) (m, turned h 0)))
    (m, turned h (link m cursor FIRST))

unfoldable pub remove_descendants : ℕ → List ℕ → Header → ℕ → ℕ → List ℕ × Header
remove_descendants zero m h x cursor = (m, h)
remove_descendants (suc n) m h x cursor =
    cond (eqb cursor 0) (m, h)
    (let r = turn m h x cursor in remove_descendants n r.0 r.1.header x r.1.cursor)

-- Each node below x is gone into and freed at most once, and there are fewer than used: with so many turns the loop is never cut short
-- on sound memory.
abbrev pub turns_for : ℕ → ℕ
turns_for used = 2 * used + 1
