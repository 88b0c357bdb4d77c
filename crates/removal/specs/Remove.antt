-- Removing a node, a subtree, or the children of a node, on any memory and header: the words left, the header, the number answered.
-- Excluded: children of a removed root cut into single chains, or put behind the later siblings; the named node freed before its subtree.
use Rattle.std.specs.Prelude.{false, cond, not, List, ℕ, ◌+◌, eqb}
use Rattle.link.specs.Words.{PARENT, PREVIOUS, NEXT, FIRST, LAST, link}
use Rattle.link.specs.Found.{found_b}
use Rattle.link.specs.Siblings.{detach_range, rewrite_parents, transplanted}
use Rattle.link.specs.declared.header.Header.{Header}
use Rattle.rules.specs.Answers.{DONE, refusal, answer}
use Rattle.rules.specs.declared.answer.Answer.{Answer}
use Rattle.arena.specs.FreeList.{free_node}
use Rattle.removal.specs.Descendants.{remove_descendants, turns_for}

-- REMOVED where the identifier is not found.
abbrev pub removal_no : List ℕ → Header → ℕ → ℕ
removal_no m h x = refusal false false false false (not (found_b m h.used x)) false false false

-- The words and the header after a removal, where the node is found; else nothing changes.
unfoldable pub when_found : List ℕ → Header → ℕ → List ℕ × Header → List ℕ × Answer
when_found m h x after =
    cond (eqb (removal_no m h x) DONE) (after.0, answer after.1 DONE 0) (m, answer h (removal_no m h x) 0)

-- A walk along siblings looks at one more than the slots in use: the last look finds none.
abbrev pub steps_for : ℕ → ℕ
steps_for used = used + 1

-- The node with its subtree becomes a chain of one.
unfoldable pub detached : ℕ → List ℕ → ℕ → List ℕ
detached steps m x = (rewrite_parents steps (detach_range m x x) x 0).0

-- The children from first to last, in order, go between two neighbours under a parent; together, also where there is no parent.
unfoldable pub hoisted : ℕ → List ℕ → ℕ → ℕ → ℕ → ℕ → ℕ → List ℕ
hoisted steps m first last parent previous next =
    cond (eqb first 0) m
    (cond (eqb last 0) m
    (transplanted steps (detach_range m first last) first last parent previous next).0)

-- The node's links are read first; it is taken out, its children take its place, it is freed.
unfoldable pub removed : List ℕ → Header → ℕ → List ℕ × Header
removed m h x =
    let m₁ = detached (steps_for h.used) m x in
    let m₂ = hoisted (steps_for h.used) m₁ (link m x FIRST) (link m x LAST) (link m x PARENT) (link m x PREVIOUS) (link m x NEXT) in
    free_node m₂ h x

abbrev pub descendants_removed : List ℕ → Header → ℕ → List ℕ × Header
descendants_removed m h x = remove_descendants (turns_for h.used) m h x x

-- All below the node is freed, then the node.
unfoldable pub subtree_removed : List ℕ → Header → ℕ → List ℕ × Header
subtree_removed m h x =
    let r = descendants_removed (detached (steps_for h.used) m x) h x in
    free_node r.0 r.1 x

unfoldable pub remove_node : List ℕ → Header → ℕ → List ℕ × Answer
remove_node m h x = when_found m h x (removed m h x)

unfoldable pub remove_subtree : List ℕ → Header → ℕ → List ℕ × Answer
remove_subtree m h x = when_found m h x (subtree_removed m h x)

unfoldable pub remove_children : List ℕ → Header → ℕ → List ℕ × Answer
remove_children m h x = when_found m h x (descendants_removed m h x)
