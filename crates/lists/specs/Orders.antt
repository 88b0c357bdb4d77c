-- The orders of document 01's lists: each is what a step leads to, node after node, from its first to none; leaves keeps some of them.
-- Excluded: leaves that include inner nodes; a children's list that begins with the node itself; predecessors that pass over a sibling.
use Rattle.std.specs.Prelude.{Bool, true, cond, List, [], ◌∷◌, ℕ, zero, suc, eqb}
use Rattle.link.specs.Words.{PARENT, PREVIOUS, NEXT, FIRST, link}
use Rattle.lists.specs.declared.order.Order.{Order}
use Rattle.lists.specs.declared.order.Order.TheVariants.{Ancestors, Predecessors, PrecedingSiblings, FollowingSiblings, Children, Descendants, Leaves}

-- From x, step after step, until none; at most n nodes.
unfoldable pub along : (ℕ → ℕ) → ℕ → ℕ → List ℕ
along step zero x = []
along step (suc n) x = cond (eqb x 0) [] (x ∷ along step n (step x))

-- Those that pass a test.
unfoldable pub kept : (ℕ → Bool) → List ℕ → List ℕ
kept keep [] = []
kept keep (x ∷ xs) = cond (keep x) (x ∷ kept keep xs) (kept keep xs)

-- The previous sibling, else the parent.
unfoldable pub predecessor : List ℕ → ℕ → ℕ
predecessor m x = cond (eqb (link m x PREVIOUS) 0) (link m x PARENT) (link m x PREVIOUS)

-- What comes behind all that is below y, within the root: at most n nodes are asked, y and then its ancestors.
unfoldable pub after_subtree : ℕ → List ℕ → ℕ → ℕ → ℕ
after_subtree zero m root y = 0
after_subtree (suc n) m root y =
    cond (eqb y root) 0
    (cond (eqb (link m y NEXT) 0) (after_subtree n m root (link m y PARENT)) (link m y NEXT))

-- Preorder: the first child, else what comes behind.
unfoldable pub next_descendant : List ℕ → ℕ → ℕ → ℕ → ℕ
next_descendant m used root x = cond (eqb (link m x FIRST) 0) (after_subtree used m root x) (link m x FIRST)

-- The first node of an order, its step, and what it keeps.
unfoldable pub first_of : List ℕ → Order → ℕ → ℕ
first_of m Ancestors x = x
first_of m Predecessors x = x
first_of m PrecedingSiblings x = x
first_of m FollowingSiblings x = x
first_of m Children x = link m x FIRST
first_of m Descendants x = x
first_of m Leaves x = x

unfoldable pub step_of : List ℕ → ℕ → Order → ℕ → ℕ → ℕ
step_of m used Ancestors root x = link m x PARENT
step_of m used Predecessors root x = predecessor m x
step_of m used PrecedingSiblings root x = link m x PREVIOUS
step_of m used FollowingSiblings root x = link m x NEXT
step_of m used Children root x = link m x NEXT
step_of m used Descendants root x = next_descendant m used root x
step_of m used Leaves root x = next_descendant m used root x

unfoldable pub keep_b : List ℕ → Order → ℕ → Bool
keep_b m Ancestors x = true
keep_b m Predecessors x = true
keep_b m PrecedingSiblings x = true
keep_b m FollowingSiblings x = true
keep_b m Children x = true
keep_b m Descendants x = true
keep_b m Leaves x = eqb (link m x FIRST) 0

-- The list of x in an order: no list is longer than the slots in use.
unfoldable pub ordered : List ℕ → ℕ → Order → ℕ → List ℕ
ordered m used order x = kept (keep_b m order) (along (step_of m used order x) used (first_of m order x))
