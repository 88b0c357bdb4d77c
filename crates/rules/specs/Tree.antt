-- A chain of siblings with all that is below it, as first child and next sibling; its orders, its edges, and the walk's next step.
-- Excluded: a descendants' list that has a node's later siblings before its children; freeing a parent before its children.
use Rattle.std.specs.Prelude.{◌≡◌, ◌≢◌, List, [], ◌∷◌, ◌++◌, ℕ, zero, suc}
use Rattle.rules.specs.Links.{par, nxt, fst, View}

-- A node, the tree of its children, the tree of its later siblings.
pub data Tree : Type 0 where
  none : Tree
  node : ℕ → Tree → Tree → Tree

abbrev pub top : Tree → ℕ
top none = 0
top (node x k n) = x

-- Parents before children, left to right.
abbrev pub pre : Tree → List ℕ
pre none = []
pre (node x k n) = x ∷ (pre k ++ pre n)

-- Children first, left to right.
abbrev pub post : Tree → List ℕ
post none = []
post (node x k n) = post k ++ (x ∷ post n)

-- The links hold the tree, under the parent o.
abbrev pub Hang : View → ℕ → Tree → Type 0
Hang v o none = Unit {0}
Hang v o (node x k n) = (x ≢ 0) × (v par x ≡ o) × (v nxt x ≡ top n) × (v fst x ≡ top k) × Hang v x k × Hang v o n

-- x is y or an ancestor of y, by the parents f.
pub data Above (f : ℕ → ℕ) (x : ℕ) : ℕ → Type 0 where
  self : x ≢ 0 → Above f x x
  higher : {y : ℕ} → y ≢ 0 → Above f x (f y) → Above f x y

-- Start or End of an identifier.
pub data Edge : Type 0 where
  start_of : ℕ → Edge
  end_of : ℕ → Edge

abbrev pub edges : Tree → List Edge
edges none = []
edges (node x k n) = start_of x ∷ (edges k ++ (end_of x ∷ edges n))

pub data Following : Type 0 where
  edge : Edge → Following
  over : Following

-- The first where there is a node, else the second.
abbrev pub when_node : ℕ → Following → Following → Following
when_node zero a b = b
when_node (suc x) a b = a

-- `next_traverse`: into the first child, else back; from there to the next sibling, else up to the parent.
abbrev pub following : View → Edge → Following
following v (start_of x) = when_node (v fst x) (edge (start_of (v fst x))) (edge (end_of x))
following v (end_of x) = when_node (v nxt x) (edge (start_of (v nxt x))) (when_node (v par x) (edge (end_of (v par x))) over)
