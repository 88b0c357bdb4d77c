-- What the lists and comparisons of document 01 are of a tree: its leaves, its rows from the top down, its numbers.
-- Excluded: leaves that include inner nodes; a row listed before the one above it; two trees of one shape with other numbers taken for one.
use Rattle.std.specs.Prelude.{List, [], ◌∷◌, ◌++◌, ℕ, zero, suc, ◌+◌}
use Rattle.rules.specs.Tree.{Tree, none, node, Edge, start_of, end_of}

-- The nodes without children, left to right.
abbrev pub leaves : Tree → List ℕ
leaves none = []
leaves (node x none n) = x ∷ leaves n
leaves (node x (node y k l) n) = leaves (node y k l) ++ leaves n

-- The nodes of a chain, and the chains of their children.
abbrev pub row : Tree → List ℕ
row none = []
row (node x k n) = x ∷ row n

abbrev pub below : Tree → List Tree
below none = []
below (node x k n) = k ∷ below n

-- The same of several chains, one after another.
abbrev pub rows : List Tree → List ℕ
rows [] = []
rows (t ∷ ts) = row t ++ rows ts

abbrev pub belows : List Tree → List Tree
belows [] = []
belows (t ∷ ts) = below t ++ belows ts

-- The first d rows of several chains, from the top down.
abbrev pub levels : ℕ → List Tree → List ℕ
levels zero ts = []
levels (suc d) ts = rows ts ++ levels d (belows ts)

-- How many nodes there are: no tree has more rows.
abbrev pub size : Tree → ℕ
size none = 0
size (node x k n) = suc (size k + size n)

-- The tree with a number in place of each node.
abbrev pub numbered : (ℕ → ℕ) → Tree → Tree
numbered number none = none
numbered number (node x k n) = node (number x) (numbered number k) (numbered number n)

-- The nodes that start, and those that end, in a walk's edges.
abbrev pub starts : List Edge → List ℕ
starts [] = []
starts (start_of x ∷ es) = x ∷ starts es
starts (end_of x ∷ es) = starts es

abbrev pub ends : List Edge → List ℕ
ends [] = []
ends (start_of x ∷ es) = ends es
ends (end_of x ∷ es) = x ∷ ends es

-- The members from the last to the first.
abbrev pub reversed : List ℕ → List ℕ
reversed [] = []
reversed (x ∷ xs) = reversed xs ++ x ∷ []
