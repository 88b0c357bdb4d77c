-- The trees still to be written: each is a chain of siblings with all that is below it, and the stack holds their tops.
-- From the definitions of trees.
use Rattle.std.specs.Prelude.{◌≡◌, refl, cond, List, [], ◌∷◌, ◌++◌, ℕ, ◌≤◌, eqb, length}
use Rattle.std.proofs.Common.{arith, length-append, ne_eqb}
use Rattle.link.specs.Found.{Found}
use Rattle.rules.specs.Lists.{All}
use Rattle.rules.specs.Links.{view}
use Rattle.rules.specs.Tree.{Tree, none, node, top, pre, Hang}

abbrev pub tops : List Tree → List ℕ
tops [] = []
tops (t ∷ ts) = top t ∷ tops ts

abbrev pub pres : List Tree → List ℕ
pres [] = []
pres (t ∷ ts) = pre t ++ pres ts

-- A tree that has a node, hangs in memory under some parent, and has only found nodes.
abbrev pub Hangs : List ℕ → ℕ → Tree → Type 0
Hangs m used none = ⊥
Hangs m used (node x k n) = (o : ℕ) × Hang (view m) o (node x k n) × All (Found m used) (pre (node x k n))

abbrev pub Pending : List ℕ → ℕ → List Tree → Type 0
Pending m used [] = Unit {0}
Pending m used (t ∷ ts) = Hangs m used t × Pending m used ts

-- A tree before the others, where it has a node.
abbrev pub onto : Tree → List Tree → List Tree
onto none ts = ts
onto (node x k n) ts = node x k n ∷ ts

pub onto-pres : (t : Tree) (ts : List Tree) → pres (onto t ts) ≡ pre t ++ pres ts
onto-pres none ts = refl
onto-pres (node x k n) ts = refl

module _ (m : List ℕ) where
  pub onto-tops : (o : ℕ) (t : Tree) (ts : List Tree) → Hang (view m) o t → tops (onto t ts) ≡ cond (eqb (top t) 0) (tops ts) (top t ∷ tops ts)
  onto-tops o none ts w = refl
  onto-tops o (node x k n) ts w = simp (ne_eqb x 0 w.0)

  pub onto-pending : (used o : ℕ) (t : Tree) (ts : List Tree) → Hang (view m) o t → All (Found m used) (pre t) → Pending m used ts
      → Pending m used (onto t ts)
  onto-pending used o none ts w l p = p
  onto-pending used o (node x k n) ts w l p = ((o, w, l), p)

  -- The stack is no longer than what is still to be written.
  pub tops-few : (used : ℕ) (ts : List Tree) → Pending m used ts → length (tops ts) ≤ length (pres ts)
  tops-few used [] p = omega arith
  tops-few used (none ∷ ts) p = absurd p.0
  tops-few used (node x k n ∷ ts) p =
      let ih = tops-few used ts p.1 in
      let a = length-append (pre (node x k n)) (pres ts) in
      omega arith
