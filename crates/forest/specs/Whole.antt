-- Sound memory, in words: it holds a forest, the only one, and has no cycle; each found node has its tree, with each node once,
-- and the walk from it meets that tree's edges. From the theorems over views, at the identifiers that are found.
use Rattle.std.specs.Prelude.{◌≡◌, refl, List, [], ◌∷◌, ℕ}
use Rattle.link.specs.Found.{Found}
use Rattle.link.specs.declared.header.Header.{Header}
use Rattle.rules.specs.Links.{view}
use Rattle.rules.specs.Sound.{Sound}
use Rattle.rules.specs.Forest.{children, roots, Forest, Holds}
use Rattle.rules.specs.Tree.{start_of, end_of, edges}
use Rattle.forest.specs.Found.{found-nodes, found_some}
use Rattle.forest.specs.Acyclic.{Acyclic, sound-acyclic}
use Rattle.forest.specs.Build.{built, built-holds, built-free}
use Rattle.forest.specs.Only.{children-only, chain-only}
use Rattle.forest.specs.Trees.{Below, below}
use Rattle.forest.specs.Walk.{Tour, walk}

-- The links of memory hold the forest F.
abbrev pub Forested : List ℕ → Header → Forest → Type 0
Forested m h F = Holds (view m) (Found m h.used) F

module _ (m : List ℕ) (h : Header) (S : Sound m h) where
  pub forest_of : Forest
  forest_of = built (view m) (Found m h.used) (found-nodes m h.used) S.links

  pub sound_forested : Forested m h forest_of
  unfolding forest_of
  sound_forested = built-holds (view m) (Found m h.used) (found-nodes m h.used) S.links

  -- a root chain for what comes
  pub sound-free : forest_of (roots 0) ≡ []
  unfolding forest_of
  sound-free = built-free (view m) (Found m h.used) (found-nodes m h.used) S.links 0 (λ l. found_some m h.used 0 l refl)

  pub no_cycle : Acyclic (view m) (Found m h.used)
  no_cycle = sound-acyclic (view m) (Found m h.used) (found-nodes m h.used) S.links

  pub tree_of_lem : (x : ℕ) → Found m h.used x → Below (view m) (Found m h.used) x
  tree_of_lem = below (view m) (Found m h.used) (found-nodes m h.used) S.links

  pub walk_of : (x : ℕ) (f : Found m h.used x) → Tour (view m) (start_of x) (start_of x ∷ edges (tree_of_lem x f).tree) (end_of x)
  walk_of x f = let b = tree_of_lem x f in walk (view m) x b.tree (found_some m h.used x f) b.tops b.hangs

module _ (m : List ℕ) (h : Header) (F G : Forest) (H : Forested m h F) (K : Forested m h G) where
  pub only-children : (x : ℕ) → Found m h.used x → F (children x) ≡ G (children x)
  only-children = children-only (view m) (Found m h.used) F G H K

  pub only-chain : (y : ℕ) → Found m h.used y → F (H.members.home y) ≡ G (K.members.home y)
  only-chain = chain-only (view m) (Found m h.used) F G H K
