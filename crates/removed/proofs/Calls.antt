-- Document 01's rules of removal, of the three calls: on ready memory and a found node, for every forest that memory holds (there is
-- one, and one only). What is gone, in what order its slots join the free chain, what the forest is then; memory is ready again.
use Rattle.std.specs.Prelude.{◌≡◌, refl, List, [], ◌∷◌, ◌++◌, false, ℕ, ◌*◌, ◌≤◌, length}
use Rattle.std.proofs.Common.{subst, inl}
use Rattle.link.specs.Words.{width}
use Rattle.link.specs.Found.{Found, found_b}
use Rattle.link.specs.declared.header.Header.{Header}
use Rattle.rules.specs.Answers.{REMOVED, answer}
use Rattle.rules.specs.Sound.{Ready}
use Rattle.rules.specs.Forest.{Key, children, roots, Forest, put, moved, dropped}
use Rattle.rules.specs.Tree.{Tree, pre, post}
use Rattle.forest.specs.Lists.{in_right}
use Rattle.forest.specs.Places.{place}
use Rattle.rules.specs.Lists.{In}
use Rattle.rules.specs.Links.{view}
use Rattle.forest.specs.Whole.{Forested, forest_of, sound_forested, tree_of_lem}
use Rattle.removal.specs.Descendants.{remove_descendants}
use Rattle.removal.specs.Remove.{descendants_removed, remove_node, remove_subtree, remove_children}
use Rattle.removal.specs.RemoveLaws.{when-not}
use Rattle.removed.specs.Gone.{Removes}
use Rattle.removed.specs.FreeRoot.{free-root}
use Rattle.removed.proofs.NodeGone.{node_removes, node-forest}
use Rattle.removed.specs.SubtreeRule.{closed-rule}
use Rattle.removed.proofs.SubtreeGone.{subtree_removes, subtree-forest}
use Rattle.removed.proofs.Children.{children_removes, children-forest, children-turns}

module _ (m : List ℕ) (h : Header) (room : h.used * width ≤ length m) (R : Ready m h) (x : ℕ) (f : Found m h.used x) where
  -- The tree below the node: its children in order, each with all below it.
  abbrev below : Tree
  below = (tree_of_lem m h R.sound x f).tree

  -- ---- `checked_remove`

  -- The node alone is gone.
  pub node-goes : Removes m h R (x ∷ []) (remove_node m h x)
  node-goes =
      let F = forest_of m h R.sound in
      let H = sound_forested m h R.sound in
      let P = place (view m) (Found m h.used) F H x f in
      let J = free-root m h F H in
      node_removes m h room R x f F H P.key P.left P.right P.is J.0 J.1

  -- Its children, in order, take its place between its neighbours under its parent. Where it stands in a root chain they stay
  -- together in that chain.
  pub children-take_its-place : (F : Forest) → Forested m h F → (k : Key) (ls rs : List ℕ) → F k ≡ ls ++ x ∷ rs
      → Forested (remove_node m h x).0 (remove_node m h x).1.header (moved F k ls (F (children x)) rs (children x))
  children-take_its-place F H k ls rs e = let J = free-root m h F H in node-forest m h room R x f F H k ls rs e J.0 J.1

  -- ---- `checked_remove_subtree`

  -- All below the node is gone, children first, left to right, then the node.
  pub subtree-goes : Removes m h R (post below ++ x ∷ []) (remove_subtree m h x)
  subtree-goes = subtree_removes m h room R x f

  -- Its chain closes, and none of those nodes has children; every other chain is as before.
  pub chain_closes : (F : Forest) → Forested m h F → (k : Key) (ls rs : List ℕ) → F k ≡ ls ++ x ∷ rs
      → Forested (remove_subtree m h x).0 (remove_subtree m h x).1.header (dropped (put F k (ls ++ rs)) (x ∷ pre below) (children x))
  chain_closes F H k ls rs e =
      let J = free-root m h F H in
      subst (Forested (remove_subtree m h x).0 (remove_subtree m h x).1.header)
      (λ i k'. closed-rule F k ls x rs J.0 J.1 (λ q. subst (In x) (held J.0 q J.1) stood) (pre below) k' i)
      (subtree-forest m h room R x f F H k ls rs e J.0 J.1)
    where
      stood : In x (F k)
      stood = rw e (in_right x ls (x ∷ rs) (inl refl))

      held : (j : ℕ) → k ≡ roots j → F (roots j) ≡ [] → F k ≡ []
      held j q free = rw q free

  -- ---- `remove_children`

  -- All below the node is gone, children first, left to right.
  pub children-go : Removes m h R (post below) (remove_children m h x)
  children-go = children_removes m h room R x f

  -- It stands where it stood and has no children; every other chain is as before.
  pub node_stays : (F : Forest) → Forested m h F
      → Forested (remove_children m h x).0 (remove_children m h x).1.header (dropped F (pre below) (children x))
  node_stays = children-forest m h room R x f

  -- The loop is never cut short: with 2 × used turns or more it does the same.
  pub turns_to-spare : (n : ℕ) → 2 * h.used ≤ n → remove_descendants n m h x x ≡ descendants_removed m h x
  turns_to-spare = children-turns m h room R x f

-- An identifier that is not found: REMOVED, and nothing changes.
module _ (m : List ℕ) (h : Header) (x : ℕ) (lost : found_b m h.used x ≡ false) where
  pub node-refused : remove_node m h x ≡ (m, answer h REMOVED 0)
  unfolding remove_node
  node-refused = when-not m h x _ lost

  pub subtree-refused : remove_subtree m h x ≡ (m, answer h REMOVED 0)
  unfolding remove_subtree
  subtree-refused = when-not m h x _ lost

  pub children-refused : remove_children m h x ≡ (m, answer h REMOVED 0)
  unfolding remove_children
  children-refused = when-not m h x _ lost
