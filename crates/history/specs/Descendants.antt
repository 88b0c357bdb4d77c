-- The nodes of the tree below a found node are its descendants: each has the node above it, and a node that has it above stands in the
-- tree, since its chain of siblings is one of the tree's.
use Rattle.std.specs.Prelude.{◌≡◌, refl, ◌≢◌, ◌⊎◌, ◌↔◌, List, ◌∷◌, ◌++◌, ℕ}
use Rattle.std.proofs.Common.{sym, ap, ◌∙◌, subst, inl, inr}
use Rattle.link.specs.Found.{Found}
use Rattle.link.specs.declared.header.Header.{Header}
use Rattle.rules.specs.Lists.{head_or, In, Off}
use Rattle.rules.specs.Links.{par, prv, nxt, fst, View, view}
use Rattle.rules.specs.Sound.{Sound}
use Rattle.rules.specs.Forest.{Key, children, roots, owner, Forest, Segment, OwnerIn}
use Rattle.rules.specs.Tree.{Tree, none, node, top, pre, post, Hang, Above, self, higher}
use Rattle.forest.specs.Lists.{in_left, in_right, in_cases, all_in}
use Rattle.forest.specs.Found.{found_some}
use Rattle.forest.specs.Members.{zero_off}
use Rattle.forest.specs.Places.{Place, place}
use Rattle.forest.specs.Whole.{Forested, forest_of, sound_forested, tree_of_lem}
use Rattle.keeps_moves.specs.Rule.{Ancestor}

-- ---- preorder and postorder have the same nodes

pub in-post : (t : Tree) (y : ℕ) → In y (post t) ↔ In y (pre t)
in-post none y = (λ i. i, λ i. i)
in-post (node x k n) y = (to (in-post k y) (in-post n y), from (in-post k y) (in-post n y))
  where
    to : In y (post k) ↔ In y (pre k) → In y (post n) ↔ In y (pre n) → In y (post k ++ (x ∷ post n)) → In y (x ∷ (pre k ++ pre n))
    to f g i = go (in_cases y (post k) (x ∷ post n) i)
      where
        go : In y (post k) ⊎ In y (x ∷ post n) → In y (x ∷ (pre k ++ pre n))
        go (inl j) = inr (in_left y (pre k) (pre n) (f.0 j))
        go (inr (inl e)) = inl e
        go (inr (inr j)) = inr (in_right y (pre k) (pre n) (g.0 j))

    from : In y (post k) ↔ In y (pre k) → In y (post n) ↔ In y (pre n) → In y (x ∷ (pre k ++ pre n)) → In y (post k ++ (x ∷ post n))
    from f g (inl e) = in_right y (post k) (x ∷ post n) (inl e)
    from f g (inr i) = go (in_cases y (pre k) (pre n) i)
      where
        go : In y (pre k) ⊎ In y (pre n) → In y (post k ++ (x ∷ post n))
        go (inl j) = in_left y (post k) (x ∷ post n) (f.1 j)
        go (inr j) = in_right y (post k) (x ∷ post n) (inr (g.1 j))

-- ---- a node of the tree has the owner above it, properly

above_then : {f : ℕ → ℕ} {x y z : ℕ} → Above f x y → Above f y z → Above f x z
above_then a (self n) = a
above_then a (higher n b) = higher n (above_then a b)

hang-above : (v : View) (o : ℕ) (t : Tree) → o ≢ 0 → Hang v o t → (y : ℕ) → In y (pre t) → Above (v par) o (v par y)
hang-above v o (node a k n) oz h y (inl e) = subst (Above (v par) o) (sym (ap (v par) e ∙ h.1)) (self oz)
hang-above v o (node a k n) oz h y (inr t) =
    go (in_cases y (pre k) (pre n) t) (hang-above v a k h.0 h.4 y) (hang-above v o n oz h.5 y)
  where
    go : In y (pre k) ⊎ In y (pre n) → (In y (pre k) → Above (v par) a (v par y)) → (In y (pre n) → Above (v par) o (v par y)) → Above (v par) o (v par y)
    go (inl w) f g = above_then (higher h.0 (subst (Above (v par) o) (sym h.1) (self oz))) (f w)
    go (inr w) f g = g w
hang-above v o none oz h y x3 = elim x3 [ ]

-- ---- a chain that begins where the tree does is of the tree

chain_in : (p q : ℕ → ℕ) (v : View) (o b : ℕ) (xs : List ℕ) (t : Tree) → Segment p q (v nxt) o b xs 0 → Off 0 xs → Hang v o t → head_or xs 0 ≡ top t
    → (y : ℕ) → In y xs → In y (pre t)
chain_in p q v o b (x ∷ xs) none s z h e y i = absurd (z.0 (sym e))
chain_in p q v o b (x ∷ xs) (node a k r) s z h e y (inl w) = inl (w ∙ e)
chain_in p q v o b (x ∷ xs) (node a k r) s z h e y (inr w) =
    inr (in_right y (pre k) (pre r) (chain_in p q v o x xs r s.3 z.1 h.5 (sym s.2 ∙ ap (v nxt) e ∙ h.2) y w))
chain_in p q v o b mathlib.Core.List.[] t s z h e y i = elim i [ ]

-- a node of the tree, and the tree of its children: what is in that is in the tree
record Inner (v : View) (t : Tree) (p : ℕ) : Type 0 where
  tree : Tree
  tops : v fst p ≡ top tree
  hangs : Hang v p tree
  inside : (y : ℕ) → In y (pre tree) → In y (pre t)

inner : (v : View) (o : ℕ) (t : Tree) → Hang v o t → (p : ℕ) → In p (pre t) → Inner v t p
inner v o (node a k n) h p (inl e) = record {
  tree = k;
  tops = ap (v fst) e ∙ h.3;
  hangs = subst (λ (z : ℕ). Hang v z k) (sym e) h.4;
  inside = λ y i. inr (in_left y (pre k) (pre n) i);
}
inner v o (node a k n) h p (inr t) = go (in_cases p (pre k) (pre n) t) (inner v a k h.4 p) (inner v o n h.5 p)
  where
    go : In p (pre k) ⊎ In p (pre n) → (In p (pre k) → Inner v k p) → (In p (pre n) → Inner v n p) → Inner v (node a k n) p
    go (inl w) f g = let r = f w in record { tree = r.tree; tops = r.tops; hangs = r.hangs; inside = λ y i. inr (in_left y (pre k) (pre n) (r.inside y i)) }
    go (inr w) f g = let r = g w in record { tree = r.tree; tops = r.tops; hangs = r.hangs; inside = λ y i. inr (in_right y (pre k) (pre n) (r.inside y i)) }
inner v o none h p x'' = elim x'' [ ]

-- ---- the tree below a node of sound memory

module _ (m : List ℕ) (h : Header) (S : Sound m h) (x : ℕ) (f : Found m h.used x) where
  abbrev below : Tree
  below = (tree_of_lem m h S x f).tree

  abbrev F : Forest
  F = forest_of m h S

  abbrev H : Forested m h F
  H = sound_forested m h S

  -- a child of a node whose children's tree is in the tree
  child_in : (t : Tree) (p y : ℕ) → Found m h.used p → Found m h.used y → view m par y ≡ p → view m fst p ≡ top t → Hang (view m) p t → In y (pre t)
  child_in t p y fp fy e tops hangs = go P.key P.ok (rw P.is (in_right y P.left (y ∷ P.right) (inl refl))) (sym P.parent ∙ e)
    where
      P : Place (view m) (Found m h.used) F H y
      P = place (view m) (Found m h.used) F H y fy

      go : (k : Key) → OwnerIn (Found m h.used) k → In y (F k) → owner k ≡ p → In y (pre t)
      go (roots j) ok i q = absurd (found_some m h.used p fp (sym q))
      go (children o) ok i q =
          chain_in (view m par) (view m prv) (view m) o 0 (F (children o)) t (H.chains (children o) ok).segment
          (zero_off (Found m h.used) F H.members (children o)) (subst (λ (z : ℕ). Hang (view m) z t) (sym q) hangs)
          (sym ((H.chains (children o) ok).first (found_some m h.used o ok)) ∙ ap (view m fst) q ∙ tops) y i

  -- up from y
  up : {p : ℕ} → Above (view m par) x p → (y : ℕ) → Found m h.used y → view m par y ≡ p → In y (pre below)
  up (self z) y fy e = child_in below x y f fy e (tree_of_lem m h S x f).tops (tree_of_lem m h S x f).hangs
  up (higher {y = p} z a) y fy e =
      let fp : Found m h.used p = subst (Found m h.used) e (S.links.found y fy par (λ q. z (sym e ∙ q))) in
      let r = inner (view m) x below (tree_of_lem m h S x f).hangs p (up a p fp refl) in
      r.inside y (child_in r.tree p y fp fy e r.tops r.hangs)

  pub below_exactly : (y : ℕ) → In y (pre below) ↔ (Found m h.used y × Ancestor (view m) x y)
  below_exactly y = (
    λ i. (
      all_in (Found m h.used) (pre below) (tree_of_lem m h S x f).lives y i,
      hang-above (view m) x below (found_some m h.used x f) (tree_of_lem m h S x f).hangs y i,
    ),
    λ w. up w.1 y w.0 refl,
  )
