-- A tree of nodes goes: what is left is a forest. Of a node alone in a root chain with all below it, and of what is below a node
-- that stays; then of the loop that frees, whose links at the other nodes are as before.
use Rattle.std.specs.Prelude.{◌≡◌, refl, ◌≢◌, ◌⊎◌, List, [], ◌∷◌, ℕ}
use Rattle.std.proofs.Common.{sym, ap, ◌∙◌, subst, inl, inr}
use Rattle.std.proofs.Math.Decide.{ℕ_discrete}
use Rattle.rules.specs.Lists.{head_or, In, Off}
use Rattle.rules.specs.Links.{Link, par, prv, nxt, fst, lst, View}
use Rattle.rules.specs.Forest.{Key, children, roots, owner, Forest, Segment, Chain, OwnerIn, Members, Holds, dropped}
use Rattle.rules.specs.Tree.{Tree, none, node, top, pre, post, Hang}
use Rattle.forest.specs.Lists.{in_left, in_right, in_cases, off-not_in}
use Rattle.forest.specs.Members.{zero_off, dropped_elim}
use Rattle.forest.specs.Places.{place}
use Rattle.forest.specs.Edits.{Without, owner-within, stays_off, members-without}
use Rattle.forest.specs.Insert.{no-roots}
use Rattle.forest.specs.Frees.{Freed}
use Rattle.forest.specs.After.{segment_see, holds_see}

-- ---- the tree and the chains of its nodes

-- a chain whose first member is the tree's top is in the tree
spine : (v : View) (o b : ℕ) (xs : List ℕ) → Segment (v par) (v prv) (v nxt) o b xs 0 → Off 0 xs → (p : ℕ) (t : Tree) → Hang v p t
    → head_or xs 0 ≡ top t
    → (y : ℕ) → In y xs → In y (pre t)
spine v o b (x ∷ xs) s z p none h e y i = absurd (z.0 (sym e))
spine v o b (x ∷ xs) s z p (node a k n) h e y (inl q) = inl (q ∙ e)
spine v o b (x ∷ xs) s z p (node a k n) h e y (inr i) =
    inr (in_right y (pre k) (pre n) (spine v o x xs s.3 z.1 p n h.5 (sym s.2 ∙ ap (v nxt) e ∙ h.2) y i))
spine v o b [] s z p t h e y i = elim i [ ]

-- the tree below a node of the tree
record Part (v : View) (t : Tree) (p : ℕ) : Type 0 where
  tree : Tree
  hangs : Hang v p tree
  tops : v fst p ≡ top tree
  inner : (y : ℕ) → In y (pre tree) → In y (pre t)

part : (v : View) (o : ℕ) (t : Tree) → Hang v o t → (p : ℕ) → In p (pre t) → Part v t p
part v o (node a k n) h p (inl q) = record {
  tree = k;
  hangs = subst (λ (z : ℕ). Hang v z k) (sym q) h.4;
  tops = ap (v fst) q ∙ h.3;
  inner = λ y i. inr (in_left y (pre k) (pre n) i);
}
part v o (node a k n) h p (inr i) = go (in_cases p (pre k) (pre n) i) (part v a k h.4 p) (part v o n h.5 p)
  where
    go : In p (pre k) ⊎ In p (pre n) → (In p (pre k) → Part v k p) → (In p (pre n) → Part v n p) → Part v (node a k n) p
    go (inl w) f g = let r = f w in record { tree = r.tree; hangs = r.hangs; tops = r.tops; inner = λ y i. inr (in_left y (pre k) (pre n) (r.inner y i)) }
    go (inr w) f g = let r = g w in record { tree = r.tree; hangs = r.hangs; tops = r.tops; inner = λ y i. inr (in_right y (pre k) (pre n) (r.inner y i)) }
part v o none h p x'' = elim x'' [ ]

-- a node of the tree has its parent in the tree, or o
parent_in : (v : View) (o : ℕ) (t : Tree) → Hang v o t → (y : ℕ) → In y (pre t) → In (v par y) (o ∷ pre t)
parent_in v o (node a k n) h y (inl q) = inl (ap (v par) q ∙ h.1)
parent_in v o (node a k n) h y (inr i) = go (in_cases y (pre k) (pre n) i) (parent_in v a k h.4 y) (parent_in v o n h.5 y)
  where
    go : In y (pre k) ⊎ In y (pre n) → (In y (pre k) → In (v par y) (a ∷ pre k)) → (In y (pre n) → In (v par y) (o ∷ pre n))
        → In (v par y) (o ∷ pre (node a k n))
    go (inl w) f g = below (f w)
      where
        below : In (v par y) (a ∷ pre k) → In (v par y) (o ∷ pre (node a k n))
        below (inl q) = inr (inl q)
        below (inr u) = inr (inr (in_left _ (pre k) (pre n) u))
    go (inr w) f g = beside (g w)
      where
        beside : In (v par y) (o ∷ pre n) → In (v par y) (o ∷ pre (node a k n))
        beside (inl q) = inl q
        beside (inr u) = inr (inr (in_right _ (pre k) (pre n) u))
parent_in v o none h y x'' = elim x'' [ ]

module _ (v : View) (live : ℕ → Type 0) (F : Forest) (H : Holds v live F) (x : ℕ) (lx : live x) (t : Tree) (et : v fst x ≡ top t) (ht : Hang v x t) where
  abbrev M : Members live F
  M = H.members

  -- the children of a node whose tree is known are in that tree
  in_tree : (p y : ℕ) → In y (F (children p)) → (b : Tree) → Hang v p b → v fst p ≡ top b → In y (pre b)
  in_tree p y i b h e =
      let lp = (M.member (children p) y i).2 in
      let c = H.chains (children p) lp in
      spine v p 0 (F (children p)) c.segment (zero_off live F M (children p)) p b h (sym (c.first (M.some p lp)) ∙ e) y i

  top-children : (y : ℕ) → In y (F (children x)) → In y (pre t)
  top-children y i = in_tree x y i t ht et

  tree-children : (p y : ℕ) → In p (pre t) → In y (F (children p)) → In y (pre t)
  tree-children p y w i = let r = part v x t ht p w in r.inner y (in_tree p y i r.tree r.hangs r.tops)

  -- a node below x is a child of x or of a node below x
  under : (y : ℕ) → live y → In y (pre t) → (p : ℕ) × In p (x ∷ pre t) × (M.home y ≡ children p)
  under y l i = let P = place v live F H y l in go (M.home y) (P.parent ∙ ap owner P.home) (parent_in v x t ht y i)
    where
      some_in : (z : ℕ) (b : Tree) (o : ℕ) → Hang v o b → In z (pre b) → z ≢ 0
      some_in z (node a k n) o h (inl q) e = h.0 (sym q ∙ e)
      some_in z (node a k n) o h (inr u) e = two (in_cases z (pre k) (pre n) u) (some_in z k a h.4) (some_in z n o h.5)
        where
          two : In z (pre k) ⊎ In z (pre n) → (In z (pre k) → z ≢ 0) → (In z (pre n) → z ≢ 0) → ⊥
          two (inl c) f g = f c e
          two (inr c) f g = g c e
      some_in z none o h x4 e = elim x4 [ ]

      some : In (v par y) (x ∷ pre t) → v par y ≢ 0
      some (inl q) e = M.some x lx (sym q ∙ e)
      some (inr w) e = some_in (v par y) t x ht w e

      go : (k : Key) → v par y ≡ owner k → In (v par y) (x ∷ pre t) → (p : ℕ) × In p (x ∷ pre t) × (k ≡ children p)
      go (children p) e w = (p, subst (λ (z : ℕ). In z (x ∷ pre t)) e w, refl)
      go (roots i) e w = absurd (some w e)

  -- ---- x, alone in the root chain j, goes with all below it

  module _ (j : ℕ) (ej : F (roots j) ≡ x ∷ []) where
    pub holds-without : Holds v (Without live (x ∷ pre t)) (dropped F (x ∷ pre t) (roots j))
    holds-without = record {
      members = members-without live F M (x ∷ pre t) (roots j) whole closed stands;
      chains = dropped_elim (λ k zs. OwnerIn (Without live (x ∷ pre t)) k → Chain v (owner k) zs) F (x ∷ pre t) (roots j)
          (λ _. no-roots v)
          (λ p i ok. absurd (off-not_in p (x ∷ pre t) ok.1 i))
          (λ k _ _ ok. H.chains k (owner-within live (x ∷ pre t) k ok));
    }
      where
        whole : (y : ℕ) → In y (F (roots j)) → In y (x ∷ pre t)
        whole y i = only (rw ej at i)
          where
            only : In y (x ∷ []) → In y (x ∷ pre t)
            only (inl q) = inl q
            only (inr x'') = elim x'' [ ]

        closed : (p y : ℕ) → In p (x ∷ pre t) → In y (F (children p)) → In y (x ∷ pre t)
        closed p y (inl q) i = inr (top-children y (subst (λ (z : ℕ). In y (F (children z))) q i))
        closed p y (inr w) i = inr (tree-children p y w i)

        stands : (y : ℕ) → live y → In y (x ∷ pre t) → (M.home y ≡ roots j) ⊎ ((p : ℕ) × In p (x ∷ pre t) × (M.home y ≡ children p))
        stands y l (inl q) = inl (ap M.home q ∙ sym (M.member (roots j) x (rw ej (inl refl))).1)
        stands y l (inr w) = inr (under y l w)

    pub freed-without : (r : Freed x live [] v (top t) x (post t) (pre t)) → Holds r.after (Without live (x ∷ pre t)) (dropped F (x ∷ pre t) (roots j))
    freed-without r = holds_see v r.after (Without live (x ∷ pre t)) _ (λ k y l. r.alike.others k y l.1.0 l.1.1) holds-without

  -- ---- all below x goes, and x stays

  module _ (alone : Off x (pre t)) (r : Freed x live [] v (top t) x (post t) (pre t)) where
    abbrev v' : View
    v' = r.after

    below : (y : ℕ) → live y → In y (pre t) → (M.home y ≡ children x) ⊎ ((p : ℕ) × In p (pre t) × (M.home y ≡ children p))
    below y l w = go (under y l w)
      where
        go : (p : ℕ) × In p (x ∷ pre t) × (M.home y ≡ children p) → (M.home y ≡ children x) ⊎ ((p : ℕ) × In p (pre t) × (M.home y ≡ children p))
        go (p, inl q, e) = inl (e ∙ ap children q)
        go (p, inr u, e) = inr (p, u, e)

    stands : (y : ℕ) → Off y (pre t) → (v' par y ≡ v par y) × (v' prv y ≡ v prv y) × (v' nxt y ≡ v nxt y)
    stands y o = go (ℕ_discrete y x)
      where
        go : Dec (y ≡ x) → (v' par y ≡ v par y) × (v' prv y ≡ v prv y) × (v' nxt y ≡ v nxt y)
        go (yes e) = rw e (r.alike.stands alone)
        go (no h) = let f : (k : Link) → v' k y ≡ v k y = λ k. r.alike.others k y h o in (f par, f prv, f nxt)

    kept : (k : Key) → k ≢ children x → ((p : ℕ) → k ≡ children p → Off p (pre t)) → OwnerIn (Without live (pre t)) k → Chain v' (owner k) (F k)
    kept k hx hk ok =
        let c = H.chains k (owner-within live (pre t) k ok) in
        record {
          segment = segment_see v v' (owner k) 0 (F k) 0
              (λ y i. stands y (stays_off live F M (pre t) (children x) top-children tree-children below k y hx hk i)) c.segment;
          first = λ z. own k fst hx ok z ∙ c.first z;
          last = λ z. own k lst hx ok z ∙ c.last z;
        }
      where
        own : (k : Key) (l : Link) → k ≢ children x → OwnerIn (Without live (pre t)) k → owner k ≢ 0 → v' l (owner k) ≡ v l (owner k)
        own (children p) l h ok z = r.alike.others l p (λ q. h (ap children q)) ok.1
        own (roots i) l h ok z = absurd (z refl)

    pub freed-below : Holds v' (Without live (pre t)) (dropped F (pre t) (children x))
    freed-below = record {
      members = members-without live F M (pre t) (children x) top-children tree-children below;
      chains = dropped_elim (λ k zs. OwnerIn (Without live (pre t)) k → Chain v' (owner k) zs) F (pre t) (children x)
          (λ _. record { segment = tt; first = λ _. r.empty.0; last = λ _. r.empty.1 })
          (λ p i ok. absurd (off-not_in p (pre t) ok.1 i))
          kept;
    }
