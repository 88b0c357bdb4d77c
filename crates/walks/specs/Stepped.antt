-- The stepped walk on sound memory: any division into budgets yields the edges of the tree of the root, in order, as far as the
-- budgets go, and then it is over. Each node of the tree starts once and ends once.
use Rattle.std.specs.Prelude.{◌≡◌, ◌≢◌, ◌⊎◌, true, cond, List, [], ◌∷◌, ◌++◌, ℕ, zero, suc, ◌≤◌, eqb, length, take}
use Rattle.std.proofs.Math.Path.{refl}
use Rattle.std.proofs.Common.{sym, ap, ◌∙◌, subst, inl, inr, append-nil, arith, eq-eqb, ne_eqb}
use Rattle.link.specs.Found.{Found, found_b}
use Rattle.link.specs.FoundLaws.{is_found}
use Rattle.link.specs.declared.header.Header.{Header}
use Rattle.rules.specs.Lists.{In, NoDup}
use Rattle.rules.specs.Links.{par, nxt, fst, view}
use Rattle.rules.specs.Sound.{Sound}
use Rattle.rules.specs.Tree as T
use Rattle.rules.specs.Tree.{Tree, none, node, pre, post, start_of, end_of, edges, edge, over, when_node, following}
use Rattle.forest.specs.Lists.{in_left, in_right, in_cases, not_in_off, off-not_in, nodup_append, nodup-left, nodup-right, nodup-apart, apart_of, apart_in, all_in}
use Rattle.forest.specs.Walk.{Tour, here, on}
use Rattle.forest.specs.Whole.{tree_of_lem, walk_of}
use Rattle.walk.specs.Edges.{edge_id, next_traverse, next_of_next}
use Rattle.walk.specs.declared.edge.Edge.{Edge}
use Rattle.walk.specs.declared.edge.Edge.TheVariants.{Start, End}
use Rattle.walk.specs.declared.edge.Step.{Step}
use Rattle.walk.specs.declared.edge.Step.TheVariants as S
use Rattle.walks.specs.Orders.{starts, ends}
use Rattle.walks.specs.Trails as R

-- The tree of a node, the node with it.
abbrev pub tree_of : (m : List ℕ) (h : Header) → Sound m h → (x : ℕ) → Found m h.used x → Tree
tree_of m h S x f = node x (tree_of_lem m h S x f).tree none

-- The walk's own edge for each edge of a tree.
abbrev pub edge_of : T.Edge → Edge
edge_of (start_of x) = Start x
edge_of (end_of x) = End x

abbrev pub edges_of : List T.Edge → List Edge
edges_of [] = []
edges_of (e ∷ es) = edge_of e ∷ edges_of es

abbrev pub node_of : T.Edge → ℕ
node_of (start_of x) = x
node_of (end_of x) = x

-- ---- what follows an edge, in the rules and in the walk

abbrev step_of : T.Following → Step
step_of (edge e) = S.Edge (edge_of e)
step_of over = S.Over

when-cond : (x : ℕ) (a b : T.Following) → step_of (when_node x a b) ≡ cond (eqb x 0) (step_of b) (step_of a)
when-cond zero a b = refl
when-cond (suc x) a b = simp (ne_eqb (suc x) 0 (λ (e : suc x ≡ 0). omega arith))

follows : (m : List ℕ) (e : T.Edge) → next_traverse m (edge_of e) ≡ step_of (following (view m) e)
unfolding next_traverse
follows m (start_of x) = sym (when-cond (view m fst x) (edge (start_of (view m fst x))) (edge (end_of x)))
follows m (end_of x) = sym (
    when-cond (view m nxt x) (edge (start_of (view m nxt x))) (when_node (view m par x) (edge (end_of (view m par x))) over)
    ∙ ap (λ (s : Step). cond (eqb (view m nxt x) 0) s (S.Edge (Start (view m nxt x)))) (when-cond (view m par x) (edge (end_of (view m par x))) over))

-- ---- a tour of found nodes that does not come to End of the root is a trail up to there

module _ (m : List ℕ) (used root : ℕ) where
  at-root : next_of_next m root (End root) ≡ S.Over
  unfolding next_of_next
  at-root = simp (eq-eqb root root refl)

  not_root : (e : T.Edge) → e ≢ end_of root → next_of_next m root (edge_of e) ≡ next_traverse m (edge_of e)
  unfolding next_of_next
  not_root (start_of x) h = refl
  not_root (end_of x) h = simp (ne_eqb x root (λ e. h (ap end_of e)))

  -- the edges of a list that are of found nodes and are not End of the root
  abbrev Fine : List T.Edge → Type 0
  Fine [] = Unit {0}
  Fine (e ∷ es) = Found m used (node_of e) × (e ≢ end_of root) × Fine es

  found-edge : (e : T.Edge) → Found m used (node_of e) → found_b m used (edge_id (edge_of e)) ≡ true
  found-edge (start_of x) f = is_found m used x f
  found-edge (end_of x) f = is_found m used x f

  trail-from : {a b : Step} {es : List Edge} → a ≡ b → R.Trail m used root b es → R.Trail m used root a es
  trail-from {es = es} e t = subst (λ (s : Step). R.Trail m used root s es) (sym e) t

  tour-trail : {e : T.Edge} {es : List T.Edge} → Found m used root → Tour (view m) e es (end_of root) → Fine es
      → R.Trail m used root (S.Edge (edge_of e)) (edges_of (es ++ end_of root ∷ []))
  tour-trail r here w = R.on (is_found m used root r) (trail-from at-root R.end)
  tour-trail r (on {e} {f} {e'} {es} q t) w =
      R.on (found-edge e w.0) (trail-from (not_root e w.1 ∙ follows m e ∙ ap step_of q) (tour-trail r t w.2))

  fine-append : (xs ys : List T.Edge) → Fine xs → Fine ys → Fine (xs ++ ys)
  fine-append [] ys a b = b
  fine-append (e ∷ xs) ys a b = (a.0, a.1, fine-append xs ys a.2 b)

  start-not-end : (x : ℕ) → start_of x ≢ end_of root
  start-not-end x e = let z : ◌≡◌ {A = ℕ} 0 1 = cc in absurd (omega arith)

  -- so are all edges of a tree whose nodes are found and are not the root
  tree-fine : (t : Tree) → ((y : ℕ) → In y (pre t) → Found m used y × (y ≢ root)) → Fine (edges t)
  tree-fine none w = tt
  tree-fine (node x k n) w = (
    (w x (inl refl)).0,
    start-not-end x,
    fine-append (edges k) (end_of x ∷ edges n) (tree-fine k (λ y i. w y (inr (in_left y (pre k) (pre n) i))))
        ((w x (inl refl)).0, (λ (e : end_of x ≡ end_of root). (w x (inl refl)).1 (cc)), tree-fine n (λ y i. w y (inr (in_right y (pre k) (pre n) i)))),
  )

-- ---- starts and ends of a tree's edges

starts-append : (xs ys : List T.Edge) → starts (xs ++ ys) ≡ starts xs ++ starts ys
starts-append [] ys = refl
starts-append (start_of x ∷ xs) ys = ap (λ (l : List ℕ). x ∷ l) (starts-append xs ys)
starts-append (end_of x ∷ xs) ys = starts-append xs ys

ends-append : (xs ys : List T.Edge) → ends (xs ++ ys) ≡ ends xs ++ ends ys
ends-append [] ys = refl
ends-append (start_of x ∷ xs) ys = ends-append xs ys
ends-append (end_of x ∷ xs) ys = ap (λ (l : List ℕ). x ∷ l) (ends-append xs ys)

pub starts-pre : (t : Tree) → starts (edges t) ≡ pre t
starts-pre none = refl
starts-pre (node x k n) =
    ap (λ (l : List ℕ). x ∷ l) (starts-append (edges k) (end_of x ∷ edges n) ∙ ap (λ (l : List ℕ). l ++ starts (edges n)) (starts-pre k) ∙ ap (λ (l : List ℕ). pre k ++ l) (starts-pre n))

pub ends-post : (t : Tree) → ends (edges t) ≡ post t
ends-post none = refl
ends-post (node x k n) =
    ends-append (edges k) (end_of x ∷ edges n) ∙ ap (λ (l : List ℕ). l ++ x ∷ ends (edges n)) (ends-post k) ∙ ap (λ (l : List ℕ). post k ++ x ∷ l) (ends-post n)

in-post : (t : Tree) (y : ℕ) → In y (post t) → In y (pre t)
in-post (node x k n) y i = go (in-post k y) (in-post n y) (in_cases y (post k) (x ∷ post n) i)
  where
    go : (In y (post k) → In y (pre k)) → (In y (post n) → In y (pre n)) → In y (post k) ⊎ In y (x ∷ post n) → In y (x ∷ (pre k ++ pre n))
    go f g (inl j) = inr (in_left y (pre k) (pre n) (f j))
    go f g (inr (inl e)) = inl e
    go f g (inr (inr j)) = inr (in_right y (pre k) (pre n) (g j))
in-post none y i = elim i [ ]

-- no node stands twice in postorder where none does in preorder
pub once-post : (t : Tree) → NoDup (pre t) → NoDup (post t)
once-post none d = tt
once-post (node x k n) d = nodup_append (post k) (x ∷ post n) (once-post k (nodup-left (pre k) (pre n) d.1))
    (not_in_off x (post n) (λ i. off-not_in x (pre k ++ pre n) d.0 (in_right x (pre k) (pre n) (in-post n x i))), once-post n (nodup-right (pre k) (pre n) d.1))
    (apart_of (post k) (x ∷ post n) (λ y i. (
      (λ (e : y ≡ x). off-not_in x (pre k ++ pre n) d.0 (in_left x (pre k) (pre n) (subst (λ (z : ℕ). In z (pre k)) e (in-post k y i)))),
      not_in_off y (post n) (λ j. off-not_in y (pre n) (apart_in (pre k) (pre n) (nodup-apart (pre k) (pre n) d.1) y (in-post k y i)) (in-post n y j)),
    )))

-- ---- on sound memory

-- no node stands twice in the tree, its root with it
pub tree-once : (m : List ℕ) (h : Header) (sound : Sound m h) (x : ℕ) (f : Found m h.used x) → NoDup (pre (tree_of m h sound x f))
tree-once m h sound x f =
    subst NoDup (ap (λ (l : List ℕ). x ∷ l) (sym (append-nil (pre (tree_of_lem m h sound x f).tree)))) (tree_of_lem m h sound x f).once

module _ (m : List ℕ) (h : Header) (sound : Sound m h) (x : ℕ) (f : Found m h.used x) where
  pub walk-trail : R.Trail m h.used x (S.Edge (Start x)) (edges_of (edges (tree_of m h sound x f)))
  walk-trail =
      let b = tree_of_lem m h sound x f in
      tour-trail m h.used x f (walk_of m h sound x f) (
        f,
        start-not-end m h.used x x,
        tree-fine m h.used x b.tree (λ y i. (all_in (Found m h.used) (pre b.tree) b.lives y i, λ (e : y ≡ x). off-not_in x (pre b.tree) b.once.0 (subst (λ (z : ℕ). In z (pre b.tree)) e i))),
      )

  -- Any division into budgets yields the tree's edges, in order, as far as the budgets go,
  pub walk-yields : (ks : List ℕ) → (R.divided ks m h.used x (S.Edge (Start x))).0 ≡ take (R.sum ks) (edges_of (edges (tree_of m h sound x f)))
  walk-yields ks = ap (λ (p : List Edge × Step). p.0) (R.divided-whole m h.used x ks (S.Edge (Start x))) ∙ R.trail-takes m h.used x (R.sum ks) walk-trail

  -- and is over once they reach their number.
  pub walk_ends : (ks : List ℕ) → length (edges_of (edges (tree_of m h sound x f))) ≤ R.sum ks → (R.divided ks m h.used x (S.Edge (Start x))).1 ≡ S.Over
  walk_ends ks w = ap (λ (p : List Edge × Step). p.1) (R.divided-whole m h.used x ks (S.Edge (Start x))) ∙ R.trail-over m h.used x (R.sum ks) walk-trail w

  -- Each node of the tree starts once, in preorder, and ends once, in postorder.
  pub walk-once : (starts (edges (tree_of m h sound x f)) ≡ pre (tree_of m h sound x f)) × NoDup (pre (tree_of m h sound x f))
      × (ends (edges (tree_of m h sound x f)) ≡ post (tree_of m h sound x f)) × NoDup (post (tree_of m h sound x f))
  walk-once = (starts-pre (tree_of m h sound x f), once, ends-post (tree_of m h sound x f), once-post (tree_of m h sound x f) once)
    where
      once : NoDup (pre (tree_of m h sound x f))
      once = tree-once m h sound x f
