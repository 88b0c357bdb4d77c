-- In sound links the tree below each live node exists, its nodes are live, and none stands in it twice, nor does the node itself:
-- each node of it has more predecessors than the node above, and two ways down to one node come from one node.
use Rattle.std.specs.Prelude.{◌≡◌, refl, ◌≢◌, ◌⊎◌, ◌∷◌, ◌++◌, ℕ, zero, suc, ◌+◌, ◌≤◌}
use Rattle.std.proofs.Common.{sym, ap, ◌∙◌, subst, inl, inr, le_refl, arith}
use Rattle.rules.specs.Lists.{In, NoDup, All}
use Rattle.rules.specs.Links.{par, prv, nxt, fst, View}
use Rattle.rules.specs.Sound.{SoundLinks}
use Rattle.rules.specs.Tree.{Tree, none, node, top, pre, Hang}
use Rattle.forest.specs.Lists.{in_cases, not_in_off, all_of, apart_of, nodup_append}
use Rattle.follow.specs.Follow.{EndsIn, in-unique, path, path-length, path_nodup}
use Rattle.forest.specs.Found.{Nodes}
use Rattle.forest.specs.Local.{Local, pred, pred-parent, pred-live, sound-tests}
use Rattle.forest.specs.Siblings.{Deep, deep, next-deep, none_or, lives-few}

-- a way from a down to y
data From (v : View) (a : ℕ) : ℕ → Type 0 where
  at_once : From v a a
  by-child : {p y : ℕ} → From v a p → v fst p ≡ y → y ≢ 0 → From v a y
  by_next : {q y : ℕ} → From v a q → v nxt q ≡ y → y ≢ 0 → From v a y

from_then : {v : View} {a b y : ℕ} → From v a b → From v b y → From v a y
from_then f at_once = f
from_then f (by-child g e h) = by-child (from_then f g) e h
from_then f (by_next g e h) = by_next (from_then f g) e h

-- a tree with a node in it has a top
top-some : (v : View) (o : ℕ) (t : Tree) → Hang v o t → (y : ℕ) → In y (pre t) → top t ≢ 0
top-some v o (node x k n) h y i = h.0
top-some v o none h y i = elim i [ ]

-- the tree of x's children, with each node once
pub record Below (v : View) (live : ℕ → Type 0) (x : ℕ) : Type 0 where
  pub tree : Tree
  pub tops : v fst x ≡ top tree
  pub hangs : Hang v x tree
  pub lives : All live (pre tree)
  pub once : NoDup (x ∷ pre tree)

module _ (v : View) (live : ℕ → Type 0) (N : Nodes live) (S : SoundLinks v live) where
  tests : Local v live
  tests = sound-tests v live N S

  -- ---- the tree exists: a node has no more predecessors than there are nodes

  up-lives : (n x : ℕ) → Deep v n x → (x ≡ 0) ⊎ live x → All live (path (pred v) n x)
  up-lives zero x a d = tt
  up-lives (suc n) x a (inl e) = absurd (a.0 e)
  up-lives (suc n) x a (inr l) = (l, up-lives n (pred v x) a.1 (pred-live v live tests x l))

  deep-bound : (n x : ℕ) → live x → Deep v n x → n ≤ suc N.most
  deep-bound n x l a =
      subst (λ (z : ℕ). z ≤ suc N.most) (path-length (pred v) n x)
      (lives-few v live N S (path (pred v) n x) (up-lives n x a (inr l)) (path_nodup (pred v) n x a))

  child-deep : (n x : ℕ) → live x → v fst x ≢ 0 → Deep v n x → Deep v (suc n) (v fst x)
  child-deep n x l h d = let q = tests.first x l h in (h, rw (pred-parent v (v fst x) q.1 ∙ q.0) d)

  grow : (c d x o : ℕ) → (x ≡ 0) ⊎ live x → (live x → v par x ≡ o) → (live x → Deep v d x) → suc (suc N.most) ≤ d + c
      → (t : Tree) × (top t ≡ x) × Hang v o t
  grow zero d x o (inl e) hp hd h = (none, sym e, tt)
  grow zero d x o (inr l) hp hd h = let b = deep-bound d x l (hd l) in absurd (omega arith)
  grow (suc c) d x o (inl e) hp hd h = (none, sym e, tt)
  grow (suc c) d x o (inr l) hp hd h =
      let (k, ek, hk) = grow c (suc d) (v fst x) x (none_or v live N S x l fst)
      (λ w. (tests.first x l (N.some _ w)).0) (λ w. child-deep d x l (N.some _ w) (hd l)) (omega arith) in
      let (n, en, hn) = grow c (suc d) (v nxt x) o (none_or v live N S x l nxt)
      (λ w. S.share x l (N.some _ w) ∙ hp l) (λ w. next-deep v live N S d x l (N.some _ w) (hd l)) (omega arith) in
      (node x k n, refl, (N.some x l, hp l, sym en, sym ek, hk, hn))

  -- ---- no node twice

  in-from : (o : ℕ) (t : Tree) → Hang v o t → (y : ℕ) → In y (pre t) → From v (top t) y
  in-from o (node x k n) s y (inl q) = subst (From v x) (sym q) at_once
  in-from o (node x k n) s y (inr t) = go (in_cases y (pre k) (pre n) t) (in-from x k s.4 y) (in-from o n s.5 y)
    where
      go : In y (pre k) ⊎ In y (pre n) → (In y (pre k) → From v (top k) y) → (In y (pre n) → From v (top n) y) → From v x y
      go (inl w) f g = from_then (by-child at_once s.3 (top-some v x k s.4 y w)) (f w)
      go (inr w) f g = from_then (by_next at_once s.2 (top-some v o n s.5 y w)) (g w)
  in-from o none s y x'' = elim x'' [ ]

  from_deep : {a y : ℕ} (d : ℕ) → live a → Deep v d a → From v a y → live y × ((n : ℕ) × Deep v n y × (d ≤ n))
  from_deep d l a at_once = (l, (d, a, le_refl d))
  from_deep d l a (by-child {p = p} f e h) =
      let (lp, (n, b, k)) = from_deep d l a f in
      let hf : v fst p ≢ 0 = λ q. h (sym e ∙ q) in
      (subst live e (S.found p lp fst hf), (suc n, subst (EndsIn (pred v) (suc n)) e (child-deep n p lp hf b), omega arith))
  from_deep d l a (by_next {q = p} f e h) =
      let (lp, (n, b, k)) = from_deep d l a f in
      let hf : v nxt p ≢ 0 = λ q. h (sym e ∙ q) in
      (subst live e (S.found p lp nxt hf), (suc n, subst (EndsIn (pred v) (suc n)) e (next-deep v live N S n p lp hf b), omega arith))

  says-child : {p y : ℕ} → live p → v fst p ≡ y → y ≢ 0 → (v par y ≡ p) × (v prv y ≡ 0)
  says-child {p} {y} l e h = subst (λ (z : ℕ). (v par z ≡ p) × (v prv z ≡ 0)) e (tests.first p l (λ q. h (sym e ∙ q)))

  says-next : {p y : ℕ} → live p → v nxt p ≡ y → y ≢ 0 → v prv y ≡ p
  says-next {p} {y} l e h = subst (λ (z : ℕ). v prv z ≡ p) e (S.after p l (λ q. h (sym e ∙ q)))

  -- strictly below is strictly deeper
  deeper-child : {a p y : ℕ} (d : ℕ) → live a → Deep v d a → From v a p → v fst p ≡ y → y ≢ 0 → Deep v d y → ⊥
  deeper-child d l a f e h b =
      let (lp, (n, c, k)) = from_deep d l a f in
      let z = in-unique (pred v) d (suc n) _ b (subst (EndsIn (pred v) (suc n)) e (child-deep n _ lp (λ q. h (sym e ∙ q)) c)) in
      omega arith

  deeper-next : {a p y : ℕ} (d : ℕ) → live a → Deep v d a → From v a p → v nxt p ≡ y → y ≢ 0 → Deep v d y → ⊥
  deeper-next d l a f e h b =
      let (lp, (n, c, k)) = from_deep d l a f in
      let z = in-unique (pred v) d (suc n) _ b (subst (EndsIn (pred v) (suc n)) e (next-deep v live N S n _ lp (λ q. h (sym e ∙ q)) c)) in
      omega arith

  later : (d x a : ℕ) → Deep v d x → live a → Deep v (suc d) a → From v a x → ⊥
  later d x a dx la da f = let (_, (m, b, h)) = from_deep (suc d) la da f in let z = in-unique (pred v) d m x dx b in omega arith

  -- two nodes as deep, with one node below both, are one
  join : {a b y : ℕ} (d : ℕ) → live a → live b → Deep v d a → Deep v d b → From v a y → From v b y → a ≡ b
  join d la lb da db at_once at_once = refl
  join d la lb da db at_once (by-child g e h) = absurd (deeper-child d lb db g e h da)
  join d la lb da db at_once (by_next g e h) = absurd (deeper-next d lb db g e h da)
  join d la lb da db (by-child f e h) at_once = absurd (deeper-child d la da f e h db)
  join d la lb da db (by_next f e h) at_once = absurd (deeper-next d la da f e h db)
  join {b = b} d la lb da db (by-child f e h) (by-child g e' h') =
      join d la lb da db f (subst (From v b) (sym (says-child (from_deep d lb db g).0 e' h').0 ∙ (says-child (from_deep d la da f).0 e h).0) g)
  join d la lb da db (by-child f e h) (by_next g e' h') =
      absurd (N.some _ (from_deep d lb db g).0 (sym (says-next (from_deep d lb db g).0 e' h') ∙ (says-child (from_deep d la da f).0 e h).1))
  join d la lb da db (by_next f e h) (by-child g e' h') =
      absurd (N.some _ (from_deep d la da f).0 (sym (says-next (from_deep d la da f).0 e h) ∙ (says-child (from_deep d lb db g).0 e' h').1))
  join {b = b} d la lb da db (by_next f e h) (by_next g e' h') =
      join d la lb da db f (subst (From v b) (sym (says-next (from_deep d lb db g).0 e' h') ∙ says-next (from_deep d la da f).0 e h) g)

  pre-once : (o : ℕ) (t : Tree) (d : ℕ) → Hang v o t → (live (top t) → Deep v d (top t)) → (top t ≢ 0 → live (top t)) → NoDup (pre t)
  pre-once o none d s hd hl = tt
  pre-once o (node x k n) d s hd hl = (
    not_in_off x (pre k ++ pre n) (λ t. go (in_cases x (pre k) (pre n) t)),
    nodup_append (pre k) (pre n) (pre-once x k (suc d) s.4 dk lk) (pre-once o n (suc d) s.5 dn ln)
        (apart_of (pre k) (pre n) (λ y t. not_in_off y (pre n) (λ u. twice y t u))),
  )
    where
      l : live x
      l = hl s.0

      dx : Deep v d x
      dx = hd l

      lk : top k ≢ 0 → live (top k)
      lk h = subst live s.3 (S.found x l fst (λ q. h (sym s.3 ∙ q)))

      ln : top n ≢ 0 → live (top n)
      ln h = subst live s.2 (S.found x l nxt (λ q. h (sym s.2 ∙ q)))

      dk : live (top k) → Deep v (suc d) (top k)
      dk w = subst (EndsIn (pred v) (suc d)) s.3 (child-deep d x l (λ q. N.some _ w (sym s.3 ∙ q)) dx)

      dn : live (top n) → Deep v (suc d) (top n)
      dn w = subst (EndsIn (pred v) (suc d)) s.2 (next-deep v live N S d x l (λ q. N.some _ w (sym s.2 ∙ q)) dx)

      go : In x (pre k) ⊎ In x (pre n) → ⊥
      go (inl w) = let u = lk (top-some v x k s.4 x w) in later d x (top k) dx u (dk u) (in-from x k s.4 x w)
      go (inr w) = let u = ln (top-some v o n s.5 x w) in later d x (top n) dx u (dn u) (in-from o n s.5 x w)

      twice : (y : ℕ) → In y (pre k) → In y (pre n) → ⊥
      twice y t u =
          let a = lk (top-some v x k s.4 y t) in let b = ln (top-some v o n s.5 y u) in
          let q : top k ≡ top n = join (suc d) a b (dk a) (dn b) (in-from x k s.4 y t) (in-from o n s.5 y u) in
          N.some x l (sym (says-next l s.2 (N.some _ b)) ∙ ap (v prv) (sym q) ∙ (says-child l s.3 (N.some _ a)).1)

  pub below : (x : ℕ) → live x → Below v live x
  below x l = record {
    tree = t;
    tops = sym e;
    hangs = h;
    lives = all_of live (pre t) (λ y i. (from_deep (suc d) (tops y i) (deeps (tops y i)) (in-from x t h y i)).0);
    once = (
      not_in_off x (pre t) (λ i. later d x (top t) dx (tops x i) (deeps (tops x i)) (in-from x t h x i)),
      pre-once x t (suc d) h deeps (λ n. subst live (sym e) (S.found x l fst (λ z. n (e ∙ z)))),
    );
  }
    where
      d : ℕ
      d = (deep v live N S x l).0

      dx : Deep v d x
      dx = (deep v live N S x l).1

      found : (t : Tree) × (top t ≡ v fst x) × Hang v x t
      found =
          grow (suc (suc N.most)) (suc d) (v fst x) x (none_or v live N S x l fst) (λ w. (tests.first x l (N.some _ w)).0)
          (λ w. child-deep d x l (N.some _ w) dx) (omega arith)

      t : Tree
      t = found.0

      e : top t ≡ v fst x
      e = found.1

      h : Hang v x t
      h = found.2

      tops : (y : ℕ) → In y (pre t) → live (top t)
      tops y i = subst live (sym e) (S.found x l fst (λ z. top-some v x t h y i (e ∙ z)))

      deeps : live (top t) → Deep v (suc d) (top t)
      deeps w = subst (EndsIn (pred v) (suc d)) (sym e) (child-deep d x l (λ z. N.some _ w (e ∙ z)) dx)
