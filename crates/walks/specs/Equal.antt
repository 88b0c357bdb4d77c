-- On sound memories `subtree_eq` answers 1 exactly when the two trees, with each node's number in its place, are one tree:
-- the walks agree edge by edge exactly then, since the edges of a tree tell the tree.
use Rattle.std.proofs.Math.Path.{◌≡◌, refl, ap}
use Rattle.std.proofs.Common.{sym, ◌∙◌, subst, arith, length-append}
use Rattle.std.specs.Prelude.{◌↔◌, Bool, length}
use Rattle.std.proofs.Math.Bool.{true, false, cond}
use mathlib.Core.List.{List, [], ◌∷◌, ◌++◌, append-nil, append_assoc}
use Prim.Native.Nat.{ℕ, zero, suc, ◌+◌, ◌*◌, ◌≤◌}
use Rattle.std.proofs.Math.Dec.{eqb}
use borrow.Author.Tests.{eqb-true, eq-eqb}
use Rattle.link.specs.Words.{NUMBER, link}
use Rattle.link.specs.Found.{Found}
use Rattle.link.specs.FoundLaws.{is_found}
use Rattle.link.specs.declared.header.Header.{Header}
use Rattle.rules.specs.Answers.{refusal}
use Rattle.rules.specs.Sound.{Sound}
use Rattle.rules.specs.Tree as T
use Rattle.rules.specs.Tree.{Tree, none, node, start_of, end_of, edges}
use Rattle.walk.specs.Edges.{next_of_next}
use Rattle.walk.specs.declared.edge.Edge.{Edge}
use Rattle.walk.specs.declared.edge.Edge.TheVariants.{Start}
use Rattle.walk.specs.declared.edge.Step.{Step}
use Rattle.subtree.specs.Compare.{alike, together, compare_step, by_together, compare_run, compared}
use Rattle.subtree.specs.declared.Together.TheVariants.{Different}
use Rattle.walks.specs.Orders.{numbered, size}
use Rattle.walks.specs.Trails.{Trail, end, on}
use Rattle.walks.specs.Stepped.{tree_of, edges_of, walk-trail}
use Rattle.walks.specs.Preorder.{tree-few, size-pre}

-- ---- two trails compared edge by edge

module _ (m m' : List ℕ) where
  abbrev same : List Edge → List Edge → Bool
  same [] [] = true
  same [] (f ∷ fs) = false
  same (e ∷ es) [] = false
  same (e ∷ es) (f ∷ fs) = cond (alike m e m' f) (same es fs) false

  module _ (used x used' y : ℕ) where
    go_on : ℕ → Step → Step → Bool
    go_on n s t = by_together (λ g k. compare_run n m x g m' y k) true false (together s t)

    together-same : (n : ℕ) {s t : Step} {es fs : List Edge} → Trail m used x s es → Trail m' used' y t fs → length es ≤ n → go_on n s t ≡ same es fs
    unfolding go_on together compare_run compare_step
    together-same zero end end h = refl
    together-same zero end (on g q) h = refl
    together-same zero (on f p) end h = refl
    together-same zero (on f p) (on g q) h = absurd (omega arith)
    together-same (suc n) end end h = refl
    together-same (suc n) end (on g q) h = refl
    together-same (suc n) (on f p) end h = refl
    together-same (suc n) (on {e = e} {es = es} f p) (on {e = e'} {es = es'} g q) h = by (alike m e m' e') (together-same n p q (omega arith))
      where
        by : (b : Bool) → go_on n (next_of_next m x e) (next_of_next m' y e') ≡ same es es'
            → by_together (λ g k. compare_run n m x g m' y k) true false (cond b (together (next_of_next m x e) (next_of_next m' y e')) Different) ≡ cond b (same es es') false
        by true ih = ih
        by false ih = refl

-- ---- the edges of a tree of numbers tell the tree

-- the edges with numbers in place of nodes, and nothing at an end
abbrev signs : (ℕ → ℕ) → List T.Edge → List T.Edge
signs number [] = []
signs number (start_of x ∷ es) = start_of (number x) ∷ signs number es
signs number (end_of x ∷ es) = end_of 0 ∷ signs number es

abbrev brackets : Tree → List T.Edge
brackets none = []
brackets (node a k n) = start_of a ∷ (brackets k ++ (end_of 0 ∷ brackets n))

signs-append : (number : ℕ → ℕ) (xs ys : List T.Edge) → signs number (xs ++ ys) ≡ signs number xs ++ signs number ys
signs-append number [] ys = refl
signs-append number (start_of x ∷ xs) ys = ap (λ (l : List T.Edge). start_of (number x) ∷ l) (signs-append number xs ys)
signs-append number (end_of x ∷ xs) ys = ap (λ (l : List T.Edge). end_of 0 ∷ l) (signs-append number xs ys)

signs-tree : (number : ℕ → ℕ) (t : Tree) → signs number (edges t) ≡ brackets (numbered number t)
signs-tree number none = refl
signs-tree number (node x k n) =
    ap (λ (l : List T.Edge). start_of (number x) ∷ l) (signs-append number (edges k) (end_of x ∷ edges n)
    ∙ ap (λ (l : List T.Edge). l ++ end_of 0 ∷ signs number (edges n)) (signs-tree number k)
    ∙ ap (λ (l : List T.Edge). brackets (numbered number k) ++ end_of 0 ∷ l) (signs-tree number n))

-- not beginning with a start
abbrev Closed : List T.Edge → Type 0
Closed [] = Unit {0}
Closed (start_of x ∷ r) = ⊥
Closed (end_of x ∷ r) = Unit {0}

brackets_tell : (t u : Tree) (r s : List T.Edge) → Closed r → Closed s → brackets t ++ r ≡ brackets u ++ s → (t ≡ u) × (r ≡ s)
brackets_tell none none r s c d e = (refl, e)
brackets_tell none (node b k n) r s c d e = absurd (subst Closed e c)
brackets_tell (node a k n) none r s c d e = absurd (subst Closed (sym e) d)
brackets_tell (node a k n) (node b k' n') r s c d e =
    let flat : start_of a ∷ (brackets k ++ (end_of 0 ∷ (brackets n ++ r))) ≡ start_of b ∷ (brackets k' ++ (end_of 0 ∷ (brackets n' ++ s)))
    = ap (λ (l : List T.Edge). start_of a ∷ l) (sym (append_assoc (brackets k) (end_of 0 ∷ brackets n) r)) ∙ e
    ∙ ap (λ (l : List T.Edge). start_of b ∷ l) (append_assoc (brackets k') (end_of 0 ∷ brackets n') s) in
    let head : a ≡ b = cc in
    let tail : brackets k ++ (end_of 0 ∷ (brackets n ++ r)) ≡ brackets k' ++ (end_of 0 ∷ (brackets n' ++ s)) = cc in
    let first = brackets_tell k k' (end_of 0 ∷ (brackets n ++ r)) (end_of 0 ∷ (brackets n' ++ s)) tt tt tail in
    let rest : end_of 0 ∷ (brackets n ++ r) ≡ end_of 0 ∷ (brackets n' ++ s) = first.1 in
    let after : brackets n ++ r ≡ brackets n' ++ s = cc in
    let second = brackets_tell n n' r s c d after in
    let one : k ≡ k' = first.0 in
    let two : n ≡ n' = second.0 in
    (cc, second.1)

-- ---- edges agree exactly when their signs are equal

module _ (m m' : List ℕ) where
  abbrev number : ℕ → ℕ
  number z = link m z NUMBER

  abbrev number' : ℕ → ℕ
  number' z = link m' z NUMBER

  same-signs : (es fs : List T.Edge) → same m m' (edges_of es) (edges_of fs) ≡ true → signs number es ≡ signs number' fs
  unfolding alike
  same-signs [] [] h = refl
  same-signs [] (f ∷ fs) h = let z : ◌≡◌ {A = ℕ} 0 1 = cc in absurd (omega arith)
  same-signs (e ∷ es) [] h = let z : ◌≡◌ {A = ℕ} 0 1 = cc in absurd (omega arith)
  same-signs (start_of x ∷ es) (start_of y ∷ fs) h = by (eqb (link m x NUMBER) (link m' y NUMBER)) refl h (same-signs es fs)
    where
      by : (b : Bool) → eqb (link m x NUMBER) (link m' y NUMBER) ≡ b → cond b (same m m' (edges_of es) (edges_of fs)) false ≡ true
          → (same m m' (edges_of es) (edges_of fs) ≡ true → signs number es ≡ signs number' fs) → start_of (number x) ∷ signs number es ≡ start_of (number' y) ∷ signs number' fs
      by true q w ih = let a = eqb-true (link m x NUMBER) (link m' y NUMBER) q in let b = ih w in cc
      by false q w ih = let z : ◌≡◌ {A = ℕ} 0 1 = cc in absurd (omega arith)
  same-signs (start_of x ∷ es) (end_of y ∷ fs) h = let z : ◌≡◌ {A = ℕ} 0 1 = cc in absurd (omega arith)
  same-signs (end_of x ∷ es) (start_of y ∷ fs) h = let z : ◌≡◌ {A = ℕ} 0 1 = cc in absurd (omega arith)
  same-signs (end_of x ∷ es) (end_of y ∷ fs) h = ap (λ (l : List T.Edge). end_of 0 ∷ l) (same-signs es fs h)

  signs-same : (es fs : List T.Edge) → signs number es ≡ signs number' fs → same m m' (edges_of es) (edges_of fs) ≡ true
  unfolding alike
  signs-same [] [] h = refl
  signs-same [] (start_of y ∷ fs) h = let z : ◌≡◌ {A = ℕ} 0 1 = cc in absurd (omega arith)
  signs-same [] (end_of y ∷ fs) h = let z : ◌≡◌ {A = ℕ} 0 1 = cc in absurd (omega arith)
  signs-same (start_of x ∷ es) [] h = let z : ◌≡◌ {A = ℕ} 0 1 = cc in absurd (omega arith)
  signs-same (end_of x ∷ es) [] h = let z : ◌≡◌ {A = ℕ} 0 1 = cc in absurd (omega arith)
  signs-same (start_of x ∷ es) (start_of y ∷ fs) h =
      let a : link m x NUMBER ≡ link m' y NUMBER = cc in
      let b : signs number es ≡ signs number' fs = cc in
      simp (eq-eqb (link m x NUMBER) (link m' y NUMBER) a) (signs-same es fs b)
  signs-same (start_of x ∷ es) (end_of y ∷ fs) h = let z : ◌≡◌ {A = ℕ} 0 1 = cc in absurd (omega arith)
  signs-same (end_of x ∷ es) (start_of y ∷ fs) h = let z : ◌≡◌ {A = ℕ} 0 1 = cc in absurd (omega arith)
  signs-same (end_of x ∷ es) (end_of y ∷ fs) h = let b : signs number es ≡ signs number' fs = cc in signs-same es fs b

  -- of two trees
  same-trees : (t u : Tree) → (same m m' (edges_of (edges t)) (edges_of (edges u)) ≡ true) ↔ (numbered number t ≡ numbered number' u)
  same-trees t u = (
    λ h. (brackets_tell (numbered number t) (numbered number' u) [] [] tt tt
        (append-nil (brackets (numbered number t)) ∙ sym (signs-tree number t) ∙ same-signs (edges t) (edges u) h ∙ signs-tree number' u ∙ sym (append-nil (brackets (numbered number' u))))).0,
    λ e. signs-same (edges t) (edges u) (signs-tree number t ∙ ap brackets e ∙ sym (signs-tree number' u)),
  )

-- a tree has two edges for each node
edges-size : (t : Tree) → length (edges_of (edges t)) ≡ 2 * size t
edges-size t = length_of (edges t) ∙ twice t
  where
    length_of : (es : List T.Edge) → length (edges_of es) ≡ length es
    length_of [] = refl
    length_of (e ∷ es) = ap suc (length_of es)

    twice : (t : Tree) → length (edges t) ≡ 2 * size t
    twice none = refl
    twice (node x k n) =
        let a = twice k in
        let b = twice n in
        let c = length-append (edges k) (end_of x ∷ edges n) in
        omega arith

-- ---- the call

module _ (m : List ℕ) (h : Header) (sound : Sound m h) (x : ℕ) (f : Found m h.used x)
    (m' : List ℕ) (h' : Header) (sound' : Sound m' h') (y : ℕ) (g : Found m' h'.used y) where
  run-same : compare_run (2 * h.used + 1) m x (Start x) m' y (Start y) ≡ same m m' (edges_of (edges (tree_of m h sound x f))) (edges_of (edges (tree_of m' h' sound' y g)))
  unfolding go_on together
  run-same =
      let few = tree-few m h sound x f in
      let n = size-pre (tree_of m h sound x f) in
      let l = edges-size (tree_of m h sound x f) in
      together-same m m' h.used x h'.used y (2 * h.used + 1) (walk-trail m h sound x f) (walk-trail m' h' sound' y g) (omega arith)

  -- 1 exactly when shape and numbers are the same.
  pub compared_exact : ((compared m h.used x m' h'.used y).result ≡ 1)
      ↔ (numbered (λ z. link m z NUMBER) (tree_of m h sound x f) ≡ numbered (λ z. link m' z NUMBER) (tree_of m' h' sound' y g))
  unfolding compared refusal
  compared_exact = simp (is_found m h.used x f, is_found m' h'.used y g, run-same) (to, from)
    where
      t : Tree
      t = tree_of m h sound x f

      u : Tree
      u = tree_of m' h' sound' y g

      to : ◌≡◌ {A = ℕ} (cond (same m m' (edges_of (edges t)) (edges_of (edges u))) 1 0) 1 → numbered (λ z. link m z NUMBER) t ≡ numbered (λ z. link m' z NUMBER) u
      to e = (same-trees m m' t u).0 (sure (same m m' (edges_of (edges t)) (edges_of (edges u))) e)
        where
          sure : (b : Bool) → ◌≡◌ {A = ℕ} (cond b 1 0) 1 → b ≡ true
          sure true e = refl
          sure false e = absurd (omega arith)

      from : numbered (λ z. link m z NUMBER) t ≡ numbered (λ z. link m' z NUMBER) u → ◌≡◌ {A = ℕ} (cond (same m m' (edges_of (edges t)) (edges_of (edges u))) 1 0) 1
      from e = simp ((same-trees m m' t u).1 e)
