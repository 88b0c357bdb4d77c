-- Detaching a node leaves the tree below it as it was: neither its parent nor its previous sibling is below it, since no node is
-- above itself.
use Rattle.std.specs.Prelude.{◌≡◌, refl, ◌≢◌, ◌⊎◌, ◌∷◌, ℕ, zero, suc, ◌≤◌}
use Rattle.std.proofs.Common.{sym, ap, ◌∙◌, subst, inl, inr, arith}
use Rattle.rules.specs.Lists.{In, NoDup, All}
use Rattle.rules.specs.Links.{par, prv, nxt, fst, View}
use Rattle.rules.specs.Sound.{SoundLinks}
use Rattle.rules.specs.Tree.{Tree, none, node, pre, Hang, Above, self, higher}
use Rattle.follow.specs.Point.{at_other}
use Rattle.follow.specs.Follow.{Ends, EndsIn, ends_in, in-unique}
use Rattle.forest.specs.Lists.{in_left, in_right, in_cases, off-not_in, all_in}
use Rattle.forest.specs.View.{connect, detach}
use Rattle.forest.specs.Found.{Nodes}
use Rattle.forest.specs.Acyclic.{Acyclic}

-- ---- no node is above itself

above-deep : (f : ℕ → ℕ) (x : ℕ) {y : ℕ} → Above f x y → (n : ℕ) → EndsIn f n y → (k : ℕ) × EndsIn f k x × (k ≤ n)
above-deep f x (self z) n e = (n, e, omega arith)
above-deep f x (higher z a) zero e = absurd (z e)
above-deep f x (higher z a) (suc n) e = let (k, d, l) = above-deep f x a n e.1 in (k, d, omega arith)

pub no_loop : (f : ℕ → ℕ) (x : ℕ) → Ends f x → x ≢ 0 → Above f x (f x) → ⊥
no_loop f x e z a = let (n, d) = ends_in f e in go n d
  where
    go : (n : ℕ) → EndsIn f n x → ⊥
    go zero d = z d
    go (suc n) d = let (k, c, l) = above-deep f x a n d.1 in let q = in-unique f k (suc n) x c d in omega arith

above_then : {f : ℕ → ℕ} {x y z : ℕ} → Above f x y → Above f y z → Above f x z
above_then a (self n) = a
above_then a (higher n b) = higher n (above_then a b)

-- a node of the tree has its owner above it
hang-above : (v : View) (o : ℕ) (t : Tree) → o ≢ 0 → Hang v o t → (y : ℕ) → In y (pre t) → Above (v par) o y
hang-above v o (node a k n) oz h y (inl e) = subst (Above (v par) o) (sym e) (higher h.0 (subst (Above (v par) o) (sym h.1) (self oz)))
hang-above v o (node a k n) oz h y (inr t) = go (in_cases y (pre k) (pre n) t) (hang-above v a k h.0 h.4 y) (hang-above v o n oz h.5 y)
  where
    go : In y (pre k) ⊎ In y (pre n) → (In y (pre k) → Above (v par) a y) → (In y (pre n) → Above (v par) o y) → Above (v par) o y
    go (inl w) f g = above_then (higher h.0 (subst (Above (v par) o) (sym h.1) (self oz))) (f w)
    go (inr w) f g = g w
hang-above v o none oz h y x3 = elim x3 [ ]

-- ---- views that agree at the tree's nodes

pub hang_see : (v w : View) (o : ℕ) (t : Tree) → ((y : ℕ) → In y (pre t) → (w par y ≡ v par y) × (w nxt y ≡ v nxt y) × (w fst y ≡ v fst y))
    → Hang v o t → Hang w o t
hang_see v w o none same h = tt
hang_see v w o (node a k n) same h =
    let s = same a (inl refl) in (
      h.0,
      s.0 ∙ h.1,
      s.1 ∙ h.2,
      s.2 ∙ h.3,
      hang_see v w a k (λ y i. same y (inr (in_left y (pre k) (pre n) i))) h.4,
      hang_see v w o n (λ y i. same y (inr (in_right y (pre k) (pre n) i))) h.5,
    )

-- ---- a node detached

module _ (v : View) (live : ℕ → Type 0) (N : Nodes live) (S : SoundLinks v live) (A : Acyclic v live) (x : ℕ) (lx : live x) (t : Tree)
    (ht : Hang v x t) (lives : All live (pre t)) (once : NoDup (x ∷ pre t)) where
  xz : x ≢ 0
  xz = N.some x lx

  not-above : Above (v par) x (v par x) → ⊥
  not-above = no_loop (v par) x (A x lx) xz

  parent-apart : (y : ℕ) → In y (pre t) → y ≢ v par x
  parent-apart y i e = not-above (subst (Above (v par) x) e (hang-above v x t xz ht y i))

  self-apart : (y : ℕ) → In y (pre t) → y ≢ x
  self-apart y i e = off-not_in x (pre t) once.0 (subst (λ (z : ℕ). In z (pre t)) e i)

  previous-apart : (y : ℕ) → In y (pre t) → y ≢ v prv x
  previous-apart y i e = not-above (subst (Above (v par) x) shared (up (hang-above v x t xz ht y i) (self-apart y i)))
    where
      pz : v prv x ≢ 0
      pz q = N.some y (all_in live (pre t) lives y i) (e ∙ q)

      lp : live (v prv x)
      lp = S.found x lx prv pz

      next : v nxt (v prv x) ≡ x
      next = S.before x lx pz

      shared : v par y ≡ v par x
      shared = ap (v par) e ∙ sym (S.share (v prv x) lp (λ q. xz (sym next ∙ q))) ∙ ap (v par) next

      up : {y : ℕ} → Above (v par) x y → y ≢ x → Above (v par) x (v par y)
      up (self z) n = absurd (n refl)
      up (higher z a) n = a

  pub detach_fst : detach v x fst x ≡ v fst x
  unfolding detach connect
  detach_fst = at_other (v fst) (v par x) _ x (λ e. not-above (subst (Above (v par) x) e (self xz)))

  pub detach_hang : Hang (detach v x) x t
  unfolding detach connect
  detach_hang = hang_see v (detach v x) x t (λ y i. (
    at_other (v par) x 0 y (self-apart y i),
    at_other _ (v prv x) _ y (previous-apart y i) ∙ at_other (v nxt) x 0 y (self-apart y i),
    at_other (v fst) (v par x) _ y (parent-apart y i),
  )) ht
