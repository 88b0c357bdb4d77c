-- ANCESTOR is answered exactly where the node to move is a proper ancestor of the target: `used` + 1 steps along the parents are
-- enough, and a node without children is above no other.
use Rattle.std.specs.Prelude.{◌≡◌, ◌≢◌, ◌⊎◌, ◌↔◌, Bool, true, false, cond, List, ◌∷◌, eqb}
use Rattle.std.proofs.Math.Path.{refl}
use Rattle.std.proofs.Common.{sym, ◌∙◌, subst, inl, inr, arith, eqb-true}
use Prim.Native.Nat.{ℕ, zero, suc, ◌+◌, ◌<◌}
use Rattle.std.proofs.lemmas.Bool.{eqb-false}
use Rattle.link.specs.Words.{PARENT, FIRST, link}
use Rattle.link.specs.Found.{Found}
use Rattle.link.specs.declared.header.Header.{Header}
use Rattle.rules.specs.Lists.{head_or, In, Off}
use Rattle.rules.specs.Links.{par, fst, View, view}
use Rattle.rules.specs.Sound.{Sound}
use Rattle.rules.specs.Forest.{Key, children, roots, owner, Forest, OwnerIn, Holds}
use Rattle.rules.specs.Tree.{Above, self, higher}
use Rattle.follow.specs.Follow.{EndsIn, ends_in, ends-tail}
use Rattle.forest.specs.Found.{found_some}
use Rattle.forest.specs.Bound.{steps-few}
use Rattle.forest.specs.Lists.{in_right}
use Rattle.forest.specs.Members.{zero_off}
use Rattle.forest.specs.Places.{Place, place}
use Rattle.forest.specs.Whole.{forest_of, sound_forested, no_cycle}
use Rattle.moves.specs.Moves.{on_path_b, ancestor_or_self_b, ancestor_b}
use Rattle.keeps_moves.specs.Rule.{Ancestor}

pub above-some : {f : ℕ → ℕ} {x y : ℕ} → Above f x y → y ≢ 0
above-some (self n) = n
above-some (higher n a) = n

pub above-or : {f : ℕ → ℕ} {x y : ℕ} → Above f x y → (y ≡ x) ⊎ Above f x (f y)
above-or (self n) = inl refl
above-or (higher n a) = inr a

clash : {P : Type 0} → true ≡ false → P
clash e = let z : ◌≡◌ {A = ℕ} 0 1 = cc in absurd (omega arith)

-- ---- the loop

-- its no is a no
path_no : (n : ℕ) (m : List ℕ) (x y : ℕ) → on_path_b n m x y ≡ false → Above (view m par) x y → ⊥
unfolding on_path_b
path_no zero m x y e a = clash e
path_no (suc n) m x y e a = go (eqb y 0) (eqb y x) refl refl e (above-or a) (path_no n m x (link m y PARENT))
  where
    go : (s t : Bool) → eqb y 0 ≡ s → eqb y x ≡ t → cond s false (cond t true (on_path_b n m x (link m y PARENT))) ≡ false
        → (y ≡ x) ⊎ Above (view m par) x (view m par y) → (on_path_b n m x (link m y PARENT) ≡ false → Above (view m par) x (link m y PARENT) → ⊥) → ⊥
    go true t p q r o ih = above-some a (eqb-true y 0 p)
    go false true p q r o ih = clash r
    go false false p q r (inl z) ih = eqb-false y x q z
    go false false p q r (inr b) ih = ih r b

-- its yes is a yes, with enough steps
path-yes : (n k : ℕ) (m : List ℕ) (x y : ℕ) → k < n → EndsIn (view m par) k y → on_path_b n m x y ≡ true → Above (view m par) x y
unfolding on_path_b
path-yes zero k m x y l a e = absurd (omega arith)
path-yes (suc n) zero m x y l a e = go (eqb y 0) refl e
  where
    go : (s : Bool) → eqb y 0 ≡ s → cond s false (cond (eqb y x) true (on_path_b n m x (link m y PARENT))) ≡ true → Above (view m par) x y
    go true p q = clash (sym q)
    go false p q = absurd (eqb-false y 0 p a)
path-yes (suc n) (suc k) m x y l a e = go (eqb y 0) (eqb y x) refl refl e (path-yes n k m x (link m y PARENT) (omega arith) a.1)
  where
    go : (s t : Bool) → eqb y 0 ≡ s → eqb y x ≡ t → cond s false (cond t true (on_path_b n m x (link m y PARENT))) ≡ true
        → (on_path_b n m x (link m y PARENT) ≡ true → Above (view m par) x (link m y PARENT)) → Above (view m par) x y
    go true t p q r ih = clash (sym r)
    go false true p q r ih = let z = eqb-true y x q in subst (Above (view m par) x) (sym z) (self (λ o. a.0 (z ∙ o)))
    go false false p q r ih = higher a.0 (ih r)

-- ---- a node without children

module _ (v : View) (live : ℕ → Type 0) (F : Forest) (H : Holds v live F) (closed : (y : ℕ) → live y → v par y ≢ 0 → live (v par y)) where
  -- a parent has a first child
  parent-first : (y : ℕ) → live y → v par y ≢ 0 → v fst (v par y) ≢ 0
  parent-first y l h = go P.key P.ok (rw P.is (in_right y P.left (y ∷ P.right) (inl refl))) P.parent
    where
      P : Place v live F H y
      P = place v live F H y l

      some : (xs : List ℕ) → In y xs → Off 0 xs → head_or xs 0 ≢ 0
      some (a ∷ xs) t o z = o.0 (sym z)
      some mathlib.Core.List.[] t o z = elim t [ ]

      go : (k : Key) → OwnerIn live k → In y (F k) → v par y ≡ owner k → v fst (v par y) ≢ 0
      go (roots i) ok t q = absurd (h q)
      go (children p) ok t q =
          rw q (λ z. some (F (children p)) t (zero_off live F H.members (children p)) (sym ((H.chains (children p) ok).first (λ w. h (q ∙ w))) ∙ z))

  -- what is above a child has a first child
  pub above-first : {x y : ℕ} → Above (v par) x y → (t : ℕ) → live t → v par t ≡ y → v fst x ≢ 0
  above-first (self n) t l e = subst (λ (z : ℕ). v fst z ≢ 0) e (parent-first t l (λ z. n (sym e ∙ z)))
  above-first {x} {y} (higher n a) t l e = above-first a y (subst live e (closed t l (λ z. n (sym e ∙ z)))) refl

-- ---- the test

module _ (m : List ℕ) (h : Header) (S : Sound m h) (t x : ℕ) (ft : Found m h.used t) (fx : Found m h.used x) where
  closed : (y : ℕ) → Found m h.used y → view m par y ≢ 0 → Found m h.used (view m par y)
  closed y l = S.links.found y l par

  ancestor-first : Ancestor (view m) x t → link m x FIRST ≢ 0
  ancestor-first a = above-first (view m) (Found m h.used) (forest_of m h S) (sound_forested m h S) closed a t ft refl

  pub ancestor_exact : (ancestor_b m h t x ≡ true) ↔ Ancestor (view m) x t
  unfolding ancestor_or_self_b
  ancestor_exact = (λ e. to (eqb (link m x FIRST) 0) refl e, λ a. from (eqb (link m x FIRST) 0) (ancestor_b m h t x) refl refl a)
    where
      up : ℕ
      up = view m par t

      to : (b : Bool) → eqb (link m x FIRST) 0 ≡ b → cond b (eqb x up) (on_path_b (h.used + 1) m x up) ≡ true → Ancestor (view m) x t
      to true p e = subst (Above (view m par) x) (eqb-true x up e) (self (found_some m h.used x fx))
      to false p e =
          let (k, a) = ends_in (view m par) (ends-tail (found_some m h.used t ft) (no_cycle m h S t ft)) in
          let few = steps-few m h.used (view m par) closed k up (closed t ft) a in
          path-yes (h.used + 1) k m x up (omega arith) a e

      from : (b c : Bool) → eqb (link m x FIRST) 0 ≡ b → cond b (eqb x up) (on_path_b (h.used + 1) m x up) ≡ c → Ancestor (view m) x t → c ≡ true
      from true c p e a = absurd (ancestor-first a (eqb-true (link m x FIRST) 0 p))
      from false true p e a = refl
      from false false p e a = absurd (path_no (h.used + 1) m x up e a)
