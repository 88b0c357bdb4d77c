-- The four moves as calls: each number is answered exactly where document 01 says: SELF, REMOVED, ANCESTOR, else DONE.
use Rattle.std.proofs.Math.Path.{◌≡◌, refl}
use Rattle.std.specs.Prelude.{◌≢◌, ◌↔◌, Bool, not, ◌&&◌, List, [], ◌∷◌, ◌++◌, ℕ}
use Rattle.std.proofs.Math.Bool.{true, false}
use native.Mathlib.Omega.{arith}
use Rattle.std.proofs.Math.Dec.{eqb}
use Rattle.std.proofs.Common.{eqb-true}
use Rattle.std.proofs.lemmas.Bool.{eqb-false}
use Rattle.link.specs.Found.{Found, found_b}
use Rattle.link.specs.FoundLaws.{found_is, is_found}
use Rattle.link.specs.declared.header.Header.{Header}
use Rattle.rules.specs.Answers.{DONE, SELF, REMOVED, ANCESTOR, refusal}
use Rattle.rules.specs.Links.{view}
use Rattle.rules.specs.Sound.{Sound}
use Rattle.rules.specs.Forest.{Key, children, roots, Forest, detached, moved}
use Rattle.forest.specs.Places as places
use Rattle.forest.specs.Whole.{Forested}
use Rattle.moves.specs.Moves.{ancestor_b, move_no}
use Rattle.moves.specs.declared.place.Place.{Place}
use Rattle.moves.specs.declared.place.Place.TheVariants.{Append, Prepend, After, Before}
use Rattle.keeps_moves.specs.Rule.{Ancestor, Goes, Detaches, Puts}
use Rattle.keeps_moves.specs.Ancestors.{ancestor_exact}

-- Where the node stood, and where it goes, say what each edit makes of the forest.
pub detaches_of : (F : Forest) (x j : ℕ) (k : Key) (ls rs : List ℕ) → F k ≡ ls ++ x ∷ rs → F (roots j) ≡ [] → Detaches F x j (detached F k ls x rs j)
detaches_of F x j k ls rs e f = record { key = k; left = ls; right = rs; stood = e; free = f; is = refl }

pub puts_of : (place : Place) (F : Forest) (t x j : ℕ) (k : Key) (ls rs : List ℕ) → Goes place F t k ls rs
    → Puts place F t x j (moved F k ls (x ∷ []) rs (roots j))
puts_of place F t x j k ls rs g = record { key = k; left = ls; right = rs; goes = g; is = refl }

-- In a forest that memory holds, the place of a found target.
pub goes_some : (m : List ℕ) (h : Header) (F : Forest) → Forested m h F → (place : Place) (t : ℕ) → Found m h.used t
    → (k : Key) × (ls : List ℕ) × (rs : List ℕ) × Goes place F t k ls rs
goes_some m h F H Append t f = (children t, F (children t), [], (refl, refl, refl))
goes_some m h F H Prepend t f = (children t, [], F (children t), (refl, refl, refl))
goes_some m h F H After t f =
    let P = places.place (view m) (Found m h.used) F H t f in
    (P.key, P.left ++ t ∷ [], P.right, (P.left, refl, P.is))
goes_some m h F H Before t f =
    let P = places.place (view m) (Found m h.used) F H t f in
    (P.key, P.left, t ∷ P.right, (P.right, refl, P.is))

module _ (m : List ℕ) (h : Header) (S : Sound m h) (t x : ℕ) where
  -- What a move needs: two identifiers, both found, the moved node no proper ancestor of the target.
  pub record Movable : Type 0 where
    pub other : t ≢ x
    pub target : Found m h.used t
    pub node : Found m h.used x
    pub below : Ancestor (view m) x t → ⊥

  -- Each number, exactly: by the four tests in their order.
  numbers : (P : ℕ → Type 0) → (t ≡ x → P SELF) → (t ≢ x → (Found m h.used t → Found m h.used x → ⊥) → P REMOVED)
      → (t ≢ x → Found m h.used t → Found m h.used x → Ancestor (view m) x t → P ANCESTOR) → (Movable → P DONE) → P (move_no m h t x)
  unfolding move_no refusal
  numbers P f g k d = by (eqb t x) (found_b m h.used t) (found_b m h.used x) (ancestor_b m h t x) refl refl refl refl
    where
      lost : (y : ℕ) → found_b m h.used y ≡ false → Found m h.used y → ⊥
      lost y e w = let z : ◌≡◌ {A = ℕ} 0 1 = cc (is_found m h.used y w) in omega arith

      by : (a b c e : Bool) → eqb t x ≡ a → found_b m h.used t ≡ b → found_b m h.used x ≡ c → ancestor_b m h t x ≡ e
          → P (refusal false false false a (not (b && c)) e false false)
      by true b c e p q r s = f (eqb-true t x p)
      by false false c e p q r s = g (eqb-false t x p) (λ w _. lost t q w)
      by false true false e p q r s = g (eqb-false t x p) (λ _ w. lost x r w)
      by false true true true p q r s =
          let ft = found_is m h.used t q in let fx = found_is m h.used x r in
          k (eqb-false t x p) ft fx ((ancestor_exact m h S t x ft fx).0 s)
      by false true true false p q r s =
          let ft = found_is m h.used t q in let fx = found_is m h.used x r in
          d (record { other = eqb-false t x p; target = ft; node = fx; below = λ a. never ((ancestor_exact m h S t x ft fx).1 a) s })
        where
          never : {b : Bool} → b ≡ true → b ≡ false → ⊥
          never e i = let z : ◌≡◌ {A = ℕ} 0 1 = cc in omega arith

  pub move-self_exact : (move_no m h t x ≡ SELF) ↔ (t ≡ x)
  move-self_exact = numbers (λ n. (n ≡ SELF) ↔ (t ≡ x))
      (λ e. (λ _. e, λ _. refl))
      (λ n _. ((λ (z : REMOVED ≡ SELF). absurd (omega arith)), λ e. absurd (n e)))
      (λ n _ _ _. ((λ (z : ANCESTOR ≡ SELF). absurd (omega arith)), λ e. absurd (n e)))
      (λ w. ((λ (z : DONE ≡ SELF). absurd (omega arith)), λ e. absurd (w.other e)))

  pub move-removed_exact : (move_no m h t x ≡ REMOVED) ↔ ((t ≢ x) × (Found m h.used t → Found m h.used x → ⊥))
  move-removed_exact = numbers (λ n. (n ≡ REMOVED) ↔ ((t ≢ x) × (Found m h.used t → Found m h.used x → ⊥)))
      (λ e. ((λ (z : SELF ≡ REMOVED). absurd (omega arith)), λ w. absurd (w.0 e)))
      (λ n l. (λ _. (n, l), λ _. refl))
      (λ n ft fx _. ((λ (z : ANCESTOR ≡ REMOVED). absurd (omega arith)), λ w. absurd (w.1 ft fx)))
      (λ d. ((λ (z : DONE ≡ REMOVED). absurd (omega arith)), λ w. absurd (w.1 d.target d.node)))

  pub move_ancestor_exact : (move_no m h t x ≡ ANCESTOR) ↔ ((t ≢ x) × Found m h.used t × Found m h.used x × Ancestor (view m) x t)
  move_ancestor_exact = numbers (λ n. (n ≡ ANCESTOR) ↔ ((t ≢ x) × Found m h.used t × Found m h.used x × Ancestor (view m) x t))
      (λ e. ((λ (z : SELF ≡ ANCESTOR). absurd (omega arith)), λ w. absurd (w.0 e)))
      (λ n l. ((λ (z : REMOVED ≡ ANCESTOR). absurd (omega arith)), λ w. absurd (l w.1 w.2)))
      (λ n ft fx a. (λ _. (n, ft, fx, a), λ _. refl))
      (λ d. ((λ (z : DONE ≡ ANCESTOR). absurd (omega arith)), λ w. absurd (d.below w.3)))

  pub move-done_exact : (move_no m h t x ≡ DONE) ↔ Movable
  move-done_exact = numbers (λ n. (n ≡ DONE) ↔ Movable)
      (λ e. ((λ (z : SELF ≡ DONE). absurd (omega arith)), λ w. absurd (w.other e)))
      (λ n l. ((λ (z : REMOVED ≡ DONE). absurd (omega arith)), λ w. absurd (l w.target w.node)))
      (λ n ft fx a. ((λ (z : ANCESTOR ≡ DONE). absurd (omega arith)), λ w. absurd (w.below a)))
      (λ d. (λ _. d, λ _. refl))
