-- Lists one after the other: their members, no member twice where the lists are apart; and how often a member occurs.
-- From the definitions.
use Rattle.std.specs.Prelude.{◌≡◌, refl, ◌⊎◌, ◌↔◌, List, [], ◌∷◌, ◌++◌, ℕ}
use Rattle.std.proofs.Common.{sym, subst, inl, inr, arith, eq-eqb, ne_eqb}
use Rattle.rules.specs.Lists.{In, Off, NoDup}
use Rattle.forest.specs.Lists.{in_left, in_right, in_cases, not_in_off, off-not_in, apart_of, nodup_append}
use Rattle.history.specs.Walked.{through, occurs}

pub in-through : (f : ℕ → List ℕ) (xs : List ℕ) (y : ℕ) → In y (through f xs) ↔ ((x : ℕ) × In x xs × In y (f x))
in-through f [] y = (λ i. absurd i, λ q. q.1)
in-through f (x ∷ xs) y = (λ i. to (in-through f xs y).0 (in_cases y (f x) (through f xs) i), from (in-through f xs y).1)
  where
    to : (In y (through f xs) → (z : ℕ) × In z xs × In y (f z)) → In y (f x) ⊎ In y (through f xs) → (z : ℕ) × In z (x ∷ xs) × In y (f z)
    to r (inl i) = (x, inl refl, i)
    to r (inr i) = let q = r i in (q.0, inr q.1, q.2)

    from : ((z : ℕ) × In z xs × In y (f z) → In y (through f xs)) → (z : ℕ) × In z (x ∷ xs) × In y (f z) → In y (f x ++ through f xs)
    from r (z, inl e, i) = in_left y (f x) (through f xs) (subst (λ (t : ℕ). In y (f t)) e i)
    from r (z, inr j, i) = in_right y (f x) (through f xs) (r (z, j, i))

pub nodup-through : (f : ℕ → List ℕ) (xs : List ℕ) → NoDup xs → ((x : ℕ) → In x xs → NoDup (f x))
    → ((x z y : ℕ) → In x xs → In z xs → In y (f x) → In y (f z) → x ≡ z) → NoDup (through f xs)
nodup-through f [] d each apart = tt
nodup-through f (x ∷ xs) d each apart =
    nodup_append (f x) (through f xs) (each x (inl refl)) (nodup-through f xs d.1 (λ z i. each z (inr i)) (λ a b y i j. apart a b y (inr i) (inr j)))
    (apart_of (f x) (through f xs) (λ y i. not_in_off y (through f xs) (λ j. twice y i ((in-through f xs y).0 j))))
  where
    twice : (y : ℕ) → In y (f x) → (z : ℕ) × In z xs × In y (f z) → ⊥
    twice y i (z, j, k) = off-not_in x xs d.0 (subst (λ (t : ℕ). In t xs) (sym (apart x z y (inl refl) (inr j) i k)) j)

pub off-occurs : (x : ℕ) (xs : List ℕ) → Off x xs → occurs x xs ≡ 0
off-occurs x [] o = refl
off-occurs x (y ∷ ys) o = let e = off-occurs x ys o.1 in simp (ne_eqb y x (λ q. o.0 (sym q))) (omega arith)

pub in-occurs : (x : ℕ) (xs : List ℕ) → NoDup xs → In x xs → occurs x xs ≡ 1
in-occurs x (y ∷ ys) d (inl q) = let e = off-occurs x ys (subst (λ (z : ℕ). Off z ys) (sym q) d.0) in simp (eq-eqb y x (sym q)) (omega arith)
in-occurs x (y ∷ ys) d (inr i) =
    let e = in-occurs x ys d.1 i in simp (ne_eqb y x (λ q. off-not_in y ys d.0 (subst (λ (z : ℕ). In z ys) (sym q) i))) (omega arith)
in-occurs x [] d x3 = elim x3 [ ]
