-- Distinct numbers below n are at most n.
-- By taking n - 1 out of the list, again and again.
use Rattle.std.specs.Prelude.{◌≡◌, ◌≢◌, List, [], ◌∷◌, ℕ, zero, suc, ◌≤◌, ◌<◌, length}
use Rattle.std.proofs.Common.{sym, subst, zero-le, suc-le-suc, le_refl, le_trans, not-suc-le-zero, arith}
use Rattle.std.proofs.Math.Logic.{ite}
use Rattle.std.proofs.Math.Decide.{ℕ_discrete}
use Rattle.rules.specs.Lists.{Off, NoDup, All}

abbrev pub Below : ℕ → List ℕ → Type 0
Below n xs = All (λ x. x < n) xs

-- without the first a
unfoldable without : ℕ → List ℕ → List ℕ
without a [] = []
without a (x ∷ xs) = ite (ℕ_discrete x a) xs (x ∷ without a xs)

without-length : (a : ℕ) (xs : List ℕ) → length xs ≤ suc (length (without a xs))
unfolding without
without-length a [] = zero-le
without-length a (x ∷ xs) = go (without-length a xs) (ℕ_discrete x a)
  where
    go : length xs ≤ suc (length (without a xs)) → (d : Dec (x ≡ a)) → suc (length xs) ≤ suc (length (ite d xs (x ∷ without a xs)))
    go ih (yes e) = le_refl _
    go ih (no h) = suc-le-suc ih

without_off : (a y : ℕ) (xs : List ℕ) → Off y xs → Off y (without a xs)
unfolding without
without_off a y [] h = tt
without_off a y (x ∷ xs) h = go (without_off a y xs h.1) (ℕ_discrete x a)
  where
    go : Off y (without a xs) → (d : Dec (x ≡ a)) → Off y (ite d xs (x ∷ without a xs))
    go ih (yes e) = h.1
    go ih (no _) = (h.0, ih)

without_nodup : (a : ℕ) (xs : List ℕ) → NoDup xs → NoDup (without a xs)
unfolding without
without_nodup a [] h = tt
without_nodup a (x ∷ xs) h = go (without_nodup a xs h.1) (ℕ_discrete x a)
  where
    go : NoDup (without a xs) → (d : Dec (x ≡ a)) → NoDup (ite d xs (x ∷ without a xs))
    go ih (yes e) = h.1
    go ih (no _) = (without_off a x xs h.0, ih)

below_off : (n : ℕ) (xs : List ℕ) → Below (suc n) xs → Off n xs → Below n xs
below_off n [] b o = tt
below_off n (x ∷ xs) b o = (let h : x ≢ n = (λ e. o.0 (sym e)) in let k = b.0 in omega arith, below_off n xs b.1 o.1)

without-below : (n : ℕ) (xs : List ℕ) → Below (suc n) xs → NoDup xs → Below n (without n xs)
unfolding without
without-below n [] b h = tt
without-below n (x ∷ xs) b h = go (without-below n xs b.1 h.1) (ℕ_discrete x n)
  where
    go : Below n (without n xs) → (d : Dec (x ≡ n)) → Below n (ite d xs (x ∷ without n xs))
    go ih (yes e) = below_off n xs b.1 (subst (λ (z : ℕ). Off z xs) e h.0)
    go ih (no q) = (let k = b.0 in omega arith, ih)

pub pigeons : (n : ℕ) (xs : List ℕ) → Below n xs → NoDup xs → length xs ≤ n
pigeons zero [] b h = zero-le
pigeons zero (x ∷ xs) b h = absurd (not-suc-le-zero b.0)
pigeons (suc n) xs b h = le_trans (without-length n xs) (suc-le-suc (pigeons n (without n xs) (without-below n xs b h) (without_nodup n xs h)))
