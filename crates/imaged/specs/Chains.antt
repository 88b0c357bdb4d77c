-- Lists of slots that lead from one to the next: one taken out of the middle, and all spent ones left out.
-- Excluded: an order changed by leaving slots out; a spent slot kept.
use Rattle.std.specs.Prelude.{◌≡◌, ◌≢◌, ◌⊎◌, Bool, cond, ℕ}
use Rattle.std.proofs.Math.Path.{refl}
use Rattle.std.proofs.Common.{sym, ap, ◌∙◌, subst, inl, inr}
use Rattle.std.proofs.Math.Bool.{true, false}
use mathlib.Core.List.{List, [], ◌∷◌, ◌++◌}
use Rattle.std.proofs.Math.Dec.{eqb}
use borrow.Author.Tests.{eqb-false, ne_eqb}
use Rattle.link.specs.Ids.{stamp_of}
use Rattle.link.specs.Words.{STAMP, word}
use Rattle.rules.specs.Lists.{head_or, last_or, In, NoDup, All}
use Rattle.rules.specs.Sound.{Unspent, Linked}
use Rattle.forest.specs.Lists.{off-left, off-not_in, not_in_off, off-last}

pub linked_at : (f : ℕ → ℕ) (ls : List ℕ) (x : ℕ) (xs : List ℕ) → Linked f (ls ++ x ∷ xs) → f x ≡ head_or xs 0
linked_at f [] x xs l = l.0
linked_at f (y ∷ ys) x xs l = linked_at f ys x xs l.1

pub linked-same : (f g : ℕ → ℕ) (xs : List ℕ) → ((s : ℕ) → In s xs → g s ≡ f s) → Linked f xs → Linked g xs
linked-same f g [] same l = tt
linked-same f g (x ∷ xs) same l = (same x (inl refl) ∙ l.0, linked-same f g xs (λ s t. same s (inr t)) l.1)

-- x taken out, behind the last of a list: that one leads to where x did, the others as before.
pub linked-out : (f g : ℕ → ℕ) (y : ℕ) (ys : List ℕ) (x : ℕ) (xs : List ℕ) → NoDup ((y ∷ ys) ++ x ∷ xs)
    → ((s : ℕ) → In s ((y ∷ ys) ++ xs) → s ≢ last_or y ys → g s ≡ f s) → g (last_or y ys) ≡ f x
    → Linked f ((y ∷ ys) ++ x ∷ xs) → Linked g ((y ∷ ys) ++ xs)
linked-out f g y [] x xs d same past l = (
  past ∙ l.1.0,
  linked-same f g xs (λ s t. same s (inr t) (λ e. off-not_in y xs d.0.1 (subst (λ (z : ℕ). In z xs) e t))) l.1.1,
)
linked-out f g y (z ∷ zs) x xs d same past l = (
  same y (inl refl) (off-last y z zs (off-left y (z ∷ zs) (x ∷ xs) d.0)) ∙ l.0,
  linked-out f g z zs x xs d.1 (λ s t n. same s (inr t) n) past l.1,
)

-- ---- the slots that are not spent, in their order

unfoldable pub unspent_of : List ℕ → List ℕ → List ℕ
unspent_of m [] = []
unspent_of m (s ∷ fs) = cond (eqb (stamp_of (word m s STAMP)) 32768) (unspent_of m fs) (s ∷ unspent_of m fs)

pub unspent-same : (m m' : List ℕ) → ((s : ℕ) → word m' s STAMP ≡ word m s STAMP) → (fs : List ℕ) → unspent_of m' fs ≡ unspent_of m fs
unfolding unspent_of
unspent-same m m' same [] = refl
unspent-same m m' same (s ∷ fs) = rw (same s, unspent-same m m' same fs)

module _ (m : List ℕ) where
  -- Each is one of them, and not spent.
  pub unspent_in : (fs : List ℕ) (y : ℕ) → In y (unspent_of m fs) → In y fs × Unspent m y
  unfolding unspent_of
  unspent_in [] y t = absurd t
  unspent_in (s ∷ fs) y t = by (eqb (stamp_of (word m s STAMP)) 32768) refl (unspent_in fs y) t
    where
      by : (b : Bool) → eqb (stamp_of (word m s STAMP)) 32768 ≡ b → (In y (unspent_of m fs) → In y fs × Unspent m y)
          → In y (cond b (unspent_of m fs) (s ∷ unspent_of m fs)) → ((y ≡ s) ⊎ In y fs) × Unspent m y
      by true e ih t = let (a, u) = ih t in (inr a, u)
      by false e ih (inl q) = (inl q, λ r. eqb-false (stamp_of (word m s STAMP)) 32768 e (ap (λ (z : ℕ). stamp_of (word m z STAMP)) (sym q) ∙ r))
      by false e ih (inr t) = let (a, u) = ih t in (inr a, u)

  pub unspent_nodup : (fs : List ℕ) → NoDup fs → NoDup (unspent_of m fs)
  unfolding unspent_of
  unspent_nodup [] d = tt
  unspent_nodup (s ∷ fs) d = by (eqb (stamp_of (word m s STAMP)) 32768) (unspent_nodup fs d.1)
    where
      by : (b : Bool) → NoDup (unspent_of m fs) → NoDup (cond b (unspent_of m fs) (s ∷ unspent_of m fs))
      by true ih = ih
      by false ih = (not_in_off s (unspent_of m fs) (λ t. off-not_in s fs d.0 (unspent_in fs s t).0), ih)

  -- Where none is spent, all of them.
  pub unspent-all : (fs : List ℕ) → All (Unspent m) fs → unspent_of m fs ≡ fs
  unfolding unspent_of
  unspent-all [] a = refl
  unspent-all (s ∷ fs) a = rw (ne_eqb (stamp_of (word m s STAMP)) 32768 a.0) (ap (λ (t : List ℕ). s ∷ t) (unspent-all fs a.1))
