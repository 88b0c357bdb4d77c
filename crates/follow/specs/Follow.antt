-- Following a function from place to place until it comes to 0: as an induction, and with the number of steps, which is one only.
-- So no place is met twice, and a function within N places comes to 0 in at most N + 1 steps or never.
use Rattle.std.specs.Prelude.{◌≡◌, refl, ◌≢◌, List, [], ◌∷◌, ℕ, zero, suc, ◌≤◌, ◌<◌, length}
use Rattle.std.proofs.Common.{ap, subst, suc-le-suc, le_refl, lt_irrefl, arith}
use Rattle.std.proofs.Math.Decide.{ℕ_discrete}
use Rattle.rules.specs.Lists.{head_or, Off, NoDup}
use Rattle.follow.specs.Pigeons.{Below, pigeons}

-- following f from here comes to 0
pub data Ends (f : ℕ → ℕ) : ℕ → Type 0 where
  stop : Ends f 0
  step : {x : ℕ} → x ≢ 0 → Ends f (f x) → Ends f x

pub ends-tail : {f : ℕ → ℕ} {x : ℕ} → x ≢ 0 → Ends f x → Ends f (f x)
ends-tail h stop = absurd (h refl)
ends-tail h (step _ r) = r

-- the same of two functions that agree at live places
pub ends_see : (live : ℕ → Type 0) (f g : ℕ → ℕ) → ((z : ℕ) → live z → g z ≡ f z) → ((z : ℕ) → live z → f z ≢ 0 → live (f z)) → (y : ℕ) → live y
    → Ends f y → Ends g y
ends_see live f g same closed y l stop = stop
ends_see live f g same closed y l (step h r) = go (λ w. ends_see live f g same closed (f y) w r) (ℕ_discrete (f y) 0)
  where
    go : (live (f y) → Ends g (f y)) → Dec (f y ≡ 0) → Ends g y
    go ih (yes e) = step h (rw (same y l, e) stop)
    go ih (no n) = step h (rw (same y l) (ih (closed y l n)))

module _ (f : ℕ → ℕ) where
  -- in n steps
  abbrev pub EndsIn : ℕ → ℕ → Type 0
  EndsIn zero x = x ≡ 0
  EndsIn (suc n) x = (x ≢ 0) × EndsIn n (f x)

  pub in-unique : (n m x : ℕ) → EndsIn n x → EndsIn m x → n ≡ m
  in-unique zero zero x a b = refl
  in-unique zero (suc m) x a b = absurd (b.0 a)
  in-unique (suc n) zero x a b = absurd (a.0 b)
  in-unique (suc n) (suc m) x a b = ap suc (in-unique n m (f x) a.1 b.1)

  pub ends_in : {x : ℕ} → Ends f x → (n : ℕ) × EndsIn n x
  ends_in stop = (0, refl)
  ends_in (step h r) = let (n, a) = ends_in r in (suc n, (h, a))

  -- the first n places met
  abbrev pub path : ℕ → ℕ → List ℕ
  path zero x = []
  path (suc n) x = x ∷ path n (f x)

  pub path-length : (n x : ℕ) → length (path n x) ≡ n
  path-length zero x = refl
  path-length (suc n) x = ap suc (path-length n (f x))

  pub path-head : (n x : ℕ) → EndsIn n x → x ≡ head_or (path n x) 0
  path-head zero x a = a
  path-head (suc n) x a = refl

  path_off : (k y : ℕ) → EndsIn k y → (n x : ℕ) → EndsIn n x → n < k → Off y (path n x)
  path_off k y a zero x b h = tt
  path_off k y a (suc n) x b h =
      ((λ e. lt_irrefl _ (subst (λ (z : ℕ). suc n < z) (in-unique k (suc n) x (subst (EndsIn k) e a) b) h)), path_off k y a n (f x) b.1 (omega arith))

  pub path_nodup : (n x : ℕ) → EndsIn n x → NoDup (path n x)
  path_nodup zero x a = tt
  path_nodup (suc n) x a = (path_off (suc n) x a n (f x) a.1 (le_refl _), path_nodup n (f x) a.1)

  module _ (N : ℕ) (inside : (x : ℕ) → x ≤ N → f x ≤ N) where
    path-below : (n x : ℕ) → x ≤ N → EndsIn n x → Below (suc N) (path n x)
    path-below zero x h a = tt
    path-below (suc n) x h a = (suc-le-suc h, path-below n (f x) (inside x h) a.1)

    pub in-bound : (n x : ℕ) → x ≤ N → EndsIn n x → n ≤ suc N
    in-bound n x h a = subst (λ (z : ℕ). z ≤ suc N) (path-length n x) (pigeons (suc N) (path n x) (path-below n x h a) (path_nodup n x a))
