-- Following a step function through a list of nodes to a last one; a list by steps is what is met on the way to none.
-- From the definition of the list alone.
use Rattle.std.specs.Prelude.{◌≡◌, ◌≢◌, length}
use Rattle.std.proofs.Math.Path.{refl}
use Rattle.std.proofs.Common.{sym, ap, subst, arith, ne_eqb}
use mathlib.Core.List.{List, [], ◌∷◌, ◌++◌}
use Prim.Native.Nat.{ℕ, zero, suc, ◌≤◌}
use Rattle.follow.specs.Follow.{EndsIn, path}
use Rattle.lists.specs.Orders.{along}

-- From y, step after step, through ys to z.
pub data Steps (f : ℕ → ℕ) : ℕ → List ℕ → ℕ → Type 0 where
  here : {y : ℕ} → Steps f y [] y
  on : {y z : ℕ} {ys : List ℕ} → y ≢ 0 → Steps f (f y) ys z → Steps f y (y ∷ ys) z

module _ {f : ℕ → ℕ} where
  pub steps_then : {a b c : ℕ} {xs ys : List ℕ} → Steps f a xs b → Steps f b ys c → Steps f a (xs ++ ys) c
  steps_then here t = t
  steps_then (on h s) t = on h (steps_then s t)

  pub steps-from : {a b c : ℕ} {xs : List ℕ} → a ≡ b → Steps f b xs c → Steps f a xs c
  steps-from {c = c} {xs = xs} e s = subst (λ (y : ℕ). Steps f y xs c) (sym e) s

  -- The list by steps, with enough of them.
  pub steps-along : (n : ℕ) {y : ℕ} {ys : List ℕ} → Steps f y ys 0 → length ys ≤ n → along f n y ≡ ys
  unfolding along
  steps-along zero here h = refl
  steps-along zero (on k s) h = absurd (omega arith)
  steps-along (suc n) here h = refl
  steps-along (suc n) (on {y} {z} {ys} k s) h = simp (ne_eqb y 0 k) (ap (λ (l : List ℕ). y ∷ l) (steps-along n s (omega arith)))

  pub path-steps : (n y : ℕ) → EndsIn f n y → Steps f y (path f n y) 0
  path-steps zero y e = subst (λ (z : ℕ). Steps f y [] z) e here
  path-steps (suc n) y a = on a.0 (path-steps n (f y) a.1)

-- Two step functions that agree.
pub along-same : (f g : ℕ → ℕ) → ((y : ℕ) → f y ≡ g y) → (n y : ℕ) → along f n y ≡ along g n y
unfolding along
along-same f g h zero y = refl
along-same f g h (suc n) y = rw (along-same f g h n (f y), h y) refl
