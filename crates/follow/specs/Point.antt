-- A function changed at one place: what it answers there, and elsewhere.
use Rattle.std.specs.Prelude.{◌≡◌, refl, ◌≢◌, ℕ}
use Rattle.std.proofs.Math.Logic.{ite, if_pos, if_neg}
use Rattle.std.proofs.Math.Decide.{ℕ_discrete}

-- f, with a at x
unfoldable pub at : (ℕ → ℕ) → ℕ → ℕ → ℕ → ℕ
at f x a y = ite (ℕ_discrete y x) a (f y)

pub at_same : (f : ℕ → ℕ) (x a : ℕ) → at f x a x ≡ a
unfolding at
at_same f x a = if_pos (ℕ_discrete x x) refl a (f x)

pub at_other : (f : ℕ → ℕ) (x a y : ℕ) → y ≢ x → at f x a y ≡ f y
unfolding at
at_other f x a y h = if_neg (ℕ_discrete y x) h a (f y)
