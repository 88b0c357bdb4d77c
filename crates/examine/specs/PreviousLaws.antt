-- The test of previous and parent, where the one that leads to the node is chosen by value. By cases on whether each is none.
use Rattle.std.specs.Prelude.{◌≡◌, Bool, List, ℕ, ◌<◌, eqb}
use Rattle.std.proofs.Math.Path.{refl, sym, ap}
use Rattle.std.proofs.Common.{◌∙◌, arith}
use Rattle.std.proofs.Math.Bool.{true, false, cond}
use Rattle.std.proofs.lemmas.Bool.Decides.{nat_tests}
use borrow.Author.Tests.{eq-eqb, ne_eqb}
use Rattle.link.specs.Words.{NEXT, FIRST, width}
use Rattle.link.specs.Found.{found_b}
use Rattle.examine.specs.Slots.{has_b, lead_ok, none_or_found_b, previous_ok}

-- The word by which the node that leads to another names it.
abbrev pub lead_word : Bool → ℕ
lead_word none = cond none FIRST NEXT

pub lead-below : (none : Bool) → lead_word none < width
lead-below true = omega arith
lead-below false = omega arith

module _ (m : List ℕ) (used x parent previous : ℕ) where
  pub rootless-first : parent ≡ 0 → previous ≡ 0 → true ≡ previous_ok m used x parent previous
  unfolding previous_ok lead_ok
  rootless-first p q = simp (eq-eqb parent 0 p, eq-eqb previous 0 q)

  pub rootless-later : {r : Bool} → parent ≡ 0 → (previous ≡ 0 → ⊥) → r ≡ has_b m used previous NEXT x NEXT x → r ≡ previous_ok m used x parent previous
  unfolding previous_ok none_or_found_b
  rootless-later p q e = simp (eq-eqb parent 0 p, ne_eqb previous 0 q) (e ∙ sym (whole (has_b m used previous NEXT x NEXT x)))
    where
      whole : (b : Bool) → cond b true false ≡ b
      whole true = refl
      whole false = refl

  -- what leads to x, and by which word
  abbrev leads : Bool → Bool
  leads none = has_b m used (cond none parent previous) (lead_word none) x (lead_word none) x

  -- under a parent
  led : (none : Bool) → cond (leads none) (found_b m used parent) false
      ≡ cond none (has_b m used parent FIRST x FIRST x) (cond (has_b m used previous NEXT x NEXT x) (found_b m used parent) false)
  unfolding has_b
  led true = twice (found_b m used parent) _
    where
      twice : (f g : Bool) → cond (cond f g false) f false ≡ cond f g false
      twice true true = refl
      twice true false = refl
      twice false g = refl
  led false = refl

  module _ {lead k : ℕ} {b : Bool} (p : parent ≡ 0 → ⊥) (l : lead ≡ cond (eqb previous 0) parent previous) (w : k ≡ lead_word (eqb previous 0))
      (h : b ≡ has_b m used lead k x k x) where
    known : cond b (found_b m used parent) false ≡ previous_ok m used x parent previous
    unfolding previous_ok lead_ok none_or_found_b
    known =
        simp (ne_eqb parent 0 p)
        (ap (λ (t : Bool). cond t (found_b m used parent) false) (h ∙ ap (λ (y : ℕ). has_b m used y k x k x) l ∙ ap (λ (j : ℕ). has_b m used (cond (eqb previous 0) parent previous) j x j x) w)
        ∙ led (eqb previous 0))

    pub led-found : {r : Bool} → b ≡ true → r ≡ found_b m used parent → r ≡ previous_ok m used x parent previous
    led-found e f = f ∙ ap (λ (t : Bool). cond t (found_b m used parent) false) (sym e) ∙ known

    pub led-lost : b ≡ false → false ≡ previous_ok m used x parent previous
    led-lost e = ap (λ (t : Bool). cond t (found_b m used parent) false) (sym e) ∙ known

-- For the code, which chooses the one that leads to x and tests it.
pub ruleset previous_tests = (nat_tests, lead-below, rootless-first, rootless-later, led-found, led-lost)
