-- What the yes of a test says: of two tests one after the other, of a test by whether a link is none, and of the test that a node is
-- found and has two given words. From the tests of numbers, and the laws of found.
use Rattle.std.specs.Prelude.{◌≡◌, refl, ◌≢◌, ◌↔◌, Bool, true, false, cond, List, ℕ, eqb}
use Rattle.std.proofs.lemmas.Bool.{false≢true, eqb-false}
use Rattle.std.proofs.Common.{eqb-true, eq-eqb}
use Rattle.std.proofs.lemmas.Bool.Decides.{nat_tests}
use Rattle.link.specs.Ids.{slot_of}
use Rattle.link.specs.Words.{word}
use Rattle.link.specs.WordLaws.{link-some}
use Rattle.link.specs.Found.{Found, found_b}
use Rattle.link.specs.FoundLaws.{found_is, is_found}
use Rattle.examine.specs.Slots.{has_b}

pub both_true : (a b : Bool) → (cond a b false ≡ true) ↔ ((a ≡ true) × (b ≡ true))
both_true true b = (λ e. (refl, e), λ w. w.1)
both_true false b = (λ e. absurd (false≢true e), λ w. w.0)

pub none_true : (y : ℕ) (a b : Bool) → (cond (eqb y 0) a b ≡ true) ↔ ((y ≡ 0 → a ≡ true) × (y ≢ 0 → b ≡ true))
none_true y a b = by (eqb y 0) refl
  where
    by : (t : Bool) → eqb y 0 ≡ t → (cond t a b ≡ true) ↔ ((y ≡ 0 → a ≡ true) × (y ≢ 0 → b ≡ true))
    by true e = let z = eqb-true y 0 e in (λ q. (λ _. q, λ n. absurd (n z)), λ w. w.0 z)
    by false e = let n = eqb-false y 0 e in (λ q. (λ z. absurd (n z), λ _. q), λ w. w.1 n)

pub has-true : (m : List ℕ) (used y j a k b : ℕ)
    → (has_b m used y j a k b ≡ true) ↔ (Found m used y × (word m (slot_of y) j ≡ a) × (word m (slot_of y) k ≡ b))
unfolding has_b
has-true m used y j a k b = (
  λ e.
      let v = (both_true (found_b m used y) _).0 e in
      let w = (both_true (eqb (word m (slot_of y) j) a) _).0 v.1 in
      (found_is m used y v.0, eqb-true _ a w.0, eqb-true _ b w.1),
  λ w. (both_true (found_b m used y) _).1 (is_found m used y w.0, (both_true (eqb (word m (slot_of y) j) a) _).1 (eq-eqb _ a w.1, eq-eqb _ b w.2)),
)

-- For the tests of what is read through an identifier that is not none.
pub ruleset found_tests = (nat_tests, link-some)
