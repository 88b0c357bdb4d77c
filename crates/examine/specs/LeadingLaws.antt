-- The first pass without a list: it says yes exactly when each slot passes, what leads to one that does is none or a slot in use, and up
-- to 65,535 slots one that does not is the one called bad. From their definitions alone.
use Rattle.std.specs.Prelude.{◌≡◌, ◌↔◌, Bool, not, List, eqb, ltb}
use Rattle.std.proofs.Math.Path.{refl, sym, ap}
use Rattle.std.proofs.Common.{◌∙◌, lt_irrefl}
use Rattle.std.proofs.Math.Bool.{true, false, cond}
use Rattle.std.proofs.lemmas.Bool.{false≢true}
use Prim.Native.Nat.{ℕ, zero, suc, ◌+◌, ◌<◌, ◌≤◌}
use Rattle.std.proofs.Math.Decide.{ℕ_discrete}
use native.Mathlib.Omega.{arith}
use Rattle.std.proofs.Math.Dec.{leb}
use borrow.Author.Tests.{leb-true, le-leb, ne_eqb}
use Rattle.link.specs.Ids.{id_of, stamp_of}
use Rattle.link.specs.Words.{STAMP, PARENT, PREVIOUS, word}
use Rattle.examine.specs.Slots.{bad, prior_slot, kin_ok, kin_of, look}
use Rattle.examine.specs.SlotLaws.{kin-most}
use Rattle.examine.specs.Examination.{passes, all_pass, leading}

module _ (m : List ℕ) (used : ℕ) where
  pub all_pass_lem : (n s : ℕ) → (all_pass n m used s ≡ true) ↔ ((y : ℕ) → s ≤ y → y < s + n → passes m used y ≡ true)
  unfolding all_pass
  all_pass_lem zero s = (λ _ y a b. absurd (lt_irrefl y (omega arith)), λ _. refl)
  all_pass_lem (suc n) s = by (passes m used s) refl (all_pass_lem n (s + 1))
    where
      by : (t : Bool) → passes m used s ≡ t → (all_pass n m used (s + 1) ≡ true) ↔ ((y : ℕ) → s + 1 ≤ y → y < s + 1 + n → passes m used y ≡ true)
          → (cond t (all_pass n m used (s + 1)) false ≡ true) ↔ ((y : ℕ) → s ≤ y → y < s + suc n → passes m used y ≡ true)
      by true e ih = (λ q y a b. one q y a b (ℕ_discrete y s), λ h. ih.1 (λ y a b. h y (omega arith) (omega arith)))
        where
          one : all_pass n m used (s + 1) ≡ true → (y : ℕ) → s ≤ y → y < s + suc n → Dec (y ≡ s) → passes m used y ≡ true
          one q y a b (yes r) = ap (passes m used) r ∙ e
          one q y a b (no r) = ih.0 q y (omega arith) (omega arith)
      by false e ih = (λ q. absurd (false≢true q), λ h. sym e ∙ h s (omega arith) (omega arith))

  -- What is looked up at a slot: of one that passes a slot in use or none, else bad.
  pub look_cases : (s : ℕ) → cond (passes m used s) (look m used s ≤ used) (look m used s ≡ bad)
  unfolding look kin_of passes
  look_cases s = by (ltb 32767 (stamp_of (word m s STAMP))) (ltb 65535 (word m s STAMP)) (kin_ok m used s (id_of s (word m s STAMP))) refl
    where
      prior : ℕ
      prior = prior_slot (word m s PARENT) (word m s PREVIOUS)

      by : (a b c : Bool) → kin_ok m used s (id_of s (word m s STAMP)) ≡ c
          → cond (cond a true (cond b false c)) (cond a 0 (cond b bad (cond c prior bad)) ≤ used) (cond a 0 (cond b bad (cond c prior bad)) ≡ bad)
      by true b c e = omega arith
      by false true c e = refl
      by false false true e = kin-most m used s (id_of s (word m s STAMP)) e
      by false false false e = refl

  pub look-most : (s : ℕ) → passes m used s ≡ true → look m used s ≤ used
  look-most s e = rw e at (look_cases s)

  pub look-bad : used ≤ 65535 → (s : ℕ) → eqb (look m used s) bad ≡ not (passes m used s)
  look-bad u s = by (passes m used s) (look_cases s)
    where
      by : (t : Bool) → cond t (look m used s ≤ used) (look m used s ≡ bad) → eqb (look m used s) bad ≡ not t
      by true l = ne_eqb (look m used s) bad (λ (e : look m used s ≡ bad). lt_irrefl 0 (omega arith))
      by false e = rw e

  pub leading-most : (s : ℕ) → leading m used s ≤ used
  unfolding leading
  leading-most s = by (leb (look m used s) used) refl
    where
      by : (t : Bool) → leb (look m used s) used ≡ t → cond t (look m used s) 0 ≤ used
      by true e = leb-true (look m used s) used e
      by false e = omega arith

  pub leading-look : (s : ℕ) → look m used s ≤ used → leading m used s ≡ look m used s
  unfolding leading
  leading-look s h = simp (le-leb (look m used s) used h)
