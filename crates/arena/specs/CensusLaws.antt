-- Counting slots: one slot at a time from the last, and never more than there are.
use Rattle.std.specs.Prelude.{◌≡◌, refl, Bool, true, false}
use mir.Val.{bool_byte}
use Prim.Native.Nat.{◌-◌, ℕ, zero, suc, ◌+◌, ◌<◌, ◌≤◌}
use native.Mathlib.Omega.{arith}
use Rattle.std.proofs.Math.Numerals.{sub-one}
use Rattle.std.proofs.Math.Path.{ap}
use Rattle.std.proofs.Common.{◌∙◌}
use Rattle.arena.specs.Census.{one_if, slots_that}

pub one-most : (b : Bool) → one_if b ≤ 1
one-most true = omega arith
one-most false = omega arith

pub one-byte : (b : Bool) → bool_byte b ≡ one_if b
one-byte true = refl
one-byte false = refl

module _ (is : ℕ → Bool) where
  pub count_none : (n : ℕ) → n ≤ 0 → slots_that is n ≡ 0
  unfolding slots_that
  count_none n h = let e : n ≡ 0 = omega arith in rw e

  pub count-step : (n : ℕ) → 0 < n → slots_that is n ≡ one_if (is n) + slots_that is (n - 1)
  unfolding slots_that
  count-step zero h = absurd (omega arith)
  count-step (suc n) h = simp sub-one

  pub count_most : (n : ℕ) → slots_that is n ≤ n
  unfolding slots_that
  count_most zero = omega arith
  count_most (suc n) = let a = one-most (is (suc n)) in let b = count_most n in omega arith

  -- Of the slots up to the n-th, that one and those before it.
  pub count-last : (n one : ℕ) (b : Bool) → 0 < n → b ≡ is (n - 1 + 1) → one ≡ bool_byte b → one + slots_that is (n - 1) ≡ slots_that is n
  count-last n one b h e f =
      let s = count-step n h in
      let byte = one-byte b in
      let slot : is (n - 1 + 1) ≡ is n = ap is (omega arith) in
      let same : one_if b ≡ one_if (is n) = ap one_if (e ∙ slot) in
      omega arith
