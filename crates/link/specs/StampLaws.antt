-- Stamps step by one at each hand-out; a stamp and its 16 bits determine each other (P5 follows).
use Rattle.std.specs.Prelude.{◌≡◌, refl, Bool, true, false, cond, ◌⊎◌, ◌-◌, ℕ, zero, suc, ◌<◌, eqb, ltb, leb, ℤ, pos, negsuc}
use Rattle.std.proofs.Common.{sym, ap, ◌∙◌, inl, inr, arith, le-leb, leb-true, leb-false, le-ltb, lt-ltb, eq-eqb, ne_eqb, eqb-true}
use Rattle.std.proofs.Math.IntN as ints
use Rattle.std.proofs.lemmas.Bool.{lt-leb, eqb-false}
use Rattle.link.specs.Stamps.{Live, Removed, Reusable, removed_stamp, reused_stamp, is_removed, is_spent, bits_of, stamp_of_bits, removed_bits, reused_bits}

-- Removing n gives −n − 1, which is how the integers of the library are made.
pub removed-negsuc : (n : ℕ) → removed_stamp (pos n) ≡ negsuc n
removed-negsuc zero = refl
removed-negsuc (suc n) = ints.-ℤ_one (negsuc n)

-- Removed, then reused: one more.
pub removed-reused : (n : ℕ) → reused_stamp (removed_stamp (pos n)) ≡ pos (suc n)
removed-reused n = ap reused_stamp (removed-negsuc n)

-- The steps on the bits.
pub removed_bits_lem : (z : ℤ) → Live z → bits_of (removed_stamp z) ≡ removed_bits (bits_of z)
removed_bits_lem (pos n) h = ap bits_of (removed-negsuc n)
removed_bits_lem (negsuc _) h = elim h [ ]

pub reused_bits_lem : (z : ℤ) → Reusable z → bits_of (reused_stamp z) ≡ reused_bits (bits_of z)
reused_bits_lem (negsuc n) h = omega arith
reused_bits_lem (pos _) h = elim h [ ]

-- The bits and the number determine each other.
pub stamp-bits : (b : ℕ) → b < 65536 → bits_of (stamp_of_bits b) ≡ b
stamp-bits b h = by (leb b 32767)
  where
    by : (t : Bool) → bits_of (cond t (pos b) (negsuc (65535 - b))) ≡ b
    by true = refl
    by false = omega arith

pub bits-stamp : (z : ℤ) → Live z ⊎ Removed z → stamp_of_bits (bits_of z) ≡ z
bits-stamp (pos n) (inl h) = ap (λ (t : Bool). cond t (pos n) (negsuc (65535 - n))) (le-leb n 32767 h)
bits-stamp (negsuc n) (inr h) =
    ap (λ (t : Bool). cond t (pos (65535 - n)) (negsuc (65535 - (65535 - n)))) (lt-leb (65535 - n) 32767 (omega arith))
    ∙ ap negsuc (omega arith)
bits-stamp (negsuc n) (inl h) = elim h [ ]
bits-stamp (pos n) (inr h) = elim h [ ]

-- Two tests of equality that agree.
pub eqb_same : (a b c d : ℕ) → (a ≡ b → c ≡ d) → (c ≡ d → a ≡ b) → eqb a b ≡ eqb c d
eqb_same a b c d f g = by (eqb a b) refl
  where
    by : (t : Bool) → eqb a b ≡ t → t ≡ eqb c d
    by true e = sym (eq-eqb c d (f (eqb-true a b e)))
    by false e = sym (ne_eqb c d (λ x. eqb-false a b e (g x)))

-- Read off the bits: negative from 32,768 on, spent at 32,768.
pub removed-of_bits : (b : ℕ) → is_removed (stamp_of_bits b) ≡ ltb 32767 b
removed-of_bits b = by (leb b 32767) refl
  where
    by : (t : Bool) → leb b 32767 ≡ t → is_removed (cond t (pos b) (negsuc (65535 - b))) ≡ ltb 32767 b
    by true e = sym (le-ltb 32767 b (leb-true b 32767 e))
    by false e = sym (lt-ltb 32767 b (leb-false b 32767 e))

pub spent-of_bits : (b : ℕ) → b < 65536 → is_spent (stamp_of_bits b) ≡ eqb b 32768
spent-of_bits b h = by (leb b 32767) refl
  where
    by : (t : Bool) → leb b 32767 ≡ t → is_spent (cond t (pos b) (negsuc (65535 - b))) ≡ eqb b 32768
    by true e = let l = leb-true b 32767 e in sym (ne_eqb b 32768 (λ (q : b ≡ 32768). omega arith))
    by false e = eqb_same (65535 - b) 32767 b 32768 (λ (q : 65535 - b ≡ 32767). omega arith) (λ (q : b ≡ 32768). omega arith)

pub P5 : (removed_stamp (pos 0) ≡ negsuc 0) × (reused_stamp (negsuc 0) ≡ pos 1) × (removed_stamp (pos 32767) ≡ negsuc 32767)
P5 = (refl, refl, refl)
