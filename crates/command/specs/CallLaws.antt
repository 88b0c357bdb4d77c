-- The ranges of like codes, and codes that the table does not have. By computing the table.
use Rattle.std.specs.Prelude.{◌≡◌, refl, ◌⊎◌, false, ◌∷◌, ℕ, zero, suc, ◌+◌, ◌-◌, ◌≤◌, ◌<◌}
use Rattle.std.proofs.Common.{ap, ◌∙◌, inl, inr, arith, eq-eqb, ne_eqb, lt-ltb}
use Rattle.std.proofs.Math.ListN.{get_or-eq_default}
use Rattle.link.specs.Words.{NUMBER}
use Rattle.moves.specs.declared.place.Place.TheVariants.{Before}
use Rattle.command.specs.Codes.{acceptable}
use Rattle.command.specs.Calls.{place_table, place_of, word_table, word_of, call_table, call_of}
use Rattle.command.specs.declared.call.Call.{Call}
use Rattle.command.specs.declared.call.Call.TheVariants.{Make, Read, Validate}
use Rattle.command.specs.declared.call.Change.TheVariants.{Move, Value}

pub place-past : (n : ℕ) → 3 ≤ n → place_of n ≡ Before
place-past n h = get_or-eq_default place_table Before h

pub word-past : (n : ℕ) → 5 ≤ n → word_of n ≡ NUMBER
word-past n h = get_or-eq_default word_table NUMBER h

pub call-past : (code : ℕ) → 25 ≤ code → call_of code ≡ Validate
call-past code h = get_or-eq_default (Validate ∷ call_table) Validate h

-- a code that is none of the table's is refused
pub unknown : (code unused a b : ℕ) → (code < 1) ⊎ (24 < code) → acceptable code unused a b ≡ false
unfolding acceptable
unknown code unused a b (inl h) = let e : code ≡ 0 = omega arith in simp (eq-eqb code 0 e)
unknown code unused a b (inr h) = simp (ne_eqb code 0 (λ (e : code ≡ 0). omega arith), lt-ltb 24 code h)

-- a number past n, one that is not n
pub skip : (x n : ℕ) → n ≤ x → (x ≡ n → ⊥) → n + 1 ≤ x
skip x n h e = omega arith

-- from the offset to the code
whole : (f : ℕ → Call) (low code : ℕ) → low ≤ code → f (code - low + low) ≡ f code
whole f low code h = let e : code - low + low ≡ code = omega arith in ap f e

pub move-call : (code : ℕ) → 4 ≤ code → code < 8 → Make (Move (place_of (code - 4))) ≡ call_of code
move-call code a b = by (code - 4) (omega arith) ∙ whole call_of 4 code a
  where
    by : (n : ℕ) → n < 4 → Make (Move (place_of n)) ≡ call_of (n + 4)
    by zero h = refl
    by (suc zero) h = refl
    by (suc (suc zero)) h = refl
    by (suc (suc (suc zero))) h = refl
    by (suc (suc (suc (suc n)))) h = absurd (omega arith)

pub link-call : (code : ℕ) → 13 ≤ code → code < 18 → Read (word_of (code - 13)) ≡ call_of code
link-call code a b = by (code - 13) (omega arith) ∙ whole call_of 13 code a
  where
    by : (n : ℕ) → n < 5 → Read (word_of n) ≡ call_of (n + 13)
    by zero h = refl
    by (suc zero) h = refl
    by (suc (suc zero)) h = refl
    by (suc (suc (suc zero))) h = refl
    by (suc (suc (suc (suc zero)))) h = refl
    by (suc (suc (suc (suc (suc n))))) h = absurd (omega arith)

pub value-call : (code : ℕ) → 21 ≤ code → code < 25 → Make (Value (place_of (code - 21))) ≡ call_of code
value-call code a b = by (code - 21) (omega arith) ∙ whole call_of 21 code a
  where
    by : (n : ℕ) → n < 4 → Make (Value (place_of n)) ≡ call_of (n + 21)
    by zero h = refl
    by (suc zero) h = refl
    by (suc (suc zero)) h = refl
    by (suc (suc (suc zero))) h = refl
    by (suc (suc (suc (suc n)))) h = absurd (omega arith)
