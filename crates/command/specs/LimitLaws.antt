-- No code uses more than two arguments, and one within its limit is used or zero: so two comparisons by a table test both.
-- From the tables alone.
use Rattle.std.specs.Prelude.{◌≡◌, refl, Bool, true, false, List, [], ◌∷◌, ℕ, zero, suc, ◌+◌, ◌*◌, ◌-◌, ◌<◌, ◌≤◌, eqb, leb, ltb, get_or}
use Rattle.std.proofs.Common.{sym, ap, ◌∙◌, arith}
use Rattle.std.proofs.Math.Bool.{cond}
use borrow.Author.Tests.{eq-eqb, ne_eqb, le-ltb, le-leb, lt-leb}
use Rattle.command.specs.Codes.{argument_table, limit_table, arguments_of, spared, acceptable}

abbrev Few : List ℕ → Type 0
Few [] = Unit {0}
Few (n ∷ ns) = (n ≤ 2) × Few ns

few_at : (ns : List ℕ) → Few ns → (i : ℕ) → get_or ns i 0 ≤ 2
few_at [] f i = omega arith
few_at (n ∷ ns) f zero = f.0
few_at (n ∷ ns) f (suc i) = few_at ns f.1 i

pub arguments-few : (code : ℕ) → arguments_of code ≤ 2
arguments-few code = few_at argument_table (search arith) (code - 1)

-- at most zero is zero
most_none : (x : ℕ) → leb x 0 ≡ eqb x 0
most_none zero = refl
most_none (suc x) = lt-leb (suc x) 0 (omega arith) ∙ sym (ne_eqb (suc x) 0 (λ (e : suc x ≡ 0). omega arith))

-- Where n arguments are used, each within its limit is spared.
pub first_limit : (n x : ℕ) → n ≤ 2 → x ≤ 4294967295 → leb x (get_or limit_table (2 * n) 0) ≡ spared (ltb 0 n) x
first_limit zero x f h = most_none x
first_limit (suc zero) x f h = le-leb _ _ h
first_limit (suc (suc zero)) x f h = le-leb _ _ h
first_limit (suc (suc (suc n))) x f h = absurd (omega arith)

pub second_limit : (n x : ℕ) → n ≤ 2 → x ≤ 4294967295 → leb x (get_or limit_table (2 * n + 1) 0) ≡ spared (ltb 1 n) x
second_limit zero x f h = most_none x
second_limit (suc zero) x f h = most_none x
second_limit (suc (suc zero)) x f h = le-leb _ _ h
second_limit (suc (suc (suc n))) x f h = absurd (omega arith)

-- A known code with its unused bytes zero, by the tables lent.
module _ (code unused a b : ℕ) (known : 0 < code) (upto : code ≤ 24) (zeros : unused ≡ 0) {limits : List ℕ} {n : ℕ} (table : limits ≡ limit_table)
    (count : n ≡ arguments_of code) where
  accepted : acceptable code unused a b ≡ cond (spared (ltb 1 n) b) (spared (ltb 0 n) a) false
  unfolding acceptable
  accepted =
      simp (ne_eqb code 0 (λ (e : code ≡ 0). omega arith), le-ltb 24 code upto, eq-eqb unused 0 zeros)
      (ap (λ (k : ℕ). cond (spared (ltb 1 k) b) (spared (ltb 0 k) a) false) (sym count))

  few : n ≤ 2
  few = let f = arguments-few code in omega arith

  first-spared : a ≤ 4294967295 → leb a (get_or limits (2 * n) 0) ≡ spared (ltb 0 n) a
  first-spared h = ap (λ (t : List ℕ). leb a (get_or t (2 * n) 0)) table ∙ first_limit n a few h

  pub over_first : a ≤ 4294967295 → get_or limits (2 * n) 0 < a → acceptable code unused a b ≡ false
  over_first h o = accepted ∙ by (spared (ltb 1 n) b) (sym (first-spared h) ∙ lt-leb _ _ o)
    where
      by : (s : Bool) → spared (ltb 0 n) a ≡ false → cond s (spared (ltb 0 n) a) false ≡ false
      by true e = e
      by false e = refl

  pub within_first : a ≤ 4294967295 → b ≤ 4294967295 → a ≤ get_or limits (2 * n) 0 → leb b (get_or limits (2 * n + 1) 0) ≡ acceptable code unused a b
  within_first h k w =
      ap (λ (t : List ℕ). leb b (get_or t (2 * n + 1) 0)) table ∙ second_limit n b few k
      ∙ sym (accepted ∙ by (spared (ltb 1 n) b) (sym (first-spared h) ∙ le-leb _ _ w))
    where
      by : (s : Bool) → spared (ltb 0 n) a ≡ true → cond s (spared (ltb 0 n) a) false ≡ s
      by true e = e
      by false e = refl
