-- Digits stored from the last one back, how many there are, and lines one after another.
-- From the definitions alone.
use Rattle.std.specs.Prelude.{◌≡◌, Bool, true, false, cond, List, [], ◌∷◌, ◌++◌, ltb, get_or, set}
use Rattle.std.proofs.Math.Path.{refl, sym, ap}
use Rattle.std.proofs.Common.{◌∙◌, sub-one}
use Prim.Native.Nat.{ℕ, zero, suc, ◌+◌, ◌-◌, ◌*◌, ◌/◌, ◌%◌, ◌^◌, ◌<◌, ◌≤◌, max}
use native.Mathlib.Omega.{arith}
use Rattle.std.proofs.lemmas.Bool.Decides.{nat_tests}
use Rattle.std.proofs.Math.ListN.{get_or-append, length, length-append}
use Rattle.std.proofs.Math.Seq.{sets, length-sets}
use Rattle.std.proofs.lemmas.List.{set_comm}
use Rattle.little_endian.specs.RunLaws.{sets-append}
use Rattle.lines.specs.Decimal.{digits_of, places_of, text_of}
use Rattle.lines.specs.Lines.{line_of, lines_of}

pub digits-length : (k n : ℕ) → length (digits_of k n) ≡ k
unfolding digits_of
digits-length zero n = refl
digits-length (suc k) n = length-append (digits_of k (n / 10)) ((48 + n % 10) ∷ []) ∙ let e = digits-length k (n / 10) in omega arith

-- the last of some bytes can be stored first
sets_last : (xs l : List ℕ) (at y : ℕ) → sets l at (xs ++ (y ∷ [])) ≡ sets (set l (at + length xs) y) at xs
sets_last [] l at y = let e : at + 0 ≡ at = omega arith in ap (λ (k : ℕ). set l k y) (sym e)
sets_last (x ∷ xs) l at y =
    let e : suc at + length xs ≡ at + suc (length xs) = omega arith in
    sets_last xs (set l at x) (suc at) y
    ∙ ap (λ (z : List ℕ). sets z (suc at) xs) (ap (λ (k : ℕ). set (set l at x) k y) e ∙ set_comm l at (at + suc (length xs)) x y (λ q. omega arith))

pub digits_last : (l : List ℕ) (at k n : ℕ) → 0 < k
    → sets l at (digits_of k n) ≡ sets (set l (at + (k - 1)) (48 + n % 10)) at (digits_of (k - 1) (n / 10))
unfolding digits_of
digits_last l at zero n p = absurd (omega arith)
digits_last l at (suc k) n p =
    simp (sub-one) (sets_last (digits_of k (n / 10)) l at (48 + n % 10) ∙ ap (λ (j : ℕ). sets (set l (at + j) (48 + n % 10)) at (digits_of k (n / 10))) (digits-length k (n / 10)))

pub digits_none : (l : List ℕ) (at k n : ℕ) → k ≤ 0 → sets l at (digits_of k n) ≡ l
unfolding digits_of
digits_none l at zero n p = refl
digits_none l at (suc k) n p = absurd (omega arith)

last_of : (x y : ℕ) → y < 10 → (10 * x + y) % 10 ≡ y
last_of x y h = omega arith

rest_of : (x y : ℕ) → y < 10 → (10 * x + y) / 10 ≡ x
rest_of x y h = omega arith

-- two at a time, from the last one back
pub digits_pair : (l : List ℕ) (at k n : ℕ) → 1 < k
    → sets l at (digits_of k n)
    ≡ sets (set (set l (at + (k - 2) + 1) (48 + n % 100 % 10)) (at + (k - 2)) (48 + n % 100 / 10)) at (digits_of (k - 2) (n / 100))
digits_pair l at k n p =
    let tens : n / 10 ≡ 10 * (n / 100) + n % 100 / 10 = omega arith in
    let small : n % 100 / 10 < 10 = omega arith in
    let one : n % 10 ≡ n % 100 % 10 = omega arith in
    let ten : n / 10 % 10 ≡ n % 100 / 10 = ap (λ (x : ℕ). x % 10) tens ∙ last_of (n / 100) (n % 100 / 10) small in
    let high : n / 10 / 10 ≡ n / 100 = ap (λ (x : ℕ). x / 10) tens ∙ rest_of (n / 100) (n % 100 / 10) small in
    let left : k - 1 - 1 ≡ k - 2 = omega arith in
    let place : at + (k - 1) ≡ at + (k - 2) + 1 = omega arith in
    digits_last l at k n (omega arith) ∙ digits_last (set l (at + (k - 1)) (48 + n % 10)) at (k - 1) (n / 10) (omega arith)
    ∙ rw (one, ten, high, left, place) refl

pub digits_one : (l : List ℕ) (at k n : ℕ) → k ≡ 1 → sets l at (digits_of k n) ≡ set l at (48 + n % 10)
digits_one l at k n e =
    let p : at + (k - 1) ≡ at = omega arith in
    digits_last l at k n (omega arith) ∙ digits_none (set l (at + (k - 1)) (48 + n % 10)) at (k - 1) (n / 10) (omega arith)
    ∙ ap (λ (j : ℕ). set l j (48 + n % 10)) p

-- from the power of ten below a number
pub places-log : (n k : ℕ) → 10 ^ k ≤ max n 1 → max n 1 < 10 * 10 ^ k → k < 10 → k + 1 ≡ places_of n
unfolding places_of
places-log n zero low high few = grind (arith, nat_tests)
places-log n (suc zero) low high few = grind (arith, nat_tests)
places-log n (suc (suc zero)) low high few = grind (arith, nat_tests)
places-log n (suc (suc (suc zero))) low high few = grind (arith, nat_tests)
places-log n (suc (suc (suc (suc zero)))) low high few = grind (arith, nat_tests)
places-log n (suc (suc (suc (suc (suc zero))))) low high few = grind (arith, nat_tests)
places-log n (suc (suc (suc (suc (suc (suc zero)))))) low high few = grind (arith, nat_tests)
places-log n (suc (suc (suc (suc (suc (suc (suc zero))))))) low high few = grind (arith, nat_tests)
places-log n (suc (suc (suc (suc (suc (suc (suc (suc zero)))))))) low high few = grind (arith, nat_tests)
places-log n (suc (suc (suc (suc (suc (suc (suc (suc (suc zero))))))))) low high few = grind (arith, nat_tests)
places-log n (suc (suc (suc (suc (suc (suc (suc (suc (suc (suc k)))))))))) low high few = absurd (omega arith)

pub places-bound : (n : ℕ) → places_of n ≤ 10
unfolding places_of
places-bound n =
    at (ltb n 10) 1 _ (omega arith) (at (ltb n 100) 2 _ (omega arith) (at (ltb n 1000) 3 _ (omega arith) (at (ltb n 10000) 4 _ (omega arith)
    (at (ltb n 100000) 5 _ (omega arith) (at (ltb n 1000000) 6 _ (omega arith) (at (ltb n 10000000) 7 _ (omega arith)
    (at (ltb n 100000000) 8 _ (omega arith) (at (ltb n 1000000000) 9 10 (omega arith) (omega arith)))))))))
  where
    at : (b : Bool) (x y : ℕ) → x ≤ 10 → y ≤ 10 → cond b x y ≤ 10
    at true x y p q = p
    at false x y p q = q

one_place : (n : ℕ) → n < 10 → 1 ≡ places_of n
unfolding places_of
one_place n h = grind (arith, nat_tests)

pub text-length : (n : ℕ) → length (text_of n) ≡ places_of n
unfolding text_of
text-length n = digits-length (places_of n) n

-- a number put, read off the pair
module _ (l : List ℕ) (at n : ℕ) where
  pub number_put : {out : List ℕ} {k : ℕ} → k ≡ places_of n → out ≡ sets l at (digits_of k n)
      → ◌≡◌ {A = List ℕ × ℕ} (out, at + k) (sets l at (text_of n), at + length (text_of n))
  unfolding text_of
  number_put {out} {k} e f =
      let o : out ≡ sets l at (digits_of (places_of n) n) = f ∙ ap (λ (j : ℕ). sets l at (digits_of j n)) e in
      let p : at + k ≡ at + length (digits_of (places_of n) n) = ap (λ (j : ℕ). at + j) (e ∙ sym (digits-length (places_of n) n)) in
      rw (o, p) refl

  -- of one digit
  pub digit_put : n < 10 → ◌≡◌ {A = List ℕ × ℕ} (set l at (48 + n), at + 1) (sets l at (text_of n), at + length (text_of n))
  digit_put h =
      let e : n % 10 ≡ n = omega arith in
      number_put (one_place n h) (sym (digits_one l at 1 n refl ∙ ap (λ (x : ℕ). set l at (48 + x)) e))

  pub number-end : {out : List ℕ} {r : ℕ} → ◌≡◌ {A = List ℕ × ℕ} (out, r) (sets l at (text_of n), at + length (text_of n)) → r ≤ at + 10
  number-end e =
      let p = ap (λ (p : List ℕ × ℕ). p.1) e in
      let q = text-length n in
      let b = places-bound n in
      omega arith

  pub number-places : {out : List ℕ} {r : ℕ} → ◌≡◌ {A = List ℕ × ℕ} (out, r) (sets l at (text_of n), at + length (text_of n)) → length out ≡ length l
  number-places e = ap (λ (p : List ℕ × ℕ). length p.0) e ∙ length-sets l at (text_of n)

pub line-bound : (number result : ℕ) → length (line_of number result) ≤ 22
unfolding line_of
line-bound number result =
    let a = length-append (text_of number) (32 ∷ (text_of result ++ (10 ∷ []))) in
    let b = length-append (text_of result) (10 ∷ []) in
    let p = places-bound number in
    let q = places-bound result in
    let u = text-length number in
    let v = text-length result in
    omega arith

-- a number, a space, a number and a newline, one after another
module _ (l : List ℕ) (at number result : ℕ) where
  abbrev space : ℕ
  space = at + length (text_of number)

  abbrev end : ℕ
  end = space + 1 + length (text_of result)

  abbrev line : List ℕ
  line = set (sets (set (sets l at (text_of number)) space 32) (space + 1) (text_of result)) end 10

  pub line-put : line ≡ sets l at (line_of number result)
  unfolding line_of
  line-put =
      let e : suc (at + length (text_of number)) ≡ space + 1 = omega arith in
      sym (sets-append l at (text_of number) (32 ∷ (text_of result ++ (10 ∷ [])))
      ∙ ap (λ (k : ℕ). sets (set (sets l at (text_of number)) space 32) k (text_of result ++ (10 ∷ []))) e
      ∙ sets-append (set (sets l at (text_of number)) space 32) (space + 1) (text_of result) (10 ∷ []))

  pub line_end : end + 1 ≡ at + length (line_of number result)
  unfolding line_of
  line_end =
      let a = length-append (text_of number) (32 ∷ (text_of result ++ (10 ∷ []))) in
      let b = length-append (text_of result) (10 ∷ []) in
      omega arith

-- the line put together from what the two numbers left
pub line-done : (l : List ℕ) (at number result : ℕ) {o₁ o₂ : List ℕ} {r₁ r₂ : ℕ}
    → ◌≡◌ {A = List ℕ × ℕ} (o₁, r₁) (sets l at (text_of number), at + length (text_of number))
    → ◌≡◌ {A = List ℕ × ℕ} (o₂, r₂) (sets (set o₁ r₁ 32) (r₁ + 1) (text_of result), r₁ + 1 + length (text_of result))
    → ◌≡◌ {A = List ℕ × ℕ} (set o₂ r₂ 10, r₂ + 1) (sets l at (line_of number result), at + length (line_of number result))
line-done l at number result {o₁} {o₂} {r₁} {r₂} e f =
    let a = ap (λ (p : List ℕ × ℕ). p.0) e in
    let b = ap (λ (p : List ℕ × ℕ). p.1) e in
    let c = ap (λ (p : List ℕ × ℕ). p.0) f in
    let d = ap (λ (p : List ℕ × ℕ). p.1) f in
    let o : set o₂ r₂ 10 ≡ sets l at (line_of number result) = rw (c, d, a, b) (line-put l at number result) in
    let r : r₂ + 1 ≡ at + length (line_of number result) = rw (d, b) (line_end l at number result) in
    rw (o, r) refl

-- Where the loop over the answers stands: i lines are written, `at` bytes, and what is left makes the whole.
pub record Lining (n : ℕ) (list out₀ out : List ℕ) (i at : ℕ) : Type 0 where
  pub upto : i ≤ n
  pub room : at ≤ 22 * i
  pub places : length out ≡ length out₀
  pub rest : sets out at (lines_of (n - i) list i) ≡ sets out₀ 0 (lines_of n list 0)
  pub end : at + length (lines_of (n - i) list i) ≡ length (lines_of n list 0)

pub lining-begin : (n : ℕ) (list out : List ℕ) → Lining n list out out 0 0
lining-begin n list out =
    let e : n - 0 ≡ n = omega arith in
    let l = ap (λ (k : ℕ). length (lines_of k list 0)) e in
    record { upto = omega arith; room = omega arith; places = refl; rest = ap (λ (k : ℕ). sets out 0 (lines_of k list 0)) e; end = omega arith }

lines_step : (n : ℕ) (list : List ℕ) (i : ℕ) → 0 < n
    → lines_of n list i ≡ line_of (get_or list (2 * i) 0) (get_or list (2 * i + 1) 0) ++ lines_of (n - 1) list (i + 1)
unfolding lines_of
lines_step zero list i p = absurd (omega arith)
lines_step (suc n) list i p = simp (sub-one)

lines_none : (n : ℕ) (list : List ℕ) (i : ℕ) → n ≡ 0 → lines_of n list i ≡ []
unfolding lines_of
lines_none zero list i e = refl
lines_none (suc n) list i e = absurd (omega arith)

module _ (n : ℕ) (list out₀ out : List ℕ) (i at : ℕ) (L : Lining n list out₀ out i at) where
  pub lining-more : {out' : List ℕ} {at' : ℕ} → i < n
      → ◌≡◌ {A = List ℕ × ℕ} (out', at') (sets out at (line_of (get_or list (2 * i) 0) (get_or list (2 * i + 1) 0)), at + length (line_of (get_or list (2 * i) 0) (get_or list (2 * i + 1) 0)))
      → Lining n list out₀ out' (i + 1) at'
  lining-more {out'} {at'} l e =
      let x : List ℕ = line_of (get_or list (2 * i) 0) (get_or list (2 * i + 1) 0) in
      let o : out' ≡ sets out at x = ap (λ (p : List ℕ × ℕ). p.0) e in
      let a : at' ≡ at + length x = ap (λ (p : List ℕ × ℕ). p.1) e in
      let left : n - i - 1 ≡ n - (i + 1) = omega arith in
      let s : lines_of (n - i) list i ≡ x ++ lines_of (n - (i + 1)) list (i + 1)
      = lines_step (n - i) list i (omega arith) ∙ ap (λ (k : ℕ). x ++ lines_of k list (i + 1)) left in
      let b = line-bound (get_or list (2 * i) 0) (get_or list (2 * i + 1) 0) in
      let r = L.room in
      record {
        upto = omega arith;
        room = omega arith;
        places = ap length o ∙ length-sets out at x ∙ L.places;
        rest = rw (o, a) (sym (sets-append out at x (lines_of (n - (i + 1)) list (i + 1))) ∙ ap (sets out at) (sym s)) ∙ L.rest;
        end = (let q = length-append x (lines_of (n - (i + 1)) list (i + 1)) in let t = ap length s in let f = L.end in omega arith);
      }

  pub lining-end : n ≤ i → ◌≡◌ {A = List ℕ × ℕ} (out, at) (sets out₀ 0 (lines_of n list 0), length (lines_of n list 0))
  lining-end l =
      let e : n - i ≡ 0 = omega arith in
      let s = lines_none (n - i) list i e in
      let o : out ≡ sets out₀ 0 (lines_of n list 0) = sym (ap (sets out at) s) ∙ L.rest in
      let a : at ≡ length (lines_of n list 0) = (let t = ap length s in let f = L.end in omega arith) in
      rw (o, a) refl

-- How long the lines are, and that they depend on the answers alone.
pub lines-bound : (n : ℕ) (list : List ℕ) (i : ℕ) → length (lines_of n list i) ≤ 22 * n
unfolding lines_of
lines-bound zero list i = omega arith
lines-bound (suc n) list i =
    let x : List ℕ = line_of (get_or list (2 * i) 0) (get_or list (2 * i + 1) 0) in
    let a = length-append x (lines_of n list (i + 1)) in
    let b = line-bound (get_or list (2 * i) 0) (get_or list (2 * i + 1) 0) in
    let c = lines-bound n list (i + 1) in
    omega arith

pub lines-prefix : (n : ℕ) (xs ys : List ℕ) (i : ℕ) → 2 * (i + n) ≤ length xs → lines_of n (xs ++ ys) i ≡ lines_of n xs i
unfolding lines_of
lines-prefix zero xs ys i h = refl
lines-prefix (suc n) xs ys i h =
    let a = get_or-append xs ys 0 (2 * i) (omega arith) in
    let b = get_or-append xs ys 0 (2 * i + 1) (omega arith) in
    ap (λ (x : ℕ). line_of x (get_or (xs ++ ys) (2 * i + 1) 0) ++ lines_of n (xs ++ ys) (i + 1)) a
    ∙ ap (λ (y : ℕ). line_of (get_or xs (2 * i) 0) y ++ lines_of n (xs ++ ys) (i + 1)) b
    ∙ ap (λ (z : List ℕ). line_of (get_or xs (2 * i) 0) (get_or xs (2 * i + 1) 0) ++ z) (lines-prefix n xs ys (i + 1) (omega arith))
