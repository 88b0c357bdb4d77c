-- A number and its k bytes determine each other, for every k; what is read and written at a place, one byte at a time.
use Rattle.std.specs.Prelude.{◌≡◌, refl, List, [], ◌∷◌, ◌++◌, ℕ, zero, suc, ◌+◌, ◌-◌, ◌*◌, ◌/◌, ◌%◌, ◌^◌, ◌<◌, ◌≤◌, length, get_or, set, take, drop}
use Rattle.std.specs.Int.{w16, w32, to_le_bytes}
use borrow.Rule.Slice.PartMut.{put_mid}
use Rattle.std.proofs.Common.{sym, ap, ap₂, ◌∙◌, append_assoc, arith, add-one, drop-cons, drop-drop}
use Rattle.std.proofs.Math.Nat.{pow-succ'}
use Rattle.std.proofs.Math.Seq.{length-sets}
use Rattle.std.proofs.lemmas.List.Edits.{sets-eq}
use Rattle.little_endian.specs.Bytes.{bytes_of, number_of, number_at, with_number}

-- each is a byte
abbrev pub Bytes : List ℕ → Type 0
Bytes [] = Unit {0}
Bytes (b ∷ bs) = (b < 256) × Bytes bs

pub length-bytes_of : (k x : ℕ) → length (bytes_of k x) ≡ k
unfolding bytes_of
length-bytes_of zero x = refl
length-bytes_of (suc k) x = ap suc (length-bytes_of k (x / 256))

pub bytes_of-bytes : (k x : ℕ) → Bytes (bytes_of k x)
unfolding bytes_of
bytes_of-bytes zero x = tt
bytes_of-bytes (suc k) x = (omega arith, bytes_of-bytes k (x / 256))

-- The bytes of a number give it back,
pub number-bytes : (k x : ℕ) → x < 256 ^ k → number_of (bytes_of k x) ≡ x
unfolding bytes_of number_of
number-bytes zero x h = let l : x < 1 = h in omega arith
number-bytes (suc k) x h =
    let p : 256 ^ suc k ≡ 256 * 256 ^ k = pow-succ' 256 k in
    let l : x / 256 < 256 ^ k = omega arith in
    let e = number-bytes k (x / 256) l in
    omega arith

-- and the number of bytes gives them back.
pub bytes-number : (bs : List ℕ) → Bytes bs → bytes_of (length bs) (number_of bs) ≡ bs
unfolding bytes_of number_of
bytes-number [] h = refl
bytes-number (b ∷ bs) h =
    let s = h.0 in
    let low : (b + 256 * number_of bs) % 256 ≡ b = omega arith in
    let high : (b + 256 * number_of bs) / 256 ≡ number_of bs = omega arith in
    ap₂ ◌∷◌ low (ap (bytes_of (length bs)) high ∙ bytes-number bs h.1)

pub number-most : (bs : List ℕ) → Bytes bs → number_of bs < 256 ^ length bs
unfolding number_of
number-most [] h = omega arith
number-most (b ∷ bs) h =
    let p : 256 ^ suc (length bs) ≡ 256 * 256 ^ length bs = pow-succ' 256 (length bs) in
    let s = h.0 in let l = number-most bs h.1 in
    omega arith

-- One byte more to read.
pub number_none : (bytes : List ℕ) (at : ℕ) → number_at 0 bytes at ≡ 0
unfolding number_at number_of
number_none bytes at = refl

pub number_step : (k : ℕ) (bytes : List ℕ) (at : ℕ) → at < length bytes → number_at (suc k) bytes at ≡ get_or bytes at 0 + 256 * number_at k bytes (at + 1)
unfolding number_at number_of
number_step k bytes at h = rw (add-one, drop-cons bytes at 0 h)

-- The lowest byte of a number, and the number of those behind it.
module _ (k : ℕ) (bytes : List ℕ) (at : ℕ) (inside : at < length bytes) (byte : get_or bytes at 0 < 256) where
  pub lowest : number_at (suc k) bytes at % 256 ≡ get_or bytes at 0
  lowest = let e = number_step k bytes at inside in omega arith

  pub behind-lowest : number_at (suc k) bytes at / 256 ≡ number_at k bytes (at + 1)
  behind-lowest = let e = number_step k bytes at inside in omega arith

pub length-with_number : (k : ℕ) (bytes : List ℕ) (at x : ℕ) → length (with_number k bytes at x) ≡ length bytes
unfolding with_number
length-with_number k bytes at x = length-sets bytes at (bytes_of k x)

-- The stores of two and of four bytes, as code makes them.
pub two-stores : (bytes : List ℕ) (at x : ℕ) → set (set bytes at (x % 256)) (at + 1) (x / 256 % 256) ≡ with_number 2 bytes at x
unfolding with_number bytes_of
two-stores bytes at x =
    let next : at + 1 ≡ suc at = omega arith in
    rw next

pub four-stores : (bytes : List ℕ) (at x : ℕ)
    → set (set (set (set bytes at (x % 256)) (at + 1) (x / 256 % 256)) (at + 2) (x / 65536 % 256)) (at + 3) (x / 16777216 % 256) ≡ with_number 4 bytes at x
unfolding with_number bytes_of
four-stores bytes at x =
    let third : x / 65536 ≡ x / 256 / 256 = omega arith in
    let fourth : x / 16777216 ≡ x / 256 / 256 / 256 = omega arith in
    let one : at + 1 ≡ suc at = omega arith in
    let two : at + 2 ≡ suc (suc at) = omega arith in
    let three : at + 3 ≡ suc (suc (suc at)) = omega arith in
    rw (third, fourth, one, two, three)

-- A part of the bytes replaced by the k bytes of a number,
pub part-written : (k : ℕ) (bytes : List ℕ) (at x : ℕ) (part : List ℕ) → at + k ≤ length bytes → part ≡ bytes_of k x
    → put_mid at (at + k - at) bytes part ≡ with_number k bytes at x
unfolding with_number
part-written k bytes at x part h e =
    let size : length (bytes_of k x) ≡ k = length-bytes_of k x in
    let width : at + k - at ≡ k = omega arith in
    let behind : drop k (drop at bytes) ≡ drop (at + length (bytes_of k x)) bytes = drop-drop k at bytes ∙ ap (λ (i : ℕ). drop i bytes) (omega arith) in
    rw (width, e) (ap (λ (t : List ℕ). take at bytes ++ (bytes_of k x ++ t)) behind ∙ sym (append_assoc (take at bytes) (bytes_of k x) (drop (at + length (bytes_of k x)) bytes)) ∙ sym (sets-eq (bytes_of k x) bytes at (omega arith)))

-- which std gives for two and for four,
pub two-given : (x : ℕ) → to_le_bytes w16 (x % 65536) ≡ bytes_of 2 x
unfolding bytes_of
two-given x =
    let low : x % 65536 % 256 ≡ x % 256 = omega arith in
    let high : x % 65536 / 256 % 256 ≡ x / 256 % 256 = omega arith in
    rw (low, high)

pub four-given : (x : ℕ) → to_le_bytes w32 x ≡ bytes_of 4 x
unfolding bytes_of
four-given x =
    let third : x / 65536 ≡ x / 256 / 256 = omega arith in
    let fourth : x / 16777216 ≡ x / 256 / 256 / 256 = omega arith in
    rw (third, fourth)

-- and the sums of two and of four.
pub two-read : (bytes : List ℕ) (at : ℕ) → at + 2 ≤ length bytes → number_at 2 bytes at ≡ get_or bytes at 0 + 256 * get_or bytes (at + 1) 0
two-read bytes at h =
    number_step 1 bytes at (omega arith)
    ∙ ap (λ (n : ℕ). get_or bytes at 0 + 256 * n) (number_step 0 bytes (at + 1) (omega arith) ∙ ap (λ (n : ℕ). get_or bytes (at + 1) 0 + 256 * n) (number_none bytes (at + 1 + 1)))
    ∙ omega arith

three-read : (bytes : List ℕ) (at : ℕ) → at + 3 ≤ length bytes
    → number_at 3 bytes at ≡ get_or bytes at 0 + 256 * get_or bytes (at + 1) 0 + 65536 * get_or bytes (at + 2) 0
three-read bytes at h =
    let a = number_step 2 bytes at (omega arith) in
    let b = two-read bytes (at + 1) (omega arith) in
    let e : at + 1 + 1 ≡ at + 2 = omega arith in
    rw (a, b, e) (omega arith)

pub four-read : (bytes : List ℕ) (at : ℕ) → at + 4 ≤ length bytes
    → number_at 4 bytes at ≡ get_or bytes at 0 + 256 * get_or bytes (at + 1) 0 + 65536 * get_or bytes (at + 2) 0 + 16777216 * get_or bytes (at + 3) 0
four-read bytes at h =
    let a = number_step 3 bytes at (omega arith) in
    let b = three-read bytes (at + 1) (omega arith) in
    let e : at + 1 + 1 ≡ at + 2 = omega arith in
    let f : at + 1 + 2 ≡ at + 3 = omega arith in
    rw (a, b, e, f) (omega arith)
