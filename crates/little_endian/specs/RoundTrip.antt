-- Numbers written and read again are the same, and so are bytes read and written again: for every width, one number or a run of them.
-- Excluded: a reader and a writer that do not agree on the order of the bytes; a run that is read one byte late.
use Rattle.std.specs.Prelude.{◌≡◌, refl, List, [], ◌∷◌, ◌++◌, ℕ, zero, suc, ◌+◌, ◌*◌, ◌^◌, ◌<◌, ◌≤◌, length, take, drop}
use Rattle.std.proofs.Common.{sym, ap, ap₂, ◌∙◌, append_assoc, arith, length-append, length-drop, take_at, take-add, drop-drop, length-take-le}
use Rattle.std.proofs.Math.Seq.{drop-append_seam}
use Rattle.little_endian.specs.Bytes.{bytes_of, number_of, number_at, bytes_of_each, numbers_at}
use Rattle.little_endian.specs.ByteLaws.{Bytes, length-bytes_of, number-bytes, bytes-number}

-- each number fits k bytes
abbrev pub Fit : ℕ → List ℕ → Type 0
Fit k [] = Unit {0}
Fit k (x ∷ xs) = (x < 256 ^ k) × Fit k xs

pub fit-take : (k n : ℕ) (xs : List ℕ) → Fit k xs → Fit k (take n xs)
fit-take k zero xs h = tt
fit-take k (suc n) [] h = tt
fit-take k (suc n) (x ∷ xs) h = (h.0, fit-take k n xs h.1)

pub bytes_take : (n : ℕ) (bs : List ℕ) → Bytes bs → Bytes (take n bs)
bytes_take zero bs h = tt
bytes_take (suc n) [] h = tt
bytes_take (suc n) (b ∷ bs) h = (h.0, bytes_take n bs h.1)

pub bytes_drop : (n : ℕ) (bs : List ℕ) → Bytes bs → Bytes (drop n bs)
bytes_drop zero bs h = h
bytes_drop (suc n) [] h = tt
bytes_drop (suc n) (b ∷ bs) h = bytes_drop n bs h.1

-- What was written between p and q is read there.
pub read-written : (k x : ℕ) (p q : List ℕ) → x < 256 ^ k → number_at k (p ++ (bytes_of k x ++ q)) (length p) ≡ x
unfolding number_at
read-written k x p q h =
    ap (λ (t : List ℕ). number_of (take k t)) (drop-append_seam p (bytes_of k x ++ q))
    ∙ ap number_of (take_at (bytes_of k x) q k (length-bytes_of k x))
    ∙ number-bytes k x h

pub run-written : (k : ℕ) (xs p q : List ℕ) → Fit k xs → numbers_at k (length xs) (p ++ (bytes_of_each k xs ++ q)) (length p) ≡ xs
unfolding numbers_at bytes_of_each
run-written k [] p q h = refl
run-written k (x ∷ xs) p q h =
    let inner : (bytes_of k x ++ bytes_of_each k xs) ++ q ≡ bytes_of k x ++ (bytes_of_each k xs ++ q) = append_assoc (bytes_of k x) (bytes_of_each k xs) q in
    let outer : p ++ (bytes_of k x ++ (bytes_of_each k xs ++ q)) ≡ (p ++ bytes_of k x) ++ (bytes_of_each k xs ++ q) = sym (append_assoc p (bytes_of k x) (bytes_of_each k xs ++ q)) in
    let behind : length (p ++ bytes_of k x) ≡ length p + k = length-append p (bytes_of k x) ∙ ap (λ (n : ℕ). length p + n) (length-bytes_of k x) in
    ap₂ ◌∷◌
    (ap (λ (t : List ℕ). number_at k (p ++ t) (length p)) inner ∙ read-written k x p (bytes_of_each k xs ++ q) h.0)
    (ap (λ (t : List ℕ). numbers_at k (length xs) (p ++ t) (length p + k)) inner
    ∙ ap (λ (t : List ℕ). numbers_at k (length xs) t (length p + k)) outer
    ∙ ap (numbers_at k (length xs) ((p ++ bytes_of k x) ++ (bytes_of_each k xs ++ q))) (sym behind)
    ∙ run-written k xs (p ++ bytes_of k x) q h.1)

-- What was read, written again.
pub written_read : (k : ℕ) (bytes : List ℕ) (at : ℕ) → Bytes bytes → at + k ≤ length bytes → bytes_of k (number_at k bytes at) ≡ take k (drop at bytes)
unfolding number_at
written_read k bytes at b h =
    let size : length (take k (drop at bytes)) ≡ k = length-take-le k (drop at bytes) (rw length-drop (omega arith)) in
    ap (λ (n : ℕ). bytes_of n (number_of (take k (drop at bytes)))) (sym size)
    ∙ bytes-number (take k (drop at bytes)) (bytes_take k (drop at bytes) (bytes_drop at bytes b))

pub written-run : (k n : ℕ) (bytes : List ℕ) (at : ℕ) → Bytes bytes → at + k * n ≤ length bytes
    → bytes_of_each k (numbers_at k n bytes at) ≡ take (k * n) (drop at bytes)
unfolding numbers_at bytes_of_each
written-run k zero bytes at b h = let none : 0 ≡ k * 0 = omega arith in ap (λ (i : ℕ). take i (drop at bytes)) none
written-run k (suc n) bytes at b h =
    let room : at + k + k * n ≤ length bytes = omega arith in
    let whole : k + k * n ≡ k * suc n = omega arith in
    ap₂ ◌++◌ (written_read k bytes at b (omega arith)) (written-run k n bytes (at + k) b room ∙ ap (take (k * n)) (sym (drop-drop k at bytes)))
    ∙ sym (take-add k (k * n) (drop at bytes))
    ∙ ap (λ (i : ℕ). take i (drop at bytes)) whole
