-- Runs of numbers: one number more at the end of what was written or read; a run and its bytes determine each other.
use Rattle.std.specs.Prelude.{◌≡◌, refl, List, [], ◌∷◌, ◌++◌, ℕ, zero, suc, ◌+◌, ◌*◌, ◌<◌, length, get_or, set, take}
use Rattle.std.proofs.Common.{sym, ap, ap₂, ◌∙◌, append_assoc, append-nil, arith, add-one, length-append, take-suc, length-take-le}
use Rattle.std.proofs.lemmas.List.Edits.{sets}
use Rattle.little_endian.specs.Bytes.{bytes_of, number_at, with_number, bytes_of_each, numbers_at}
use Rattle.little_endian.specs.ByteLaws.{length-bytes_of}

-- ---- a run of stores, then another behind it

pub sets-append : (l : List ℕ) (i : ℕ) (vs ws : List ℕ) → sets l i (vs ++ ws) ≡ sets (sets l i vs) (i + length vs) ws
sets-append l i [] ws = ap (λ (k : ℕ). sets l k ws) (omega arith)
sets-append l i (v ∷ vs) ws = sets-append (set l i v) (suc i) vs ws ∙ ap (λ (k : ℕ). sets (sets (set l i v) (suc i) vs) k ws) (omega arith)

-- ---- written

pub each_append : (k : ℕ) (xs ys : List ℕ) → bytes_of_each k (xs ++ ys) ≡ bytes_of_each k xs ++ bytes_of_each k ys
unfolding bytes_of_each
each_append k [] ys = refl
each_append k (x ∷ xs) ys = ap (λ (t : List ℕ). bytes_of k x ++ t) (each_append k xs ys) ∙ sym (append_assoc (bytes_of k x) (bytes_of_each k xs) (bytes_of_each k ys))

pub length-each : (k : ℕ) (xs : List ℕ) → length (bytes_of_each k xs) ≡ k * length xs
unfolding bytes_of_each
length-each k [] = omega arith
length-each k (x ∷ xs) = length-append (bytes_of k x) (bytes_of_each k xs) ∙ ap₂ ◌+◌ (length-bytes_of k x) (length-each k xs) ∙ omega arith

pub put_none : (k : ℕ) (bytes : List ℕ) (at : ℕ) (words : List ℕ) → bytes ≡ sets bytes at (bytes_of_each k (take 0 words))
unfolding bytes_of_each
put_none k bytes at words = refl

-- One word more.
pub put-more : (k : ℕ) (bytes : List ℕ) (at : ℕ) (words : List ℕ) (i : ℕ) → i < length words
    → with_number k (sets bytes at (bytes_of_each k (take i words))) (at + k * i) (get_or words i 0) ≡ sets bytes at (bytes_of_each k (take (i + 1) words))
unfolding with_number bytes_of_each
put-more k bytes at words i h =
    let few : length (take i words) ≡ i = length-take-le i words (omega arith) in
    let size : length (bytes_of_each k (take i words)) ≡ k * i = length-each k (take i words) ∙ ap (λ (n : ℕ). k * n) few in
    ap (λ (n : ℕ). sets (sets bytes at (bytes_of_each k (take i words))) (at + n) (bytes_of k (get_or words i 0))) (sym size)
    ∙ sym (sets-append bytes at (bytes_of_each k (take i words)) (bytes_of k (get_or words i 0)))
    ∙ ap (λ (t : List ℕ). sets bytes at (bytes_of_each k (take i words) ++ t)) (sym (append-nil (bytes_of k (get_or words i 0))))
    ∙ ap (sets bytes at) (sym (each_append k (take i words) (get_or words i 0 ∷ [])) ∙ ap (bytes_of_each k) (sym (take-suc words i 0 h) ∙ ap (λ (n : ℕ). take n words) (sym (add-one i))))

-- ---- read

pub length-numbers_at : (k n : ℕ) (bytes : List ℕ) (at : ℕ) → length (numbers_at k n bytes at) ≡ n
unfolding numbers_at
length-numbers_at k zero bytes at = refl
length-numbers_at k (suc n) bytes at = ap suc (length-numbers_at k n bytes (at + k))

pub numbers_more : (k n : ℕ) (bytes : List ℕ) (at : ℕ) → numbers_at k (suc n) bytes at ≡ numbers_at k n bytes at ++ (number_at k bytes (at + k * n) ∷ [])
unfolding numbers_at
numbers_more k zero bytes at = ap (λ (p : ℕ). number_at k bytes p ∷ []) (omega arith)
numbers_more k (suc n) bytes at =
    ap (λ (t : List ℕ). number_at k bytes at ∷ t)
    (numbers_more k n bytes (at + k) ∙ ap (λ (p : ℕ). numbers_at k n bytes (at + k) ++ (number_at k bytes p ∷ [])) (omega arith))

pub get_none : (k : ℕ) (words bytes : List ℕ) (at : ℕ) → words ≡ sets words 0 (numbers_at k 0 bytes at)
unfolding numbers_at
get_none k words bytes at = refl

pub get-more : (k : ℕ) (words bytes : List ℕ) (at i : ℕ)
    → set (sets words 0 (numbers_at k i bytes at)) i (number_at k bytes (at + k * i)) ≡ sets words 0 (numbers_at k (i + 1) bytes at)
get-more k words bytes at i =
    let size : 0 + length (numbers_at k i bytes at) ≡ i = let e = length-numbers_at k i bytes at in omega arith in
    ap (λ (n : ℕ). set (sets words 0 (numbers_at k i bytes at)) n (number_at k bytes (at + k * i))) (sym size)
    ∙ sym (sets-append words 0 (numbers_at k i bytes at) (number_at k bytes (at + k * i) ∷ []))
    ∙ ap (sets words 0) (sym (numbers_more k i bytes at) ∙ ap (λ (n : ℕ). numbers_at k n bytes at) (sym (add-one i)))
