-- A number as k bytes, the lowest first, and the number of a run of bytes; at a place of a longer run; and many numbers one after another.
-- Excluded: the highest byte first; two bytes of a number exchanged.
use Rattle.std.specs.Prelude.{List, [], ◌∷◌, ◌++◌, ℕ, zero, suc, ◌+◌, ◌*◌, ◌/◌, ◌%◌, take, drop}
use Rattle.std.proofs.lemmas.List.Edits.{sets}

-- k bytes of x
unfoldable pub bytes_of : ℕ → ℕ → List ℕ
bytes_of zero x = []
bytes_of (suc k) x = (x % 256) ∷ bytes_of k (x / 256)

unfoldable pub number_of : List ℕ → ℕ
number_of [] = 0
number_of (b ∷ bs) = b + 256 * number_of bs

-- the number whose k bytes stand from `at` on
unfoldable pub number_at : ℕ → List ℕ → ℕ → ℕ
number_at k bytes at = number_of (take k (drop at bytes))

-- the k bytes of x, written from `at` on
unfoldable pub with_number : ℕ → List ℕ → ℕ → ℕ → List ℕ
with_number k bytes at x = sets bytes at (bytes_of k x)

-- the bytes of each number, one after another
unfoldable pub bytes_of_each : ℕ → List ℕ → List ℕ
bytes_of_each k [] = []
bytes_of_each k (x ∷ xs) = bytes_of k x ++ bytes_of_each k xs

-- n numbers, one after another, from `at` on
unfoldable pub numbers_at : ℕ → ℕ → List ℕ → ℕ → List ℕ
numbers_at k zero bytes at = []
numbers_at k (suc n) bytes at = number_at k bytes at ∷ numbers_at k n bytes (at + k)
