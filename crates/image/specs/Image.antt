-- The image, as document 01 lays it out: 4C 46 54, version 1, used, first free, last free, then the used slots' words, little-endian;
-- and what any run of bytes says, read as an image. Excluded: last free before first free; the words of slots that are not in use.
use Rattle.std.specs.Prelude.{Bool, false, cond, List, [], ◌∷◌, ◌++◌, ℕ, ◌+◌, ◌*◌, eqb, length, get_or, take, drop}
use Rattle.link.specs.Words.{width}
use Rattle.link.specs.declared.header.Header.{Header}
use Rattle.rules.specs.Answers.{header}
use Rattle.little_endian.specs.Bytes.{bytes_of, number_at, bytes_of_each, numbers_at}

-- LFT
abbrev pub mark : List ℕ
mark = 76 ∷ 70 ∷ 84 ∷ []

abbrev pub version : ℕ
version = 1

-- the bytes before the words
abbrev pub prefix : ℕ
prefix = 11

-- 11 + 28 × used
abbrev pub image_length : ℕ → ℕ
image_length used = prefix + 4 * (width * used)

unfoldable pub prefix_of : Header → List ℕ
prefix_of h = mark ++ (bytes_of 2 version ++ (bytes_of 2 h.used ++ (bytes_of 2 h.first ++ bytes_of 2 h.last)))

unfoldable pub image_of : List ℕ → Header → List ℕ
image_of m h = prefix_of h ++ bytes_of_each 4 (take (width * h.used) m)

-- A run of bytes, read as an image.
unfoldable pub marked_b : List ℕ → Bool
marked_b bytes = cond (eqb (get_or bytes 0 0) 76) (cond (eqb (get_or bytes 1 0) 70) (eqb (get_or bytes 2 0) 84) false) false

abbrev pub version_in : List ℕ → ℕ
version_in bytes = number_at 2 bytes 3

abbrev pub used_in : List ℕ → ℕ
used_in bytes = number_at 2 bytes 5

abbrev pub header_in : List ℕ → Header
header_in bytes = header (used_in bytes) (number_at 2 bytes 7) (number_at 2 bytes 9)

abbrev pub words_in : List ℕ → List ℕ
words_in bytes = numbers_at 4 (width * used_in bytes) bytes prefix

-- xs in the first places of l; the places past them as they were
unfoldable pub laid : List ℕ → List ℕ → List ℕ
laid xs l = xs ++ drop (length xs) l
