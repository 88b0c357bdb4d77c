-- A 32-bit number in decimal: its digits, most significant first, with no zeros in front.
-- Excluded: nothing written for 0; the digits in reverse.
use Rattle.std.specs.Prelude.{cond, List, [], ◌∷◌, ◌++◌, ℕ, zero, suc, ◌+◌, ◌/◌, ◌%◌, ltb}

-- the last k digits, as ASCII codes
unfoldable pub digits_of : ℕ → ℕ → List ℕ
digits_of zero n = []
digits_of (suc k) n = digits_of k (n / 10) ++ ((48 + n % 10) ∷ [])

-- how many digits there are, of a number below 2³²
unfoldable pub places_of : ℕ → ℕ
places_of n =
    cond (ltb n 10) 1
    (cond (ltb n 100) 2
    (cond (ltb n 1000) 3
    (cond (ltb n 10000) 4
    (cond (ltb n 100000) 5
    (cond (ltb n 1000000) 6
    (cond (ltb n 10000000) 7
    (cond (ltb n 100000000) 8
    (cond (ltb n 1000000000) 9
    10))))))))

unfoldable pub text_of : ℕ → List ℕ
text_of n = digits_of (places_of n) n
