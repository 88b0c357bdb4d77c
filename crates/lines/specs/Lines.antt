-- Answers as text, as document 01's program writes them: the number, a space, the result in decimal and a newline.
-- Excluded: a line for the first answer only; the result written before the number.
use Rattle.std.specs.Prelude.{List, [], ◌∷◌, ◌++◌, ℕ, zero, suc, ◌+◌, ◌*◌, get_or}
use Rattle.lines.specs.Decimal.{text_of}

unfoldable pub line_of : ℕ → ℕ → List ℕ
line_of number result = text_of number ++ (32 ∷ (text_of result ++ (10 ∷ [])))

-- n answers of a list, two words each, from the i-th on
unfoldable pub lines_of : ℕ → List ℕ → ℕ → List ℕ
lines_of zero list i = []
lines_of (suc n) list i = line_of (get_or list (2 * i) 0) (get_or list (2 * i + 1) 0) ++ lines_of n list (i + 1)
