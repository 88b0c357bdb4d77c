-- A list written to lent places: its members from the first place on, every place past them unchanged.
-- Excluded: a list written from the second place on; a place past the list set to zero.
use Rattle.std.specs.Prelude.{List, ◌++◌, ℕ, length, drop}

unfoldable pub written : List ℕ → List ℕ → List ℕ
written xs places = xs ++ drop (length xs) places
