-- The first n words of the scratch are zero, the others as they were.
use Rattle.std.specs.Prelude.{List, ◌++◌, ℕ, replicate, drop}

unfoldable pub zeroed : ℕ → List ℕ → List ℕ
zeroed n scratch = replicate n 0 ++ drop n scratch
