-- What doing n commands of a trace leaves, where something is known of the memory before. It is no promise to the user: the batch and
-- the program that reads a trace piece by piece are stated by Batch alone.
use Rattle.std.specs.Prelude.{◌≡◌, List, ◌++◌, ℕ}
use Rattle.walk.specs.Written.{written}
use Rattle.command.specs.Known.{Knows}
use Rattle.batch.specs.Batch.{After, after}
use Rattle.batch.specs.declared.perform.Performed.{Performed}

-- Answers given before stand before those that follow.
abbrev pub before : List ℕ → After → After
before xs a = after a.words a.scratch a.header (xs ++ a.answers)

-- Memory as the commands leave it, their answers from the first place of the list on, and what is known then.
pub record Performs (done : After) (list m s list' : List ℕ) (p : Performed) : Type 0 where
  pub words : m ≡ done.words
  pub scratch : s ≡ done.scratch
  pub header : p.header ≡ done.header
  pub answers : list' ≡ written done.answers list
  pub knows : Knows m p.header s p.known
