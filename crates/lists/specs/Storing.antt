-- How a list is written, member by member: each to the next place, and the place behind the last.
-- Excluded: a node that is not kept written to its place; two members written to one place; a place passed over.
use Rattle.std.specs.Prelude.{Bool, cond, List, ℕ, ◌+◌, length, set}
use Rattle.std.proofs.lemmas.List.Edits.{sets}

-- x at a place, where it is kept, and the place behind it then.
unfoldable pub put_if : Bool → List ℕ → ℕ → ℕ → List ℕ × ℕ
put_if keep list at x = cond keep (set list at x, at + 1) (list, at)

-- xs stored from a place on, and the place behind it.
unfoldable pub stored_at : List ℕ → List ℕ → ℕ → List ℕ × ℕ
stored_at xs list at = (sets list at xs, at + length xs)
