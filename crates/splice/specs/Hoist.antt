-- What putting the children of a node that is taken out to where it stood writes: they leave the node, name the new parent, and are
-- tied in between its neighbours.
use Rattle.std.specs.Prelude.{cond, ◌⊎◌, ◌≡◌, List, ℕ, eqb, Result, Ok, Err}
use Rattle.link.specs.Words.{FIRST, LAST, set_link}
use Rattle.link.specs.Siblings.{rewrite_parents}
use Rattle.link.specs.declared.siblings_range.ConsistencyError.{ConsistencyError}
use Rattle.splice.specs.Splice.{Within, tied_in}

-- No first, or both ends within the memory.
abbrev pub Ends : List ℕ → ℕ → ℕ → Type 0
Ends m first last = (first ≡ 0) ⊎ (Within m first × Within m last)

abbrev pub tied : Result Unit ConsistencyError → List ℕ → ℕ → ℕ → ℕ → ℕ → ℕ → List ℕ
tied (Ok _) m first last parent previous next = tied_in m first last parent previous next
tied (Err _) m first last parent previous next = m

-- The node x has no children any more.
abbrev pub childless : List ℕ → ℕ → List ℕ
childless m x = set_link (set_link m x FIRST 0) x LAST 0

unfoldable pub hoisted_in : ℕ → List ℕ → ℕ → ℕ → ℕ → ℕ → ℕ → ℕ → List ℕ
hoisted_in steps m x first last parent previous next =
    cond (eqb first 0) m
    (let r = rewrite_parents steps (childless m x) first parent in tied r.1 r.0 first last parent previous next)
