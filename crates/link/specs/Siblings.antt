-- Taking a range of siblings out, naming its nodes another parent, and putting it between neighbours: on any memory.
-- Where a walk along next is needed it has a budget, and the second part of the answer says what came of it.
use Rattle.std.specs.Prelude.{cond, List, ℕ, zero, suc, eqb, Result, Ok, Err}
use Rattle.link.specs.Words.{PARENT, PREVIOUS, NEXT, FIRST, LAST, link, set_link}
use Rattle.link.specs.Relations.{connect_neighbors}
use Rattle.link.specs.declared.siblings_range.ConsistencyError.{ConsistencyError}
use Rattle.link.specs.declared.siblings_range.ConsistencyError.TheVariants.{SiblingsLoop, ParentChildLoop, OutOfSteps}

-- The neighbours outside the range become neighbours.
unfoldable pub detach_range : List ℕ → ℕ → ℕ → List ℕ
detach_range m first last =
    let m₁ = set_link m first PREVIOUS 0 in
    let m₂ = set_link m₁ last NEXT 0 in
    connect_neighbors m₂ (link m first PARENT) (link m first PREVIOUS) (link m₁ last NEXT)

-- The given parent is named to each node from child along next; none of them may be that parent.
unfoldable pub rewrite_parents : ℕ → List ℕ → ℕ → ℕ → List ℕ × Result Unit ConsistencyError
rewrite_parents zero m child parent = (m, Err OutOfSteps)
rewrite_parents (suc n) m child parent =
    cond (eqb child 0) (m, Ok tt)
    (cond (eqb child parent) (m, Err ParentChildLoop)
    (let m₁ = set_link m child PARENT parent in rewrite_parents n m₁ (link m₁ child NEXT) parent))

-- Where that was done, the range's ends are joined to the neighbours.
abbrev pub joined : Result Unit ConsistencyError → List ℕ → ℕ → ℕ → ℕ → ℕ → ℕ → List ℕ
joined (Ok _) m first last parent previous next = connect_neighbors (connect_neighbors m parent previous first) parent last next
joined (Err _) m first last parent previous next = m

unfoldable pub transplanted : ℕ → List ℕ → ℕ → ℕ → ℕ → ℕ → ℕ → List ℕ × Result Unit ConsistencyError
transplanted n m first last parent previous next =
    let r = rewrite_parents n m first parent in
    (joined r.1 r.0 first last parent previous next, r.1)

-- A node is taken out and put between two neighbours, none of which it may be.
unfoldable pub insert_with_neighbors : ℕ → List ℕ → ℕ → ℕ → ℕ → ℕ → List ℕ × Result Unit ConsistencyError
insert_with_neighbors n m new parent previous next =
    cond (eqb previous new) (m, Err SiblingsLoop)
    (cond (eqb next new) (m, Err SiblingsLoop)
    (cond (eqb parent new) (m, Err ParentChildLoop)
    (transplanted n (detach_range m new new) new new parent previous next)))

-- A detached node becomes the last child, or the first.
unfoldable pub insert_last : ℕ → List ℕ → ℕ → ℕ → List ℕ × Result Unit ConsistencyError
insert_last n m new parent = transplanted n m new new parent (link m parent LAST) 0

unfoldable pub insert_first : ℕ → List ℕ → ℕ → ℕ → List ℕ × Result Unit ConsistencyError
insert_first n m new parent = transplanted n m new new parent 0 (link m parent FIRST)
