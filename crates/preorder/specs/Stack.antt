-- One turn of the loop, over a stack that grows downwards in scratch: the node that follows x, what becomes of scratch, and the new top.
-- Excluded: the next sibling visited before the first child; a word left in scratch by a node that is gone from the stack.
use Rattle.std.specs.Prelude.{cond, List, ◌-◌, ℕ, ◌+◌, eqb, set, get_or}
use Rattle.link.specs.Words.{NEXT, FIRST, link}
use Rattle.preorder.specs.declared.preorder.Turned.{Turned}

unfoldable pub turned_to : ℕ → ℕ → Turned
turned_to node top = record { node = node; top = top }

-- Down: the first child, and the next sibling waits; where there is none, none is written and the top stays.
unfoldable pub went_down : List ℕ → ℕ → ℕ → ℕ → List ℕ × Turned
went_down s top first next = (set s (top - 1) next, turned_to first (cond (eqb next 0) top (top - 1)))

-- On: the next sibling; where there is none, the one that waits on top, whose word is zero then.
unfoldable pub went_on : List ℕ → ℕ → ℕ → List ℕ × Turned
went_on s top next =
    let waiting = get_or s top 0 in
    (set s top (cond (eqb next 0) 0 waiting), turned_to (cond (eqb next 0) waiting next) (cond (eqb next 0) (top + 1) top))

unfoldable pub turned : List ℕ → ℕ → List ℕ → ℕ → List ℕ × Turned
turned m x s top = cond (eqb (link m x FIRST) 0) (went_on s top (link m x NEXT)) (went_down s top (link m x FIRST) (link m x NEXT))
