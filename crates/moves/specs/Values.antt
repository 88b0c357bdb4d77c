-- The four value forms, on any memory and header: REMOVED, FULL, else a creation, and the new node goes where the target's links say.
-- Excluded: FULL answered where the target is not found; a node created and left as a root.
use Rattle.std.specs.Prelude.{false, cond, not, List, ℕ, ◌+◌, eqb, Result}
use Rattle.link.specs.Words.{PARENT, PREVIOUS, NEXT, link}
use Rattle.link.specs.Siblings.{insert_with_neighbors, insert_last, insert_first}
use Rattle.link.specs.Found.{found_b}
use Rattle.link.specs.declared.header.Header.{Header}
use Rattle.link.specs.declared.siblings_range.ConsistencyError.{ConsistencyError}
use Rattle.rules.specs.Answers.{DONE, refusal, answer}
use Rattle.rules.specs.declared.answer.Answer.{Answer}
use Rattle.arena.specs.Create.{full_b, new_node}
use Rattle.moves.specs.declared.place.Place.{Place}
use Rattle.moves.specs.declared.place.Place.TheVariants.{Append, Prepend, After, Before}

-- A node that has no neighbours yet is put there.
abbrev pub put_new : Place → ℕ → List ℕ → ℕ → ℕ → List ℕ × Result Unit ConsistencyError
put_new Append n m target new = insert_last n m new target
put_new Prepend n m target new = insert_first n m new target
put_new After n m target new = insert_with_neighbors n m new (link m target PARENT) target (link m target NEXT)
put_new Before n m target new = insert_with_neighbors n m new (link m target PARENT) (link m target PREVIOUS) target

unfoldable pub value_no : List ℕ → Header → ℕ → ℕ
value_no m h target = refusal false false false false (not (found_b m h.used target)) false (full_b m h) false

unfoldable pub value_node : Place → List ℕ → Header → ℕ → ℕ → List ℕ × Answer
value_node place m h target number =
    cond (eqb (value_no m h target) DONE)
    (let made = new_node m h number in ((put_new place (h.used + 1) made.0 target made.1.result).0, made.1))
    (m, answer h (value_no m h target) 0)
