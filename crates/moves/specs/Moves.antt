-- The four moves, on any memory and header: SELF, REMOVED, ANCESTOR, else the node is detached and goes where the target's links then say.
-- Excluded: neighbours read before the detach; a node hung below itself; REMOVED answered where the two identifiers are equal.
use Rattle.std.specs.Prelude.{Bool, true, false, cond, not, ◌&&◌, List, ℕ, zero, suc, ◌+◌, eqb}
use Rattle.link.specs.Words.{PARENT, FIRST, link}
use Rattle.link.specs.Siblings.{insert_with_neighbors}
use Rattle.link.specs.Found.{found_b}
use Rattle.link.specs.declared.header.Header.{Header}
use Rattle.rules.specs.Answers.{DONE, refusal, answer}
use Rattle.rules.specs.declared.answer.Answer.{Answer}
use Rattle.moves.specs.Places.{spot}
use Rattle.moves.specs.Detach.{detach}
use Rattle.moves.specs.declared.place.Place.{Place}

-- id is other or one of its ancestors, looking at n of them; also where that is too few.
unfoldable pub on_path_b : ℕ → List ℕ → ℕ → ℕ → Bool
on_path_b zero m id other = true
on_path_b (suc n) m id other = cond (eqb other 0) false (cond (eqb other id) true (on_path_b n m id (link m other PARENT)))

-- The same; a node without children can only be itself.
unfoldable pub ancestor_or_self_b : ℕ → List ℕ → ℕ → ℕ → Bool
ancestor_or_self_b n m id other = cond (eqb (link m id FIRST) 0) (eqb id other) (on_path_b n m id other)

-- The node to move is a proper ancestor of the target.
abbrev pub ancestor_b : List ℕ → Header → ℕ → ℕ → Bool
ancestor_b m h target moved = ancestor_or_self_b (h.used + 1) m moved (link m target PARENT)

unfoldable pub move_no : List ℕ → Header → ℕ → ℕ → ℕ
move_no m h target moved =
    refusal false false false (eqb target moved) (not (found_b m h.used target && found_b m h.used moved)) (ancestor_b m h target moved) false false

-- The change itself: out, then in.
unfoldable pub move_words : Place → ℕ → List ℕ → ℕ → ℕ → List ℕ
move_words place n m target moved =
    let m₁ = detach m moved in
    let to = spot place m₁ target in
    (insert_with_neighbors n m₁ moved to.parent to.previous to.next).0

unfoldable pub move_node : Place → List ℕ → Header → ℕ → ℕ → List ℕ × Answer
move_node place m h target moved =
    cond (eqb (move_no m h target moved) DONE)
    (move_words place (h.used + 1) m target moved, answer h DONE 0)
    (m, answer h (move_no m h target moved) 0)
