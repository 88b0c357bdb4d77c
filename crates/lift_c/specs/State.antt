-- A walk's state as the face writes it: the root, the next edge while the mark is more, the mark. A refused call leaves it as it was.
-- Excluded: a state written by a refused call; an edge kept after over; a walk begun anew at each call.
use Rattle.std.specs.Prelude.{cond, List, [], ◌∷◌, ℕ, eqb, get_or}
use Rattle.link.specs.declared.header.Header.{Header}
use Rattle.rules.specs.Answers.{DONE, reply}
use Rattle.rules.specs.declared.answer.Reply.{Reply}
use Rattle.walk.specs.Edges.{mark_of}
use Rattle.walk.specs.Codes.{edge_word, step_of}
use Rattle.walk.specs.Walks.{standing, started, walked}
use Rattle.walk.specs.declared.walk.Traverse.{Traverse}

-- Where a walk stands by three words, and back again.
abbrev pub walk_of : List ℕ → Traverse
walk_of state = standing (get_or state 0 0) (step_of (get_or state 1 0) (get_or state 2 0))

abbrev pub state_of : List ℕ → ℕ → Traverse → List ℕ
state_of m used w = w.root ∷ edge_word m used w.next ∷ mark_of w.next ∷ []

-- Written where the number is DONE.
unfoldable pub state_after : List ℕ → ℕ → ℕ → Traverse → List ℕ → List ℕ
state_after m used number w state = cond (eqb number DONE) (state_of m used w) state

-- State and number after the start of a walk.
unfoldable pub start_call : List ℕ → Header → ℕ → List ℕ → List ℕ × ℕ
start_call m h root state =
    let s = started m h root in
    (state_after m h.used s.number s.walk state, s.number)

-- List, state and reply of a walk from where the state stands.
unfoldable pub walk_call : List ℕ → Header → List ℕ → ℕ → List ℕ → List ℕ × List ℕ × Reply
walk_call m h state k list =
    let w = walked m h (walk_of state) k list in
    (w.0, state_after m h.used w.1.number w.1.walk state, reply w.1.number w.1.result)
