-- The stepped walk as document 01 says it: what it yields, what it writes, what it answers, and where it stands afterwards.
-- Excluded: a made-up edge count; an edge yielded although its identifier is not found; a list too short for the budget written to.
use Rattle.std.specs.Prelude.{false, cond, not, List, [], ◌∷◌, ℕ, zero, suc, Result, Ok, Err, eqb, ltb, length}
use Rattle.link.specs.Found.{found_b}
use Rattle.link.specs.declared.header.Header.{Header}
use Rattle.rules.specs.Answers.{DONE, refusal, refusal_no}
use Rattle.rules.specs.declared.answer.Refusal.{Refusal}
use Rattle.sound.specs.Guard.{frame_b}
use Rattle.walk.specs.Edges.{edge_id, edge_code, next_of_next}
use Rattle.walk.specs.Written.{written}
use Rattle.walk.specs.declared.edge.Edge.{Edge}
use Rattle.walk.specs.declared.edge.Edge.TheVariants.{Start}
use Rattle.walk.specs.declared.edge.Step.{Step}
use Rattle.walk.specs.declared.edge.Step.TheVariants as S
use Rattle.walk.specs.declared.walk.Traverse.{Traverse}
use Rattle.walk.specs.declared.walk.Yielded.{Yielded}

-- In numbers: what the start of a walk answers; and what a walk answers: how many edges it yielded, and where it stands.
pub record Started : Type 0 where
  pub number : ℕ
  pub walk : Traverse

pub record Walked : Type 0 where
  pub number : ℕ
  pub result : ℕ
  pub walk : Traverse

-- By what is next: an edge, nothing, or nothing after an edge that was not found.
abbrev pub by_step : {A : Type 0} → (Edge → A) → A → A → Step → A
by_step f over broken (S.Edge e) = f e
by_step f over broken S.Over = over
by_step f over broken S.Broken = broken

abbrev pub before : Edge → List Edge × Step → List Edge × Step
before e rest = (e ∷ rest.0, rest.1)

-- The traversal, at most k edges of it: the edges yielded, and what is next then. An edge whose identifier is not found ends it.
unfoldable pub traversal : ℕ → List ℕ → ℕ → ℕ → Step → List Edge × Step
traversal zero m used root next = ([], next)
traversal (suc k) m used root next =
    by_step
    (λ e. cond (found_b m used (edge_id e)) (before e (traversal k m used root (next_of_next m root e))) ([], S.Broken))
    ([], S.Over) ([], S.Broken) next

-- The edges as a list has them.
abbrev pub codes : List Edge → List ℕ
codes [] = []
codes (e ∷ es) = edge_code e ∷ codes es

abbrev pub standing : ℕ → Step → Traverse
standing root next = record { root = root; next = next }

-- What is handed back, in numbers: a refused start is over at its root, a refused walk yields nothing and stays.
abbrev pub started_by : ℕ → Result Traverse Refusal → Started
started_by root (Ok walk) = record { number = DONE; walk = walk }
started_by root (Err refused) = record { number = refusal_no refused; walk = standing root S.Over }

abbrev pub yielded_by : Yielded → Walked
yielded_by y = record { number = DONE; result = y.count; walk = y.walk }

abbrev pub walked_by : Traverse → Result Yielded Refusal → Walked
walked_by from (Ok y) = yielded_by y
walked_by from (Err refused) = record { number = refusal_no refused; result = 0; walk = from }

-- At the start: FRAME, then REMOVED. The next edge is Start of the root; a refused walk is over.
unfoldable pub started : List ℕ → Header → ℕ → Started
started m h root =
    let no = refusal (frame_b (length m) h.used) false false false (not (found_b m h.used root)) false false false in
    record { number = no; walk = standing root (cond (eqb no DONE) (S.Edge (Start root)) S.Over) }

-- A budget of k edges: FRAME, then ROOM for a list under k places, and the walk stays.
unfoldable pub walk_no : List ℕ → Header → ℕ → List ℕ → ℕ
walk_no m h k list = refusal (frame_b (length m) h.used) false false false false false false (ltb (length list) k)

abbrev pub yielded_to : ℕ → ℕ → Step → Walked
yielded_to root count next = record { number = DONE; result = count; walk = standing root next }

-- What is yielded: the edges written from the first place on, their count the number of the traversal's steps.
unfoldable pub yielded : List ℕ → ℕ → ℕ → Step → ℕ → List ℕ → List ℕ × Walked
yielded m used root next k list =
    let t = traversal k m used root next in
    (written (codes t.0) list, yielded_to root (length t.0) t.1)

unfoldable pub walked : List ℕ → Header → Traverse → ℕ → List ℕ → List ℕ × Walked
walked m h w k list =
    let no = walk_no m h k list in
    cond (eqb no DONE) (yielded m h.used w.root w.next k list) (list, record { number = no; result = 0; walk = w })
