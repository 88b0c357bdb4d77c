-- How the walk writes its edges, run by run: what is still to come, with what is written so far, makes the whole that was to come.
-- Excluded: a run that stops before the budget although an edge follows; one that writes past its budget.
use Rattle.std.specs.Prelude.{◌≡◌, ◌⊎◌, List, ◌-◌, ℕ, ◌+◌, ◌<◌, ◌≤◌, length, set}
use Rattle.std.proofs.lemmas.List.Edits.{sets}
use Rattle.walk.specs.Edges.{next_of_next}
use Rattle.walk.specs.Walks.{traversal, codes}
use Rattle.walk.specs.declared.edge.Edge.TheVariants.{Start, End}
use Rattle.walk.specs.declared.edge.Step.{Step}
use Rattle.walk.specs.declared.edge.Step.TheVariants as S
use Rattle.walk.specs.declared.run.Reached.{Reached}

-- At most n edges more, with i of them stored so far: the list, how many there are, and what is next.
unfoldable pub yield_from : ℕ → List ℕ → ℕ → ℕ → Step → List ℕ → ℕ → List ℕ × ℕ × Step
yield_from n m used root next list i =
    let t = traversal n m used root next in
    (sets list i (codes t.0), i + length t.0, t.1)

-- From `next`, with `count` edges in the list, to `next'` with count' of them.
pub record Gone (m : List ℕ) (used root budget : ℕ) (next : Step) (list : List ℕ) (count : ℕ) (next' : Step) (list' : List ℕ) (count' : ℕ) : Type 0 where
  pub from : count ≤ count'
  pub upto : count' ≤ budget
  pub places : length list' ≡ length list
  pub rest : yield_from (budget - count') m used root next' list' count' ≡ yield_from (budget - count) m used root next list count

-- What can be next, by its kind: Start of a node, or End of one.
abbrev pub starting : ℕ → Step
starting id = S.Edge (Start id)

abbrev pub ending : ℕ → Step
ending id = S.Edge (End id)

abbrev pub reached_at : ℕ → Step → Reached
reached_at count next = record { count = count; next = next }

-- End of a node written, and what is next then.
pub record Ended (m : List ℕ) (root x : ℕ) (list : List ℕ) (count : ℕ) (next' : Step) (list' : List ℕ) (count' : ℕ) : Type 0 where
  pub place : list' ≡ set list count (x + 32768)
  pub one : count' ≡ count + 1
  pub after : next' ≡ next_of_next m root (End x)

-- A run from `next`: it wrote an edge or lost one, and it stands at what is of the kind `out` only when the budget is used.
pub record Ran (m : List ℕ) (used root budget : ℕ) (next : Step) (list : List ℕ) (count : ℕ) (out : ℕ → Step) (next' : Step) (list' : List ℕ) (count' : ℕ) : Type 0 where
  pub gone : Gone m used root budget next list count next' list' count'
  pub moves : (count < count') ⊎ (next' ≡ S.Broken)
  pub full : (id : ℕ) → next' ≡ out id → budget ≤ count'
