-- Where a walk stands, as two numbers: the next edge as a list has it while the mark is more, and the mark. An edge that is not found is 0.
-- Excluded: an edge that is not found stored as the code of another that is found; a mark above 2 taken for over.
use Rattle.std.specs.Prelude.{cond, List, ◌-◌, ℕ, ◌%◌, eqb, ltb}
use Rattle.link.specs.Found.{found_b}
use Rattle.walk.specs.Edges.{edge_id, edge_code}
use Rattle.walk.specs.Walks.{by_step}
use Rattle.walk.specs.declared.edge.Edge.{Edge}
use Rattle.walk.specs.declared.edge.Edge.TheVariants.{Start, End}
use Rattle.walk.specs.declared.edge.Step.{Step}
use Rattle.walk.specs.declared.edge.Step.TheVariants as S

unfoldable pub code_if_found : List ℕ → ℕ → Edge → ℕ
code_if_found m used e = cond (found_b m used (edge_id e)) (edge_code e) 0

unfoldable pub edge_word : List ℕ → ℕ → Step → ℕ
edge_word m used next = by_step (code_if_found m used) 0 0 next

-- Back again: a low half of 32,768 and more is an End.
unfoldable pub edge_of : ℕ → Edge
edge_of word = cond (ltb (word % 65536) 32768) (Start word) (End (word - 32768))

unfoldable pub step_of : ℕ → ℕ → Step
step_of word mark = cond (eqb mark 0) (S.Edge (edge_of word)) (cond (eqb mark 1) S.Over S.Broken)
