-- What one turn of the program leaves: memory as the commands leave it, the text of their answers, and the bytes that are left.
-- Excluded: a line for the first command only; a byte of a cut-off command lost or taken twice.
use Rattle.std.specs.Prelude.{◌≡◌, List, ℕ, ◌*◌, ◌/◌, ◌%◌, ◌≤◌, length, take, drop}
use Rattle.command.specs.Known.{Knows}
use Rattle.batch.specs.Trace.{size}
use Rattle.batch.specs.Batch.{After}
use Rattle.lines.specs.Lines.{lines_of}
use Rattle.console.specs.declared.turn.Turn.{Turn}

pub record Turns (total : ℕ) (bytes : List ℕ) (done : After) (m s bytes' out : List ℕ) (t : Turn) : Type 0 where
  pub words : m ≡ done.words
  pub scratch : s ≡ done.scratch
  pub header : t.header ≡ done.header
  pub fits : t.text ≤ length out
  pub text : take t.text out ≡ lines_of (total / size) done.answers 0
  pub left : t.left ≡ total % size
  pub rest : take t.left bytes' ≡ take t.left (drop (total / size * size) bytes)
  pub knows : Knows m t.header s t.known
