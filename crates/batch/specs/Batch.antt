-- The batch: the commands of a trace done one after the other, each as its own call would, and their answers, two words each.
-- Excluded: the first command done and the rest only answered; a batch that stops at a refusal; a part that is not counted.
use Rattle.std.specs.Prelude.{cond, List, [], ◌∷◌, ◌++◌, ℕ, zero, suc, ◌+◌, ◌*◌, ◌/◌, ◌%◌, eqb, ltb, length}
use Rattle.link.specs.declared.header.Header.{Header}
use Rattle.rules.specs.Answers.{DONE, ROOM, PART, answer}
use Rattle.rules.specs.declared.answer.Answer.{Answer}
use Rattle.walk.specs.Written.{written}
use Rattle.command.specs.Commands.{commanded}
use Rattle.batch.specs.Trace.{size, command_at, answers_of}

-- What is there after some commands: words, scratch, header, and the answers.
pub record After : Type 0 where
  pub words : List ℕ
  pub scratch : List ℕ
  pub header : Header
  pub answers : List ℕ

abbrev pub after : List ℕ → List ℕ → Header → List ℕ → After
after m s h answers = record { words = m; scratch = s; header = h; answers = answers }

-- n commands, from the one whose bytes begin at a place on.
unfoldable pub performed : ℕ → List ℕ → ℕ → List ℕ → Header → List ℕ → After
performed zero trace at m h s = after m s h []
performed (suc n) trace at m h s =
    let one = commanded (command_at trace at) m h s in
    let rest = performed n trace (at + size) one.0 one.2.header one.1 in
    after rest.words rest.scratch rest.header (one.2.number ∷ one.2.result ∷ rest.answers)

-- PART where bytes are left.
abbrev pub part_of : ℕ → List ℕ
part_of length = cond (eqb (length % size) 0) [] (PART ∷ 0 ∷ [])

-- A list too short for every command, and a PART if bytes are left, is ROOM before any command; else DONE and the number of
-- answers, as a 32-bit word. Words, scratch, list and answer on any memory.
unfoldable pub batched : List ℕ → Header → List ℕ → List ℕ → List ℕ → List ℕ × List ℕ × List ℕ × Answer
batched m h s trace list =
    let count = answers_of (length trace) in
    let done = performed (length trace / size) trace 0 m h s in
    cond (ltb (length list) (2 * count)) (m, s, list, answer h ROOM 0)
    (done.words, done.scratch, written (done.answers ++ part_of (length trace)) list, answer done.header DONE (count % 4294967296))
