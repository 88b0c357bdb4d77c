-- Every call of document 01, clear, load, commands and batches included, and what each leaves and answers: the very definitions that the
-- statements of the code cite. Excluded: a call left out; a refused load whose header is not looked at.
use Rattle.std.specs.Prelude.{List, [], ℕ}
use Rattle.rules.specs.Answers.{DONE, reply, answer}
use Rattle.arena.specs.Reads.{cleared}
use Rattle.image.specs.Load.{loaded}
use Rattle.command.specs.Commands.{commanded}
use Rattle.command.specs.declared.command.Command.{Command}
use Rattle.batch.specs.Batch.{batched}
use Rattle.history.specs.Calls.{Memory, memory, Call, Told, answers, replies, counts, starts, walks, writes, called}

pub data Every : Type 0 where
  -- the changes, set, and all that only read: history's calls
  one : Call → Every
  clear : Every
  -- load: the image's bytes
  load : List ℕ → Every
  command : Command → Every
  -- a batch: the trace's bytes, the places lent for the answers
  batch : List ℕ → List ℕ → Every

-- Memory after the call, and what it answers, on any memory.
abbrev pub done : Every → Memory → Memory × Told
done (one c) w = called c w
done clear w = (memory w.words cleared w.scratch, answers (answer cleared DONE 0))
done (load bytes) w =
    let r = loaded bytes w.words w.scratch in
    (memory r.0 r.2.header r.1, answers r.2)
done (command c) w =
    let r = commanded c w.words w.header w.scratch in
    (memory r.0 r.2.header r.1, answers r.2)
done (batch trace places) w =
    let r = batched w.words w.header w.scratch trace places in
    (memory r.0 r.3.header r.1, writes r.2 (reply r.3.number r.3.result))

-- A program says of every call what memory is after it, and what it answers. The demands are statements on a program, met by `done`.
abbrev pub Program : Type 0
Program = Every → Memory → Memory × Told

-- What is left of a list lent, of a call that takes one.
abbrev pub list_of : Told → List ℕ
list_of (answers r) = []
list_of (replies r) = []
list_of (counts r) = []
list_of (starts r) = []
list_of (walks places r) = places
list_of (writes places r) = places
