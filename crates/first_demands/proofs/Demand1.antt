-- Demand 1: "Every call ends with an answer from 01's table, on any memory, identifiers and bytes. A refusal changes no node and no output
-- list; 01 names what a refused load and the scratch memory hold." Of every call, on any memory, with nothing asked.
use Rattle.std.specs.Prelude.{refl, List, ℕ}
use Rattle.std.proofs.Common.{ap, inl}
use Rattle.rules.specs.declared.answer.Answer.{Answer}
use Rattle.history.specs.Calls.{Memory, answers}
use Rattle.first_demands.specs.Every.{Every, one, clear, load, command, batch, done}
use Rattle.first_demands.specs.Refusals.{BatchAnswers, Answers, RefusalKeeps, ScratchHolds}
use Rattle.first_demands.specs.LoadLaws.{fair-loaded}
use Rattle.first_demands.proofs.CallLaws.{call-both, call-scratch}
use Rattle.first_demands.proofs.CommandLaws.{batch-answers, command-both, command-scratch, batch-both, batch-scratch}

-- Every call answers one of its own numbers. Excluded: a number that is not in the table; FULL answered by a removal; a batch that answers
-- what its first command answers.
pub from_the_table : (c : Every) (w : Memory) → Answers done c w
from_the_table (one c) w = (call-both w c).0
from_the_table clear w = inl refl
from_the_table (load bytes) w = (fair-loaded bytes w.words w.scratch).0
from_the_table (command c) w = (command-both c w).0
from_the_table (batch trace places) w = (batch-both trace places w).0

-- So does each command of a batch, in the list. Excluded: an answer left out; a result written with a refusal.
pub batch-from_the_table : (trace places : List ℕ) (w : Memory) → BatchAnswers done trace places w
batch-from_the_table = batch-answers

-- A refusal leaves every word and the header, answers 0 beside its number, and leaves a lent list as it was; a refused load as document 01
-- says. Excluded: a node written before a test refuses; a list half written; a count answered with a refusal; a header kept by a refused load.
pub refusal-keeps : (c : Every) (w : Memory) → RefusalKeeps done c w
refusal-keeps (one c) w = (call-both w c).1
refusal-keeps clear w = λ n. absurd (n refl)
refusal-keeps (load bytes) w =
    λ n. let e = (fair-loaded bytes w.words w.scratch).1 n in (e.0, ap (λ (r : Answer). r.header) e.1, ap answers e.1)
refusal-keeps (command c) w = (command-both c w).1
refusal-keeps (batch trace places) w = (batch-both trace places w).1

-- The scratch, refused or not. Excluded: scratch touched by a read; scratch left unzeroed by a call that is refused INVALID.
pub scratch-holds : (c : Every) (w : Memory) → ScratchHolds done c w
scratch-holds (one c) w = call-scratch c w
scratch-holds clear w = refl
scratch-holds (load bytes) w = (fair-loaded bytes w.words w.scratch).2
scratch-holds (command c) w = command-scratch c w
scratch-holds (batch trace places) w = batch-scratch trace places w
