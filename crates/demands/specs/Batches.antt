-- A batch is its commands, each as its own call: so a history of calls is also one of commands and of batches. A command that is refused
-- COMMAND is no call, and changes nothing. Excluded: a command that does what no call does; a batch that leaves a command out.
use Rattle.std.specs.Prelude.{◌≡◌, refl, Bool, true, false, cond, List, [], ◌∷◌, ◌++◌, ℕ, zero, suc, ◌+◌}
use Rattle.std.proofs.Common.{ap, ◌∙◌}
use Rattle.rules.specs.Answers.{COMMAND, answer}
use Rattle.command.specs.Codes.{acceptable}
use Rattle.command.specs.Calls.{call_of}
use Rattle.command.specs.Commands.{Outcome, commanded}
use Rattle.command.specs.declared.call.Call.TheVariants.{Make, Read, Set, LiveCount, DescendantCount, Validate}
use Rattle.command.specs.declared.command.Command.{Command}
use Rattle.batch.specs.Trace.{size, command_at}
use Rattle.batch.specs.Batch.{After, performed}
use Rattle.history.specs.Calls.{Memory, Call, change, set, read, single, counts_live, counts_descendants, validate, Told, number_of, result_of, called}
use Rattle.history.specs.History.{after}
use Rattle.command.specs.Commands as commands
use Rattle.command.specs.declared.call.Call as coded

-- The call that a code names.
abbrev pub call_by : coded.Call → ℕ → ℕ → Call
call_by (Make c) a b = change c a b
call_by (Read k) a b = read (single k a)
call_by Set a b = set a b
call_by LiveCount a b = read counts_live
call_by DescendantCount a b = read (counts_descendants a)
call_by Validate a b = read validate

abbrev pub acceptable_b : Command → Bool
acceptable_b c = acceptable c.code c.unused c.a c.b

-- The calls of a command: one, or none where it is refused COMMAND. The calls of n commands of a trace.
abbrev pub calls_of : Command → List Call
calls_of c = cond (acceptable_b c) (call_by (call_of c.code) c.a c.b ∷ []) []

abbrev pub calls_in : ℕ → List ℕ → ℕ → List Call
calls_in zero trace at = []
calls_in (suc n) trace at = calls_of (command_at trace at) ++ calls_in n trace (at + size)

-- What a call leaves and answers, as a command has it.
abbrev pub outcome : Memory × Told → Outcome
outcome r = (r.0.words, r.0.scratch, answer r.0.header (number_of r.1) (result_of r.1))

call-outcome : (call : coded.Call) (a b : ℕ) (w : Memory)
    → commands.called call a b w.words w.header w.scratch ≡ outcome (called (call_by call a b) w)
unfolding commands.called
call-outcome (Make c) a b w = refl
call-outcome (Read k) a b w = refl
call-outcome Set a b w = refl
call-outcome LiveCount a b w = refl
call-outcome DescendantCount a b w = refl
call-outcome Validate a b w = refl

-- An accepted command leaves and answers what its call does; any other leaves all, and answers COMMAND.
pub command-called : (c : Command) (w : Memory) → acceptable_b c ≡ true
    → commanded c w.words w.header w.scratch ≡ outcome (called (call_by (call_of c.code) c.a c.b) w)
unfolding commanded
command-called c w e = simp e (call-outcome (call_of c.code) c.a c.b w)

pub command-refused : (c : Command) (w : Memory) → acceptable_b c ≡ false
    → commanded c w.words w.header w.scratch ≡ (w.words, w.scratch, answer w.header COMMAND 0)
unfolding commanded
command-refused c w e = simp e

-- The numbers and results of n commands: those of their calls, and COMMAND with 0.
abbrev pub told_in : ℕ → List ℕ → ℕ → Memory → List ℕ
told_in zero trace at w = []
told_in (suc n) trace at w =
    let c = command_at trace at in
    let r = called (call_by (call_of c.code) c.a c.b) w in
    cond (acceptable_b c) (number_of r.1 ∷ result_of r.1 ∷ told_in n trace (at + size) r.0) (COMMAND ∷ 0 ∷ told_in n trace (at + size) w)

abbrev pub left : Memory → List ℕ → After
left w answers = record { words = w.words; scratch = w.scratch; header = w.header; answers = answers }

-- The commands of a batch leave the memory that their calls leave, one after the other, and answer what these answer.
pub performed-calls : (n : ℕ) (trace : List ℕ) (at : ℕ) (w : Memory)
    → performed n trace at w.words w.header w.scratch ≡ left (after called w (calls_in n trace at)) (told_in n trace at w)
unfolding performed
performed-calls zero trace at w = refl
performed-calls (suc n) trace at w = by (acceptable_b c) refl (performed-calls n trace (at + size))
  where
    c : Command
    c = command_at trace at

    r : Memory × Told
    r = called (call_by (call_of (command_at trace at).code) (command_at trace at).a (command_at trace at).b) w

    then : Outcome → After
    then one =
        let rest = performed n trace (at + size) one.0 one.2.header one.1 in
        record { words = rest.words; scratch = rest.scratch; header = rest.header; answers = one.2.number ∷ one.2.result ∷ rest.answers }

    by : (b : Bool) → acceptable_b (command_at trace at) ≡ b
        → ((w : Memory) → performed n trace (at + size) w.words w.header w.scratch ≡ left (after called w (calls_in n trace (at + size))) (told_in n trace (at + size) w))
        → then (commanded (command_at trace at) w.words w.header w.scratch)
        ≡ left (after called w (calls_in (suc n) trace at)) (told_in (suc n) trace at w)
    by true e rest =
        ap then (command-called (command_at trace at) w e)
        ∙ simp e (ap (λ (d : After). record { words = d.words; scratch = d.scratch; header = d.header; answers = number_of r.1 ∷ result_of r.1 ∷ d.answers }) (rest r.0))
    by false e rest =
        ap then (command-refused (command_at trace at) w e)
        ∙ simp e (ap (λ (d : After). record { words = d.words; scratch = d.scratch; header = d.header; answers = COMMAND ∷ 0 ∷ d.answers }) (rest w))
