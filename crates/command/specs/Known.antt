-- What it is for a batch's memory of the memory to be right. It is no promise to the user: only what the batch carries along.
use Rattle.std.specs.Prelude.{◌≡◌, Bool, true, false, cond, List, ℕ, ◌*◌, ◌≤◌, leb, length, Option, Some, None, Result, is_some, unwrap_or}
use Rattle.link.specs.Words.{capacity_of}
use Rattle.link.specs.declared.header.Header.{Header}
use Rattle.rules.specs.Answers.{number_in}
use Rattle.rules.specs.declared.answer.Answer.{Answer}
use Rattle.rules.specs.declared.answer.Refusal.{Refusal}
use Rattle.examine.specs.Scratch.{zeroed}
use Rattle.examine.specs.Verdicts.{ready_b}
use Rattle.examine.specs.Examination.{examined}
use Rattle.examine.specs.declared.chain.Verdict.{Verdict}
use Rattle.examine.specs.declared.chain.Verdict.TheVariants.{Unsound, Ready}
use Rattle.sound.specs.Guard.{scratch_after, guard_no}
use Rattle.command.specs.Commands.{Outcome}
use Rattle.command.specs.declared.known.Known.{Known}
use Rattle.command.specs.declared.start.Gate.{Gate}

-- Whether it has looked, and the verdict then; where it has not, what stands for one is not read.
abbrev pub looked : Known → Bool
looked k = is_some k.verdict

abbrev pub verdict_in : Known → Verdict
verdict_in k = unwrap_or k.verdict Unsound

-- Where it has looked, the slots in use fit the memory, and the verdict is the memory's; and the first `clean` scratch words are zero.
pub record Knows (m : List ℕ) (h : Header) (scratch : List ℕ) (k : Known) : Type 0 where
  pub frame : looked k ≡ true → h.used ≤ capacity_of (length m)
  pub verdict : looked k ≡ true → verdict_in k ≡ examined m h
  pub zeros : zeroed k.clean scratch ≡ scratch
  pub fits : k.clean ≤ length scratch

-- After a look, and memory known to be ready, with `clean` scratch words known to be zero.
abbrev pub seen : Verdict → ℕ → Known
seen verdict clean = record { verdict = Some verdict; clean = clean }

abbrev pub ready : ℕ → Known
ready = seen Ready

unfoldable pub known_ready : Known → Bool
known_ready k = cond (looked k) (ready_b (verdict_in k)) false

-- A look finds nothing to do.
unfoldable pub settled : Known → ℕ → Bool
settled k used = cond (looked k) (leb (2 * used) k.clean) false

-- The verdict then.
unfoldable pub settled_to : Known → ℕ → Option Verdict
settled_to k used = cond (leb (2 * used) k.clean) k.verdict None

-- The first n words are zero now, and `clean` of them are known to be.
pub record Cleaned (n : ℕ) (before after : List ℕ) (clean : ℕ) : Type 0 where
  pub zero : after ≡ zeroed n before
  pub zeros : zeroed clean after ≡ after
  pub fits : clean ≤ length after

-- After a look: the scratch as an examination leaves it, and what is known.
pub record Looked (m : List ℕ) (h : Header) (before after : List ℕ) (k : Known) : Type 0 where
  pub zero : after ≡ zeroed (2 * h.used) before
  pub looked : looked k ≡ true
  pub knows : Knows m h after k

abbrev pub gate : Result Unit Refusal → Known → Gate
gate said known = record { said = said; known = known }

-- After the guard: scratch and number as the guard leaves them, and what is known.
pub record Gated (m : List ℕ) (h : Header) (before after : List ℕ) (g : Gate) : Type 0 where
  pub scratch : after ≡ scratch_after m h before
  pub number : number_in g.said ≡ guard_no m h (length before)
  pub knows : Knows m h after g.known

-- After a command: the outcome, and what is known of the memory with the header answered.
pub record Did (outcome : Outcome) (m s : List ℕ) (a : Answer) (k : Known) : Type 0 where
  pub same : (m, s, a) ≡ outcome
  pub knows : Knows m a.header s k
