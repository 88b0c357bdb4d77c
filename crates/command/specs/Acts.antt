-- What a command does on ready memory, and what comes of starting one where memory is not known to be ready.
-- No promise to the user: only what a batch goes by from one command to the next.
use Rattle.std.specs.Prelude.{◌≡◌, Bool, true, false, List, ℕ, Some, None, Result, Ok, Err}
use Rattle.link.specs.declared.header.Header.{Header}
use Rattle.rules.specs.Answers.{DONE, reply, answer, refusal_no}
use Rattle.rules.specs.declared.answer.Answer.{Answer}
use Rattle.rules.specs.declared.answer.Reply.{Reply}
use Rattle.rules.specs.declared.answer.Refusal.{Refusal}
use Rattle.arena.specs.Reads.{read_word, set_number}
use Rattle.arena.specs.Census.{census_of}
use Rattle.lists.specs.Listing.{counted}
use Rattle.command.specs.Commands.{Outcome, changed, keeping}
use Rattle.command.specs.Known.{ready, gate, Knows, Gated, Did}
use Rattle.command.specs.declared.call.Call.{Call}
use Rattle.command.specs.declared.call.Call.TheVariants.{Make, Read, Set, LiveCount, DescendantCount, Validate}
use Rattle.command.specs.declared.known.Known.{Known}
use Rattle.command.specs.declared.start.Begun.{Begun}
use Rattle.command.specs.declared.act.Acted.{Acted}

-- What a call does on ready memory that fits: words and answer.
abbrev pub acted : Call → ℕ → ℕ → List ℕ → Header → List ℕ × Answer
acted (Make change) a b m h = changed change a b m h
acted (Read k) a b m h = (m, keeping h (read_word k m h a))
acted Set a b m h = let w = set_number m h a b in (w.0, keeping h w.1)
acted LiveCount a b m h = (m, answer h DONE (census_of m h).live)
acted DescendantCount a b m h = (m, keeping h (counted m h.used a))
acted Validate a b m h = (m, answer h DONE 1)

-- A read or a set: they need neither scratch nor ready memory.
abbrev pub free_b : Call → Bool
free_b (Make change) = false
free_b (Read k) = true
free_b Set = true
free_b LiveCount = false
free_b DescendantCount = false
free_b Validate = false

abbrev pub acts : Answer → ℕ → Acted
acts answer clean = record { answer = answer; clean = clean }

-- What the guard said on ready memory, and how many scratch words are known to be zero then: where it refuses, as many as before.
abbrev pub said : Result ℕ Refusal → Result Unit Refusal
said (Ok _) = Ok tt
said (Err refused) = Err refused

abbrev pub zeros_after : Result ℕ Refusal → ℕ → ℕ
zeros_after (Ok clean) before = clean
zeros_after (Err refused) before = before

abbrev pub replies : Reply → Known → Begun
replies reply known = record { reply = Some reply; known = known }

abbrev pub readies : Known → Begun
readies known = record { reply = None; known = known }

-- After the guard of a command that needs ready memory: refused by it, or let through.
pub record Enters (m : List ℕ) (h : Header) (s s' : List ℕ) (r : Begun) : Type 0 where
  pub answered : (x : Reply) → r.reply ≡ Some x
      → (refused : Refusal) × Gated m h s s' (gate (Err refused) r.known) × (x ≡ reply (refusal_no refused) 0)
  pub readied : r.reply ≡ None → Gated m h s s' (gate (Ok tt) (ready r.known.clean))

-- After the start of a command: its outcome; or memory is ready, and doing it now has the outcome that it had before.
pub record Starts (outcome : List ℕ → Header → List ℕ → Outcome) (m : List ℕ) (h : Header) (s m' s' : List ℕ) (r : Begun) : Type 0 where
  pub answered : (x : Reply) → r.reply ≡ Some x → Did (outcome m h s) m' s' (keeping h x) r.known
  pub readied : r.reply ≡ None → (m' ≡ m) × (outcome m h s' ≡ outcome m h s) × Knows m h s' (ready r.known.clean)

-- After the guard on ready memory: none where a command is free of it. Of `clean` scratch words known to be zero, so many are known then.
pub record Roomed (exempt : Bool) (m : List ℕ) (h : Header) (s s' : List ℕ) (clean : ℕ) (r : Result ℕ Refusal) : Type 0 where
  pub free : exempt ≡ true → (r ≡ Ok clean) × (s' ≡ s)
  pub asked : exempt ≡ false → Gated m h s s' (gate (said r) (ready (zeros_after r clean)))
  pub knows : Knows m h s' (ready (zeros_after r clean))
