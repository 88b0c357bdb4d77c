-- The census: how many slots are live, free, spent and fresh, each counted by its own definition.
-- Excluded: a free count that is the length of the free chain; a live count of all slots in use.
use Rattle.std.specs.Prelude.{Bool, cond, ◌&&◌, List, ◌-◌, ℕ, zero, suc, ◌+◌, eqb, leb, length, Result, Ok, Err}
use Rattle.link.specs.Ids.{stamp_of}
use Rattle.link.specs.Words.{STAMP, capacity_of, word}
use Rattle.link.specs.declared.header.Header.{Header}
use Rattle.rules.specs.Answers.{DONE, reply, refusal_no}
use Rattle.rules.specs.declared.answer.Refusal.{Refusal}
use Rattle.rules.specs.declared.answer.Reply.{Reply}
use Rattle.sound.specs.Guard.{scratch_after, guard_no, guarded_read}
use Rattle.arena.specs.declared.census.Census.{Census}

abbrev pub one_if : Bool → ℕ
one_if b = cond b 1 0

-- How many of the slots 1 to n are such.
unfoldable pub slots_that : (ℕ → Bool) → ℕ → ℕ
slots_that is zero = 0
slots_that is (suc n) = one_if (is (suc n)) + slots_that is n

abbrev pub between : ℕ → ℕ → ℕ → Bool
between low high bits = leb low bits && leb bits high

-- The 16 bits of the slot's stamp lie from low to high.
abbrev pub stamp_in : ℕ → ℕ → List ℕ → ℕ → Bool
stamp_in low high m s = between low high (stamp_of (word m s STAMP))

-- Live: the stamp is not negative, 0 to 32,767.
abbrev pub live_b : List ℕ → ℕ → Bool
live_b = stamp_in 0 32767

-- Free: removed with a stamp above −32,768, that is −32,767 to −1.
abbrev pub free_b : List ℕ → ℕ → Bool
free_b = stamp_in 32769 65535

-- Spent: the stamp is −32,768.
abbrev pub spent_b : List ℕ → ℕ → Bool
spent_b = stamp_in 32768 32768

-- Fresh are the slots beyond used.
unfoldable pub census_of : List ℕ → Header → Census
census_of m h = record {
  live = slots_that (live_b m) h.used;
  free = slots_that (free_b m) h.used;
  spent = slots_that (spent_b m) h.used;
  fresh = capacity_of (length m) - h.used;
}

-- The number, and the census; a refusal gives four zeros.
pub record Counted : Type 0 where
  pub number : ℕ
  pub census : Census

abbrev pub counted : ℕ → Census → Counted
counted number census = record { number = number; census = census }

abbrev pub no_census : Census
no_census = record { live = 0; free = 0; spent = 0; fresh = 0 }

abbrev pub counted_of : Result Census Refusal → Counted
counted_of (Ok census) = counted DONE census
counted_of (Err refused) = counted (refusal_no refused) no_census

unfoldable pub census_call : List ℕ → Header → List ℕ → List ℕ × Counted
census_call m h scratch =
    let no = guard_no m h (length scratch) in
    (scratch_after m h scratch, cond (eqb no DONE) (counted DONE (census_of m h)) (counted no no_census))

-- The live count is the census's first number.
unfoldable pub live_call : List ℕ → Header → List ℕ → List ℕ × Reply
live_call m h scratch = guarded_read m h scratch (reply DONE (census_of m h).live)
