-- Demand 3: a fresh arena over any words, changed only by calls of document 01 in any order, refusals included, with no clear or load and
-- scratch for the capacity (commands and batches are such calls: Batches). Five sentences of the user, each a statement that our program meets.
use Rattle.std.specs.Prelude.{◌≡◌, ◌↔◌, List, ℕ, ◌*◌, ◌≤◌, length}
use Rattle.link.specs.Words.{capacity_of}
use Rattle.rules.specs.Answers.{DONE, FULL, reply}
use Rattle.rules.specs.Lists.{NoDup}
use Rattle.rules.specs.Sound.{Ready}
use Rattle.command.specs.declared.call.Change.{Change}
use Rattle.history.specs.Calls.{Memory, fresh, Call, change, get, replies, number_of, Program, called}
use Rattle.history.specs.History.{Event, after, history, Since, FoundIn, handed, HandsOut, Takes, Stores, NoneLeft, Acceptable}
use Rattle.history.specs.Walked.{walked_all, occurs}
use Rattle.history.proofs.Run.{good}
use Rattle.history.proofs.Full.{creation_exactly}
use Rattle.history.specs.Numbers.{get_exactly}
use Rattle.history.proofs.RootChains.{walked_once, walked-never}

-- A statement on a program, the memory now and what happened; met where it holds after any calls. Any list of calls is the beginning of a
-- longer one, and what happened in it does not depend on what comes later (history: EventLaws `history-then`).
abbrev pub Statement : Type 1
Statement = Program → Memory → List Event → Type 0

abbrev pub Meets : Program → Statement → Type 0
Meets p Says =
    (words scratch : List ℕ) → 2 * capacity_of (length words) ≤ length scratch → (calls : List Call)
    → Says p (after p (fresh words scratch) calls) (history p (fresh words scratch) calls)

-- "No two creations hand out the same identifier."
-- Excluded: one identifier for all; a reused slot with the stamp that it had before.
abbrev pub NeverTwice : Statement
NeverTwice p now happened = NoDup (handed happened)

-- "An identifier is found exactly from its creation until the removal that 01's rules say takes it."
-- Excluded: memory untouched; a node lost by a move or by another's removal; a descendant of a removed subtree that is still found.
abbrev pub FoundExactly : Statement
FoundExactly p now happened = (x : ℕ) → FoundIn now x ↔ Since (HandsOut x) (λ e. Takes x e → ⊥) happened

-- "While found, it carries the number last stored": get answers n exactly when n is what its creation or an accepted set stored last.
-- Excluded: a set that is answered and not done; a number lost when a neighbour is removed.
abbrev pub NumberLastStored : Statement
NumberLastStored p now happened =
    (x : ℕ) → FoundIn now x → (n : ℕ)
    → ((p (get x) now).1 ≡ replies (reply DONE n)) ↔ Since (Stores x n) (λ e. (k : ℕ) → Stores x k e → ⊥) happened

-- "and is met exactly once by walking all root chains". What is not found is never met.
-- Excluded: a node that no root leads to; a moved node that its old chain still has.
abbrev pub MetOnce : Statement
MetOnce p now happened =
    (x : ℕ) → (FoundIn now x → occurs x (walked_all now) ≡ 1) × ((FoundIn now x → ⊥) → occurs x (walked_all now) ≡ 0)

-- "A creation, otherwise acceptable, is refused for want of a slot exactly when each slot is live or was handed out 32,768 times and
-- removed." Else it is done. Excluded: refusing everything; FULL while a removed slot can be reused.
abbrev pub FullExactly : Statement
FullExactly p now happened =
    (c : Change) (a b : ℕ) → Acceptable now c a
    → ((number_of (p (change c a b) now).1 ≡ FULL) ↔ NoneLeft now happened)
    × ((number_of (p (change c a b) now).1 ≡ DONE) ↔ (NoneLeft now happened → ⊥))

-- Beside them: memory is ready after any calls, within its capacity, with scratch for all of it; so no call is refused for these.
abbrev pub StaysReady : Statement
StaysReady p now happened =
    Ready now.words now.header × (now.header.used ≤ capacity_of (length now.words))
    × (2 * capacity_of (length now.words) ≤ length now.scratch)

-- ---- our program

pub never-twice : Meets called NeverTwice
never-twice words scratch enough calls = (good words scratch enough calls).once

pub found_exactly : Meets called FoundExactly
found_exactly words scratch enough calls = (good words scratch enough calls).found

pub number-last-stored : Meets called NumberLastStored
number-last-stored words scratch enough calls = get_exactly (length words) _ _ (good words scratch enough calls)

pub met-once : Meets called MetOnce
met-once words scratch enough calls x =
    let sound = (good words scratch enough calls).fine.ready.sound in (walked_once _ _ sound x, walked-never _ _ sound x)

pub full_exactly : Meets called FullExactly
full_exactly words scratch enough calls = creation_exactly (length words) _ _ (good words scratch enough calls)

pub stays-ready : Meets called StaysReady
stays-ready words scratch enough calls = let F = (good words scratch enough calls).fine in (F.ready, F.fits, F.room)

-- The words lent stay as many, and so does the capacity.
pub same_length : (words scratch : List ℕ) → 2 * capacity_of (length words) ≤ length scratch → (calls : List Call)
    → length (after called (fresh words scratch) calls).words ≡ length words
same_length words scratch enough calls = (good words scratch enough calls).long
