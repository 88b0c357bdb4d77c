-- Demand 1 in definitions: the numbers that each call may answer, what is left and answered where it is refused, what is left of the scratch.
-- Excluded: a number of another call; a refusal that writes a node, a header or a place of a list; scratch that a call may leave as it likes.
use Rattle.std.specs.Prelude.{◌≡◌, cond, ◌||◌, List, [], ◌∷◌, ℕ, ◌*◌, ◌/◌, eqb, length}
use Rattle.link.specs.Words.{width}
use Rattle.link.specs.declared.header.Header.{Header}
use Rattle.rules.specs.Answers.{DONE, FRAME, SCRATCH, INVALID, REMOVED, SELF, ANCESTOR, FULL, ROOM, COMMAND, PART, MARK, VERSION, LENGTH, reply, answer}
use Rattle.rules.specs.Lists.{In}
use Rattle.examine.specs.Scratch.{zeroed}
use Rattle.sound.specs.Guard.{scratch_after, guard_no}
use Rattle.arena.specs.Reads.{cleared}
use Rattle.arena.specs.Census.{counted, no_census}
use Rattle.walk.specs.Written.{written}
use Rattle.walk.specs.Walks.{standing}
use Rattle.walk.specs.declared.edge.Step.TheVariants.{Over}
use Rattle.image.specs.Image.{used_in}
use Rattle.command.specs.declared.call.Change.{Change}
use Rattle.command.specs.declared.call.Change.TheVariants.{New, Move, Detach, DetachChildren, Remove, RemoveSubtree, RemoveChildren, Value}
use Rattle.command.specs.Calls.{call_of}
use Rattle.batch.specs.Trace.{size}
use Rattle.history.specs.Calls.{Memory, called, Call, change, set, read, Reading, single, validate, census, counts_live, counts_descendants, list, levels, compare, compare_with, compare_from, start, walk, save, Told, answers, replies, counts, starts, walks, writes, number_of}
use Rattle.history.specs.History.{after}
use Rattle.demands.specs.Batches.{call_by, acceptable_b, calls_in}
use Rattle.first_demands.specs.Every.{Every, one, clear, load, command, batch, list_of, Program}

-- ---- the numbers of the table that a call may answer

-- Of what needs ready memory, and these.
abbrev pub guards : List ℕ → List ℕ
guards more = DONE ∷ FRAME ∷ SCRATCH ∷ INVALID ∷ more

-- What the work of a change refuses.
abbrev pub refusals_of : Change → List ℕ
refusals_of New = FULL ∷ []
refusals_of (Move place) = SELF ∷ REMOVED ∷ ANCESTOR ∷ []
refusals_of Detach = REMOVED ∷ []
refusals_of DetachChildren = REMOVED ∷ []
refusals_of Remove = REMOVED ∷ []
refusals_of RemoveSubtree = REMOVED ∷ []
refusals_of RemoveChildren = REMOVED ∷ []
refusals_of (Value place) = REMOVED ∷ FULL ∷ []

abbrev pub numbers_of_change : Change → List ℕ
numbers_of_change c = guards (refusals_of c)

abbrev pub numbers_of_reading : Reading → List ℕ
numbers_of_reading (single k x) = DONE ∷ FRAME ∷ REMOVED ∷ []
numbers_of_reading validate = DONE ∷ FRAME ∷ SCRATCH ∷ []
numbers_of_reading census = guards []
numbers_of_reading counts_live = guards []
numbers_of_reading (counts_descendants x) = guards (REMOVED ∷ [])
numbers_of_reading (list order x places) = guards (REMOVED ∷ ROOM ∷ [])
numbers_of_reading (levels x places) = guards (REMOVED ∷ ROOM ∷ [])
numbers_of_reading (compare x y) = guards (REMOVED ∷ [])
numbers_of_reading (compare_with x m h y) = guards (REMOVED ∷ [])
numbers_of_reading (compare_from m h x y) = guards (REMOVED ∷ [])
numbers_of_reading (start x) = DONE ∷ FRAME ∷ REMOVED ∷ []
numbers_of_reading (walk from k places) = DONE ∷ FRAME ∷ ROOM ∷ []
numbers_of_reading (save bytes) = guards (ROOM ∷ [])

abbrev pub numbers_of_call : Call → List ℕ
numbers_of_call (change c a b) = numbers_of_change c
numbers_of_call (set x n) = DONE ∷ FRAME ∷ REMOVED ∷ []
numbers_of_call (read c) = numbers_of_reading c

abbrev pub numbers_of : Every → List ℕ
numbers_of (one c) = numbers_of_call c
numbers_of clear = DONE ∷ []
numbers_of (load bytes) = DONE ∷ LENGTH ∷ MARK ∷ VERSION ∷ ROOM ∷ SCRATCH ∷ INVALID ∷ []
numbers_of (command c) = guards (SELF ∷ REMOVED ∷ ANCESTOR ∷ FULL ∷ COMMAND ∷ [])
numbers_of (batch trace places) = DONE ∷ ROOM ∷ []

-- "Every call ends with an answer from 01's table."
abbrev pub Answers : Program → Every → Memory → Type 0
Answers p c w = In (number_of (p c w).1) (numbers_of c)

-- A list two by two, each pair so.
abbrev pub Pairs : (ℕ → ℕ → Type 0) → List ℕ → Type 0
Pairs P [] = Unit {0}
Pairs P (n ∷ []) = ⊥
Pairs P (n ∷ r ∷ xs) = P n r × Pairs P xs

-- An answer of a batch: a command's number or PART, and 0 where it is not DONE.
abbrev pub Tabled : ℕ → ℕ → Type 0
Tabled n r = In n (guards (SELF ∷ REMOVED ∷ ANCESTOR ∷ FULL ∷ COMMAND ∷ PART ∷ [])) × ((n ≡ DONE → ⊥) → r ≡ 0)

-- The answers that a batch writes, two words each, from the first place on; of those that are there already nothing is said.
abbrev pub BatchAnswers : Program → List ℕ → List ℕ → Memory → Type 0
BatchAnswers p trace places w =
    let r = (p (batch trace places) w).1 in
    number_of r ≡ DONE → (xs : List ℕ) × (list_of r ≡ written xs places) × Pairs Tabled xs

-- ---- a refusal

-- Answered: the number, 0 for a result, four zeros for a census; a list as it was lent, a walk where it stood, and over where it never began.
abbrev pub reading_refused : Reading → ℕ → Told
reading_refused (single k x) n = replies (reply n 0)
reading_refused validate n = replies (reply n 0)
reading_refused census n = counts (counted n no_census)
reading_refused counts_live n = replies (reply n 0)
reading_refused (counts_descendants x) n = replies (reply n 0)
reading_refused (list order x places) n = writes places (reply n 0)
reading_refused (levels x places) n = writes places (reply n 0)
reading_refused (compare x y) n = replies (reply n 0)
reading_refused (compare_with x m h y) n = replies (reply n 0)
reading_refused (compare_from m h x y) n = replies (reply n 0)
reading_refused (start x) n = starts (record { number = n; walk = standing x Over })
reading_refused (walk from k places) n = walks places (record { number = n; result = 0; walk = from })
reading_refused (save bytes) n = writes bytes (reply n 0)

abbrev pub call_refused : Call → Header → ℕ → Told
call_refused (change c a b) h n = answers (answer h n 0)
call_refused (set x k) h n = replies (reply n 0)
call_refused (read c) h n = reading_refused c n

-- The header answered by a refused load is all zero.
abbrev pub told_refused : Every → Header → ℕ → Told
told_refused (one c) h n = call_refused c h n
told_refused clear h n = answers (answer h n 0)
told_refused (load bytes) h n = answers (answer cleared n 0)
told_refused (command c) h n = answers (answer h n 0)
told_refused (batch trace places) h n = writes places (reply n 0)

-- The words: all as before; of a load refused INVALID, the first 7 × used are zero, used as the image has it.
abbrev pub words_refused : Every → List ℕ → ℕ → List ℕ
words_refused (one c) m n = m
words_refused clear m n = m
words_refused (load bytes) m n = cond (eqb n INVALID) (zeroed (width * used_in bytes) m) m
words_refused (command c) m n = m
words_refused (batch trace places) m n = m

-- The header: as before; of a load, all zero.
abbrev pub header_refused : Every → Header → Header
header_refused (one c) h = h
header_refused clear h = h
header_refused (load bytes) h = cleared
header_refused (command c) h = h
header_refused (batch trace places) h = h

-- "A refusal changes no node and no output list; 01 names what a refused load and the scratch memory hold."
-- Where the number is not DONE it alone says what is left and answered, but for the scratch.
abbrev pub RefusalKeeps : Program → Every → Memory → Type 0
RefusalKeeps p c w =
    let r = p c w in
    let n = number_of r.1 in
    (n ≡ DONE → ⊥)
    → (r.0.words ≡ words_refused c w.words n) × (r.0.header ≡ header_refused c w.header) × (r.1 ≡ told_refused c w.header n)

-- ---- the scratch, refused or not

-- Of two memories one after the other: the second is examined only where the first gives no refusal.
abbrev pub scratch_after_both : List ℕ → Header → List ℕ → Header → List ℕ → List ℕ
scratch_after_both m h m' h' s =
    cond (eqb (guard_no m h (length s)) DONE) (scratch_after m' h' (scratch_after m h s)) (scratch_after m h s)

-- `scratch_after`: where soundness is examined, past FRAME and SCRATCH, the first 2 × used words are zero; else it is untouched.
abbrev pub scratch_of_reading : Reading → List ℕ → Header → List ℕ → List ℕ
scratch_of_reading (single k x) m h s = s
scratch_of_reading validate m h s = scratch_after m h s
scratch_of_reading census m h s = scratch_after m h s
scratch_of_reading counts_live m h s = scratch_after m h s
scratch_of_reading (counts_descendants x) m h s = scratch_after m h s
scratch_of_reading (list order x places) m h s = scratch_after m h s
scratch_of_reading (levels x places) m h s = scratch_after m h s
scratch_of_reading (compare x y) m h s = scratch_after_both m h m h s
scratch_of_reading (compare_with x m' h' y) m h s = scratch_after_both m h m' h' s
scratch_of_reading (compare_from m' h' x y) m h s = scratch_after_both m' h' m h s
scratch_of_reading (start x) m h s = s
scratch_of_reading (walk from k places) m h s = s
scratch_of_reading (save bytes) m h s = scratch_after m h s

abbrev pub scratch_of : Call → List ℕ → Header → List ℕ → List ℕ
scratch_of (change c a b) m h s = scratch_after m h s
scratch_of (set x n) m h s = s
scratch_of (read c) m h s = scratch_of_reading c m h s

-- Load examines the image's words, past its other tests. A command is its call, or refused COMMAND. In a batch this holds for each command in turn.
abbrev pub scratch_then : Program → Every → Memory → List ℕ
scratch_then p (one c) w = scratch_of c w.words w.header w.scratch
scratch_then p clear w = w.scratch
scratch_then p (load bytes) w =
    let n = number_of (p (load bytes) w).1 in
    cond (eqb n DONE || eqb n INVALID) (zeroed (2 * used_in bytes) w.scratch) w.scratch
scratch_then p (command c) w = cond (acceptable_b c) (scratch_of (call_by (call_of c.code) c.a c.b) w.words w.header w.scratch) w.scratch
scratch_then p (batch trace places) w =
    cond (eqb (number_of (p (batch trace places) w).1) DONE) (after called w (calls_in (length trace / size) trace 0)).scratch w.scratch

-- "Where soundness was examined, the first 2 × used scratch words are then zero, used as before the call (in load, the image's); else scratch is
-- untouched."
abbrev pub ScratchHolds : Program → Every → Memory → Type 0
ScratchHolds p c w = (p c w).0.scratch ≡ scratch_then p c w
