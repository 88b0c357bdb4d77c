-- The numbers answered, by document 01's names, and its order of tests, written once for all calls.
-- Excluded: REMOVED answered where two equal identifiers are given to a move; FULL before REMOVED in a value form.
use Rattle.std.specs.Prelude.{Bool, cond, ℕ, Result, Ok, Err}
use Rattle.link.specs.declared.header.Header.{Header}
use Rattle.rules.specs.declared.answer.Refusal.{Refusal}
use Rattle.rules.specs.declared.answer.Refusal.TheVariants as Is
use Rattle.rules.specs.declared.answer.Created.{Created}
use Rattle.rules.specs.declared.answer.Reply.{Reply}
use Rattle.rules.specs.declared.answer.Answer.{Answer}

-- accepted
abbrev pub DONE : ℕ
DONE = 0

-- used exceeds capacity
abbrev pub FRAME : ℕ
FRAME = 1

-- scratch under 2 × used words
abbrev pub SCRATCH : ℕ
SCRATCH = 2

-- memory not ready (in load: not sound)
abbrev pub INVALID : ℕ
INVALID = 3

-- a named identifier is not found
abbrev pub REMOVED : ℕ
REMOVED = 4

-- a move's two identifiers are equal
abbrev pub SELF : ℕ
SELF = 5

-- the node to move is an ancestor of the target
abbrev pub ANCESTOR : ℕ
ANCESTOR = 6

-- creation, free chain empty and used = capacity
abbrev pub FULL : ℕ
FULL = 7

-- an output or destination is too short
abbrev pub ROOM : ℕ
ROOM = 8

-- unknown code, or an unused byte or argument not zero
abbrev pub COMMAND : ℕ
COMMAND = 9

-- 1 to 11 bytes left at the end of a trace
abbrev pub PART : ℕ
PART = 10

-- image mark is not LFT
abbrev pub MARK : ℕ
MARK = 11

-- image version is not 1
abbrev pub VERSION : ℕ
VERSION = 12

-- image under 11 bytes or not 11 + 28 × used
abbrev pub LENGTH : ℕ
LENGTH = 13

-- Order of tests: FRAME, SCRATCH, INVALID, SELF, REMOVED, ANCESTOR, FULL, ROOM, of those that apply; false where one does not.
unfoldable pub refusal : Bool → Bool → Bool → Bool → Bool → Bool → Bool → Bool → ℕ
refusal frame scratch invalid self removed ancestor full room =
    cond frame FRAME
    (cond scratch SCRATCH
    (cond invalid INVALID
    (cond self SELF
    (cond removed REMOVED
    (cond ancestor ANCESTOR
    (cond full FULL
    (cond room ROOM
    DONE)))))))

-- A number with its result, and with the header.
abbrev pub reply : ℕ → ℕ → Reply
reply n r = record { number = n; result = r }

abbrev pub answer : Header → ℕ → ℕ → Answer
answer h n r = record { header = h; number = n; result = r }

abbrev pub header : ℕ → ℕ → ℕ → Header
header used first last = record { used = used; first = first; last = last }

-- The number of each refusal.
abbrev pub refusal_no : Refusal → ℕ
refusal_no Is.Frame = FRAME
refusal_no Is.Scratch = SCRATCH
refusal_no Is.Invalid = INVALID
refusal_no Is.Removed = REMOVED
refusal_no Is.SelfMove = SELF
refusal_no Is.Ancestor = ANCESTOR
refusal_no Is.Full = FULL
refusal_no Is.Room = ROOM
refusal_no Is.Command = COMMAND
refusal_no Is.Part = PART
refusal_no Is.Mark = MARK
refusal_no Is.Version = VERSION
refusal_no Is.Length = LENGTH

-- What is handed back, in numbers: DONE with what the value counts as, or the refusal's number with 0.
abbrev pub reply_by : {A : Type 0} → (A → ℕ) → Result A Refusal → Reply
reply_by value (Ok x) = reply DONE (value x)
reply_by value (Err refused) = reply (refusal_no refused) 0

-- A number; nothing but done; yes or no.
abbrev pub reply_of : Result ℕ Refusal → Reply
reply_of = reply_by (λ n. n)

abbrev pub reply_done : Result Unit Refusal → Reply
reply_done = reply_by (λ _. 0)

abbrev pub reply_yes : Result Bool Refusal → Reply
reply_yes = reply_by (λ b. cond b 1 0)

-- The number alone, where there is no result.
abbrev pub number_in : Result Unit Refusal → ℕ
number_in (Ok _) = DONE
number_in (Err refused) = refusal_no refused

-- The same with the header: what is done leaves one, of the one that came in; a refusal leaves that one.
abbrev pub answer_by : {A : Type 0} → (Header → A → Header) → (A → ℕ) → Header → Result A Refusal → Answer
answer_by after value h (Ok x) = answer (after h x) DONE (value x)
answer_by after value h (Err refused) = answer h (refusal_no refused) 0

-- A change that keeps the header; one that answers the header after it; a creation, which answers the identifier too.
abbrev pub answer_kept : Header → Result Unit Refusal → Answer
answer_kept = answer_by (λ h _. h) (λ _. 0)

abbrev pub answer_changed : Header → Result Header Refusal → Answer
answer_changed = answer_by (λ _ after. after) (λ _. 0)

abbrev pub answer_created : Header → Result Created Refusal → Answer
answer_created = answer_by (λ _ (c : Created). c.header) (λ (c : Created). c.id)
