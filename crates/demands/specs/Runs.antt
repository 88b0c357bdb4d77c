-- Three short runs of our program, call by call, on small arenas: what wrong programs are held against.
use Rattle.std.specs.Prelude.{◌≡◌, refl, List, [], ◌∷◌, ℕ, ◌*◌, ◌≤◌, length, replicate}
use Rattle.std.proofs.Common.{ap, ◌∙◌, subst, arith}
use Rattle.link.specs.Words.{capacity_of, word, set_word, link, set_link}
use Rattle.link.specs.Found.{found_b}
use Rattle.link.specs.Relations.{first_after, last_after, connect_neighbors}
use Rattle.link.specs.Siblings.{detach_range, rewrite_parents, transplanted, insert_with_neighbors, insert_last}
use Rattle.link.specs.declared.header.Header.{Header}
use Rattle.rules.specs.Answers.{DONE, refusal, answer, header}
use Rattle.rules.specs.declared.answer.Answer.{Answer}
use Rattle.sound.specs.Guard.{scratch_after}
use Rattle.arena.specs.Nodes.{slot_at}
use Rattle.arena.specs.FreeList.{last_left, pop_front, join_last, free_node}
use Rattle.arena.specs.Create.{full_b, fresh, reused, new_node}
use Rattle.moves.specs.Values.{value_no, value_node}
use Rattle.moves.specs.declared.place.Place.TheVariants.{Append}
use Rattle.removal.specs.Remove.{when_found, detached, hoisted, removed, remove_node}
use Rattle.command.specs.Commands.{changed}
use Rattle.command.specs.declared.call.Change.{Change}
use Rattle.command.specs.declared.call.Change.TheVariants.{New, Remove, Value}
use Rattle.history.specs.Calls.{Memory, memory, Call, change, Told, answers, Program, called}
use Rattle.history.specs.History.{Event, after, history}
use Rattle.history.specs.Steps.{Fine}
use Rattle.history.proofs.ChangeSteps.{passes}
use Rattle.history.proofs.Run.{step, good}
use Rattle.history.specs.Calls as arena

-- ---- a program's run, call by call

-- A call, and what a program makes of it.
pub record Turn : Type 0 where
  pub call : Call
  pub left : Memory × Told

abbrev pub turn : Call → Memory × Told → Turn
turn c r = record { call = c; left = r }

-- From memory w the program goes just so.
abbrev pub Goes : Program → Memory → List Turn → Type 0
Goes p w [] = Unit {0}
Goes p w (t ∷ ts) = (p t.call w ≡ t.left) × Goes p t.left.0 ts

abbrev pub calls_of : List Turn → List Call
calls_of [] = []
calls_of (t ∷ ts) = t.call ∷ calls_of ts

abbrev pub end_of : Memory → List Turn → Memory
end_of w [] = w
end_of w (t ∷ ts) = end_of t.left.0 ts

abbrev pub events_of : Memory → List Turn → List Event
events_of w [] = []
events_of w (t ∷ ts) = record { before = w; call = t.call; told = t.left.1 } ∷ events_of t.left.0 ts

pub on-run : (p : Program) (Holds : Memory → List Event → Type 0) (w : Memory) (ts : List Turn) → Goes p w ts
    → Holds (after p w (calls_of ts)) (history p w (calls_of ts)) → Holds (end_of w ts) (events_of w ts)
on-run p Holds w [] g k = k
on-run p Holds w (t ∷ ts) g k =
    on-run p (λ m es. Holds m (record { before = w; call = t.call; told = t.left.1 } ∷ es)) t.left.0 ts g.1
    (subst (λ (q : Memory × Told). Holds (after p q.0 (calls_of ts)) (record { before = w; call = t.call; told = q.1 } ∷ history p q.0 (calls_of ts)))
    g.0 k)

-- ---- ours, on memory as calls leave it: a change does its work

abbrev pub leaves : Memory → List ℕ → Header → ℕ → Memory × Told
leaves w m h r = (memory m h (scratch_after w.words w.header w.scratch), answers (answer h DONE r))

module _ (w : Memory) (F : Fine w) (c : Change) (a b : ℕ) (m : List ℕ) (h : Header) (r : ℕ)
    (does : changed c a b w.words w.header ≡ (m, answer h DONE r)) where
  pub comes_to : called (change c a b) w ≡ leaves w m h r
  comes_to =
      ap (λ (q : List ℕ × List ℕ × Answer). (memory q.0 q.2.header q.1, answers q.2))
      (passes w F (changed c a b w.words w.header) ∙ ap (λ (q : List ℕ × Answer). (q.0, scratch_after w.words w.header w.scratch, q.1)) does)

  pub fine-left : Fine (leaves w m h r).0
  fine-left = subst (λ (q : Memory × Told). Fine q.0) comes_to (step w F (change c a b)).fine

-- ---- one slot: new 5, which is removed, new 6

abbrev pub one : List ℕ
one = replicate 7 9

abbrev pub spare : List ℕ
spare = replicate 2 9

pub one-slot : capacity_of (length one) ≡ 1
unfolding capacity_of
one-slot = refl

pub one-fits : 2 * capacity_of (length one) ≤ length spare
one-fits = let e = one-slot in omega arith

abbrev five : List ℕ
five = 0 ∷ 5 ∷ 0 ∷ 0 ∷ 0 ∷ 0 ∷ 0 ∷ []

abbrev gone : List ℕ
gone = 131071 ∷ 0 ∷ 0 ∷ 0 ∷ 0 ∷ 0 ∷ 0 ∷ []

abbrev six : List ℕ
six = 1 ∷ 6 ∷ 0 ∷ 0 ∷ 0 ∷ 0 ∷ 0 ∷ []

new-five : changed New 5 0 one (header 0 0 0) ≡ (five, answer (header 1 0 0) DONE 65536)
unfolding new_node refusal full_b fresh slot_at word set_word capacity_of
new-five = refl

remove-five : changed Remove 65536 0 five (header 1 0 0) ≡ (gone, answer (header 1 1 1) DONE 0)
unfolding remove_node when_found removed detached hoisted detach_range rewrite_parents connect_neighbors first_after last_after free_node join_last slot_at found_b refusal word set_word link set_link
remove-five = refl

new-six : changed New 6 0 gone (header 1 1 1) ≡ (six, answer (header 1 0 0) DONE 65537)
unfolding new_node refusal full_b reused pop_front last_left slot_at word set_word capacity_of
new-six = refl

abbrev pub r₀ : Memory
r₀ = arena.fresh one spare

abbrev pub r₁ : Memory × Told
r₁ = leaves r₀ five (header 1 0 0) 65536

abbrev pub r₂ : Memory × Told
r₂ = leaves r₁.0 gone (header 1 1 1) 0

abbrev pub r₃ : Memory × Told
r₃ = leaves r₂.0 six (header 1 0 0) 65537

f₀ : Fine r₀
f₀ = (good one spare one-fits []).fine

f₁ : Fine r₁.0
f₁ = fine-left r₀ f₀ New 5 0 five (header 1 0 0) 65536 new-five

f₂ : Fine r₂.0
f₂ = fine-left r₁.0 f₁ Remove 65536 0 gone (header 1 1 1) 0 remove-five

pub t₁ : called (change New 5 0) r₀ ≡ r₁
t₁ = comes_to r₀ f₀ New 5 0 five (header 1 0 0) 65536 new-five

pub t₂ : called (change Remove 65536 0) r₁.0 ≡ r₂
t₂ = comes_to r₁.0 f₁ Remove 65536 0 gone (header 1 1 1) 0 remove-five

pub t₃ : called (change New 6 0) r₂.0 ≡ r₃
t₃ = comes_to r₂.0 f₂ New 6 0 six (header 1 0 0) 65537 new-six

-- ---- two slots: new 1, append a new 2 to it, remove the first

abbrev pub two : List ℕ
two = replicate 14 9

abbrev pub room : List ℕ
room = replicate 4 9

two-slots : capacity_of (length two) ≡ 2
unfolding capacity_of
two-slots = refl

pub two_fits : 2 * capacity_of (length two) ≤ length room
two_fits = let e = two-slots in omega arith

abbrev parent : List ℕ
parent = 0 ∷ 1 ∷ 0 ∷ 0 ∷ 0 ∷ 0 ∷ 0 ∷ replicate 7 9

abbrev child : List ℕ
child = 0 ∷ 1 ∷ 0 ∷ 0 ∷ 0 ∷ 131072 ∷ 131072 ∷ 0 ∷ 2 ∷ 65536 ∷ 0 ∷ 0 ∷ 0 ∷ 0 ∷ []

abbrev orphan : List ℕ
orphan = 131071 ∷ 0 ∷ 0 ∷ 0 ∷ 0 ∷ 0 ∷ 0 ∷ 0 ∷ 2 ∷ 0 ∷ 0 ∷ 0 ∷ 0 ∷ 0 ∷ []

new-parent : changed New 1 0 two (header 0 0 0) ≡ (parent, answer (header 1 0 0) DONE 65536)
unfolding new_node refusal full_b fresh slot_at word set_word capacity_of
new-parent = refl

new-child : changed (Value Append) 65536 2 parent (header 1 0 0) ≡ (child, answer (header 2 0 0) DONE 131072)
unfolding value_node value_no found_b new_node refusal full_b fresh slot_at word set_word link set_link capacity_of insert_last insert_with_neighbors transplanted rewrite_parents connect_neighbors first_after last_after
new-child = refl

remove-parent : changed Remove 65536 0 child (header 2 0 0) ≡ (orphan, answer (header 2 1 1) DONE 0)
unfolding remove_node when_found removed detached hoisted detach_range rewrite_parents transplanted connect_neighbors first_after last_after free_node join_last slot_at found_b refusal word set_word link set_link
remove-parent = refl

abbrev pub s₀ : Memory
s₀ = arena.fresh two room

abbrev pub s₁ : Memory × Told
s₁ = leaves s₀ parent (header 1 0 0) 65536

abbrev pub s₂ : Memory × Told
s₂ = leaves s₁.0 child (header 2 0 0) 131072

abbrev pub s₃ : Memory × Told
s₃ = leaves s₂.0 orphan (header 2 1 1) 0

g₀ : Fine s₀
g₀ = (good two room two_fits []).fine

g₁ : Fine s₁.0
g₁ = fine-left s₀ g₀ New 1 0 parent (header 1 0 0) 65536 new-parent

g₂ : Fine s₂.0
g₂ = fine-left s₁.0 g₁ (Value Append) 65536 2 child (header 2 0 0) 131072 new-child

pub u₁ : called (change New 1 0) s₀ ≡ s₁
u₁ = comes_to s₀ g₀ New 1 0 parent (header 1 0 0) 65536 new-parent

pub u₂ : called (change (Value Append) 65536 2) s₁.0 ≡ s₂
u₂ = comes_to s₁.0 g₁ (Value Append) 65536 2 child (header 2 0 0) 131072 new-child

pub u₃ : called (change Remove 65536 0) s₂.0 ≡ s₃
u₃ = comes_to s₂.0 g₂ Remove 65536 0 orphan (header 2 1 1) 0 remove-parent
