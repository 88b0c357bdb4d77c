-- The statements of demand 3 bite: each wrong program here answers as document 01 forbids, and fails the statement that it breaks.
use Rattle.std.specs.Prelude.{◌≡◌, refl, ◌⊎◌, cond, ◌&&◌, List, [], ◌∷◌, ℕ, ◌*◌, eqb, length}
use Rattle.std.proofs.Common.{sym, ap, ◌∙◌, inl, inr, arith}
use Rattle.link.specs.Ids.{slot_of, stamp_of}
use Rattle.link.specs.Words.{STAMP, PARENT, capacity_of, word, set_word, link}
use Rattle.link.specs.Found.{found_b}
use Rattle.link.specs.FoundLaws.{found_is}
use Rattle.rules.specs.Answers.{DONE, FULL, refusal, reply, answer}
use Rattle.rules.specs.Tree.{self}
use Rattle.arena.specs.Reads.{named_no, read_word}
use Rattle.keeps.specs.Clear.{clear_none}
use Rattle.moves.specs.declared.place.Place.TheVariants.{Append}
use Rattle.command.specs.declared.call.Change.{Change}
use Rattle.command.specs.declared.call.Change.TheVariants.{New, Move, Detach, DetachChildren, Remove, RemoveSubtree, RemoveChildren, Value}
use Rattle.history.specs.Calls.{Memory, memory, Call, change, set, read, Told, answers, replies, number_of, result_of, Program, called}
use Rattle.history.specs.History.{Event, Since, creates, HandsOut, Takes, times_of, LiveIn}
use Rattle.demands.specs.Demand3.{Meets, NeverTwice, FoundExactly, NumberLastStored, MetOnce, FullExactly}
use Rattle.demands.specs.Runs.{Turn, turn, on-run, events_of, one, spare, one-slot, one-fits, r₀, r₁, r₂, r₃, t₁, t₂, t₃, two, room, two_fits, s₀, s₁, s₂, s₃, u₁, u₂, u₃}

-- Refusing everything: FULL while a slot is left.
abbrev pub refusing : Program
refusing c w = (w, answers (answer w.header FULL 0))

pub refusing_fails : Meets refusing FullExactly → ⊥
refusing_fails says = by ((says one spare one-fits [] New 5 0 tt).0.0 refl 1 (omega arith) (let e = one-slot in omega arith))
  where
    by : LiveIn r₀ 1 ⊎ ((times_of 1 [] ≡ 32768) × (LiveIn r₀ 1 → ⊥)) → ⊥
    by (inl (x, e, f)) = clear_none one x f
    by (inr t) = let e = t.0 in omega arith

-- One identifier for all: the second creation hands it out again.
abbrev pub one_for_all : Program
one_for_all c w = (w, answers (answer w.header DONE 65536))

pub one_for-all_fails : Meets one_for_all NeverTwice → ⊥
one_for-all_fails says = (says one spare one-fits (change New 5 0 ∷ change New 6 0 ∷ [])).0.0 refl

-- A reused slot with the stamp that it had before.
abbrev pub same_stamp : Program
same_stamp c w =
    let r = called c w in
    (r.0, answers (answer r.0.header (number_of r.1) (slot_of (result_of r.1) * 65536)))

pub same-stamp_fails : Meets same_stamp NeverTwice → ⊥
same-stamp_fails says =
    (on-run same_stamp (NeverTwice same_stamp) r₀ (same (change New 5 0) r₁ ∷ same (change Remove 65536 0) r₂ ∷ same (change New 6 0) r₃ ∷ [])
    (ap wrong t₁, (ap wrong t₂, (ap wrong t₃, tt))) (says one spare one-fits (change New 5 0 ∷ change Remove 65536 0 ∷ change New 6 0 ∷ []))).0.0 refl
  where
    wrong : Memory × Told → Memory × Told
    wrong r = (r.0, answers (answer r.0.header (number_of r.1) (slot_of (result_of r.1) * 65536)))

    same : Call → Memory × Told → Turn
    same c r = turn c (wrong r)

-- The answers of ours, and memory untouched: what is handed out is not found.
abbrev pub untouched : Program
untouched c w = (w, (called c w).1)

pub untouched_fails : Meets untouched FoundExactly → ⊥
untouched_fails says =
    clear_none one 65536 ((on-run untouched (FoundExactly untouched) r₀
    (turn (change New 5 0) (r₀, r₁.1) ∷ []) (ap (λ (r : Memory × Told). (r₀, r.1)) t₁, tt) (says one spare one-fits (change New 5 0 ∷ [])) 65536).1 (inl (inl refl, tt)))

-- Of a subtree to be removed, the node alone is: its child is still found.
abbrev alone : Change → Change
alone RemoveSubtree = Remove
alone New = New
alone (Value place) = Value place
alone (Move place) = Move place
alone Detach = Detach
alone DetachChildren = DetachChildren
alone Remove = Remove
alone RemoveChildren = RemoveChildren

abbrev pub node_alone : Program
node_alone (change c a b) w = called (change (alone c) a b) w
node_alone (set x n) w = called (set x n) w
node_alone (read c) w = called (read c) w

pub node-alone_fails : Meets node_alone FoundExactly → ⊥
unfolding found_b link word
node-alone_fails says =
    by ((on-run node_alone (FoundExactly node_alone) s₀ turns
    (u₁, (u₂, (u₃, tt))) (says two room two_fits (change New 1 0 ∷ change (Value Append) 65536 2 ∷ change RemoveSubtree 65536 0 ∷ [])) 131072).0
    (found_is s₃.0.words 2 131072 refl))
  where
    turns : List Turn
    turns = turn (change New 1 0) s₁ ∷ turn (change (Value Append) 65536 2) s₂ ∷ turn (change RemoveSubtree 65536 0) s₃ ∷ []

    last : Event
    last = record { before = s₂.0; call = change RemoveSubtree 65536 0; told = s₃.1 }

    taken : Takes 131072 last
    taken = (refl, inr (found_is s₂.0.words 2 131072 refl, self (λ (e : ◌≡◌ {A = ℕ} 65536 0). omega arith)))

    by : Since (HandsOut 131072) (λ e. Takes 131072 e → ⊥) (events_of s₀ turns) → ⊥
    by (inl w) = w.1.1.0 taken
    by (inr (inl w)) = w.1.0 taken
    by (inr (inr (inl w))) = w.0
    by (inr (inr (inr x3))) = elim x3 [ ]

-- A set that is answered and not done: get still answers the number of the creation.
abbrev pub set_ignored : Program
set_ignored (change c a b) w = called (change c a b) w
set_ignored (set x n) w = (w, replies (reply DONE 0))
set_ignored (read c) w = called (read c) w

pub set_ignored_fails : Meets set_ignored NumberLastStored → ⊥
unfolding found_b link word read_word named_no refusal capacity_of
set_ignored_fails says =
    let six = (on-run set_ignored (NumberLastStored set_ignored) r₀ (turn (change New 5 0) r₁ ∷ turn (set 65536 6) (r₁.0, replies (reply DONE 0)) ∷ []) (t₁, (refl, tt))
    (says one spare one-fits (change New 5 0 ∷ set 65536 6 ∷ [])) 65536 (found_is r₁.0.words 1 65536 refl) 6).1 (inr (inl ((refl, refl, refl), tt))) in
    let e : ◌≡◌ {A = ℕ} 5 6 = ap result_of six in
    omega arith

-- A creation that never looks at the free chain: FULL while a removed slot can be reused.
abbrev pub fresh_only : Program
fresh_only (change c a b) w =
    cond (creates c && eqb w.header.used (capacity_of (length w.words))) (w, answers (answer w.header FULL 0)) (called (change c a b) w)
fresh_only (set x n) w = called (set x n) w
fresh_only (read c) w = called (read c) w

pub fresh-only_fails : Meets fresh_only FullExactly → ⊥
unfolding capacity_of word
fresh-only_fails says =
    by ((on-run fresh_only (FullExactly fresh_only) r₀ (turn (change New 5 0) r₁ ∷ turn (change Remove 65536 0) r₂ ∷ []) (t₁, (t₂, tt))
    (says one spare one-fits (change New 5 0 ∷ change Remove 65536 0 ∷ [])) New 6 0 tt).0.0 refl 1 (omega arith) (omega arith))
  where
    by : LiveIn r₂.0 1 ⊎ ((◌≡◌ {A = ℕ} 1 32768) × (LiveIn r₂.0 1 → ⊥)) → ⊥
    by (inl (x, e, f)) =
        let a : stamp_of x ≡ 65535 = sym f.stamp ∙ ap (λ (s : ℕ). stamp_of (word r₂.0.words s STAMP)) e in
        let b = f.small in omega arith
    by (inr t) = let e = t.0 in omega arith

-- A new node that names itself as its parent: no root leads to it.
abbrev pub own_parent : Program
own_parent c w = let r = called c w in (memory (set_word r.0.words 1 PARENT 65536) r.0.header r.0.scratch, r.1)

pub own-parent_fails : Meets own_parent MetOnce → ⊥
unfolding found_b link word set_word
own-parent_fails says =
    let e : ◌≡◌ {A = ℕ} 0 1 = (on-run own_parent (MetOnce own_parent) r₀ (turn (change New 5 0) (wrong r₁) ∷ []) (ap wrong t₁, tt)
    (says one spare one-fits (change New 5 0 ∷ [])) 65536).0 (found_is (wrong r₁).0.words 1 65536 refl) in
    omega arith
  where
    wrong : Memory × Told → Memory × Told
    wrong r = (memory (set_word r.0.words 1 PARENT 65536) r.0.header r.0.scratch, r.1)
