-- Calls one after the other, and what happened: told by what they answered, and by nothing else. Which identifiers were handed out, taken,
-- given a number; how often a slot was handed out. Excluded: a refused creation that counts; a removal that takes what it was not asked for.
use Rattle.std.specs.Prelude.{◌≡◌, ◌⊎◌, Bool, true, false, cond, ◌&&◌, List, [], ◌∷◌, ◌++◌, ℕ, ◌+◌, ◌≤◌, eqb, length}
use Rattle.link.specs.Ids.{slot_of}
use Rattle.link.specs.Words.{capacity_of}
use Rattle.link.specs.Found.{Found}
use Rattle.rules.specs.Answers.{DONE}
use Rattle.rules.specs.Lists.{In}
use Rattle.rules.specs.Links.{view}
use Rattle.arena.specs.Census.{one_if}
use Rattle.keeps_moves.specs.Rule.{Ancestor}
use Rattle.command.specs.declared.call.Change.{Change}
use Rattle.command.specs.declared.call.Change.TheVariants.{New, Move, Detach, DetachChildren, Remove, RemoveSubtree, RemoveChildren, Value}
use Rattle.history.specs.Calls.{Call, Memory, Program, Told, change, number_of, read, result_of, set}

-- A call as it happened: the memory before it, the call, what it answered.
pub record Event : Type 0 where
  pub before : Memory
  pub call : Call
  pub told : Told

abbrev pub event : Program → Memory → Call → Event
event p w c = record { before = w; call = c; told = (p c w).1 }

-- The memory after these calls, and what happened, first to last.
abbrev pub after : Program → Memory → List Call → Memory
after p w [] = w
after p w (c ∷ cs) = after p (p c w).0 cs

abbrev pub history : Program → Memory → List Call → List Event
history p w [] = []
history p w (c ∷ cs) = event p w c ∷ history p (p c w).0 cs

-- Every event is such.
abbrev pub Each : (Event → Type 0) → List Event → Type 0
Each Q [] = Unit {0}
Each Q (e ∷ es) = Q e × Each Q es

-- Some event is P, and every later one is Q.
abbrev pub Since : (Event → Type 0) → (Event → Type 0) → List Event → Type 0
Since P Q [] = ⊥
Since P Q (e ∷ es) = (P e × Each Q es) ⊎ Since P Q es

-- ---- what an event did, by what it answered

-- An identifier is found.
abbrev pub FoundIn : Memory → ℕ → Type 0
FoundIn w x = Found w.words w.header.used x

-- New and the value forms are creations.
abbrev pub creates : Change → Bool
creates New = true
creates (Value place) = true
creates (Move place) = false
creates Detach = false
creates DetachChildren = false
creates Remove = false
creates RemoveSubtree = false
creates RemoveChildren = false

-- The identifier that a creation handed out: its result, where it was accepted.
abbrev pub handed_by : Call → Told → List ℕ
handed_by (change c a b) t = cond (creates c && eqb (number_of t) DONE) (result_of t ∷ []) []
handed_by (set x n) t = []
handed_by (read c) t = []

abbrev pub handed : List Event → List ℕ
handed [] = []
handed (e ∷ es) = handed_by e.call e.told ++ handed es

abbrev pub HandsOut : ℕ → Event → Type 0
HandsOut x e = In x (handed_by e.call e.told)

-- y is below x in the forest that memory holds.
abbrev pub Descendant : Memory → ℕ → ℕ → Type 0
Descendant w x y = FoundIn w y × Ancestor (view w.words) x y

-- y is taken with x: by remove x itself, by remove subtree x and its descendants, by remove children its descendants; by no other change.
abbrev pub TakenWith : Change → Memory → ℕ → ℕ → Type 0
TakenWith Remove w x y = y ≡ x
TakenWith RemoveSubtree w x y = (y ≡ x) ⊎ Descendant w x y
TakenWith RemoveChildren w x y = Descendant w x y
TakenWith New w x y = ⊥
TakenWith (Value place) w x y = ⊥
TakenWith (Move place) w x y = ⊥
TakenWith Detach w x y = ⊥
TakenWith DetachChildren w x y = ⊥

-- By a call that was accepted, on the forest before it.
abbrev pub TakenBy : Memory → Call → Told → ℕ → Type 0
TakenBy w (change c a b) t y = (number_of t ≡ DONE) × TakenWith c w a y
TakenBy w (set x n) t y = ⊥
TakenBy w (read c) t y = ⊥

abbrev pub Takes : ℕ → Event → Type 0
Takes y e = TakenBy e.before e.call e.told y

-- n is the number that a creation stores.
abbrev pub Given : Change → ℕ → ℕ → ℕ → Type 0
Given New a b n = a ≡ n
Given (Value place) a b n = b ≡ n
Given (Move place) a b n = ⊥
Given Detach a b n = ⊥
Given DetachChildren a b n = ⊥
Given Remove a b n = ⊥
Given RemoveSubtree a b n = ⊥
Given RemoveChildren a b n = ⊥

-- The number n is stored for x: by its creation, or by an accepted set.
abbrev pub StoredBy : Call → Told → ℕ → ℕ → Type 0
StoredBy (change c a b) t x n = In x (handed_by (change c a b) t) × Given c a b n
StoredBy (set x' n') t x n = (number_of t ≡ DONE) × (x' ≡ x) × (n' ≡ n)
StoredBy (read c) t x n = ⊥

abbrev pub Stores : ℕ → ℕ → Event → Type 0
Stores x n e = StoredBy e.call e.told x n

-- ---- slots

-- How many of these identifiers are of slot s.
abbrev pub times_of : ℕ → List ℕ → ℕ
times_of s [] = 0
times_of s (x ∷ xs) = one_if (eqb (slot_of x) s) + times_of s xs

-- Slot s is live: a found identifier is of it.
abbrev pub LiveIn : Memory → ℕ → Type 0
LiveIn w s = (x : ℕ) × (slot_of x ≡ s) × FoundIn w x

-- Each slot is live, or was handed out 32,768 times and is removed.
abbrev pub NoneLeft : Memory → List Event → Type 0
NoneLeft w es =
    (s : ℕ) → 1 ≤ s → s ≤ capacity_of (length w.words)
    → LiveIn w s ⊎ ((times_of s (handed es) ≡ 32768) × (LiveIn w s → ⊥))

-- A creation that nothing but the want of a slot can refuse: new; a value form whose target is found.
abbrev pub Acceptable : Memory → Change → ℕ → Type 0
Acceptable w New a = Unit {0}
Acceptable w (Value place) a = FoundIn w a
Acceptable w (Move place) a = ⊥
Acceptable w Detach a = ⊥
Acceptable w DetachChildren a = ⊥
Acceptable w Remove a = ⊥
Acceptable w RemoveSubtree a = ⊥
Acceptable w RemoveChildren a = ⊥
