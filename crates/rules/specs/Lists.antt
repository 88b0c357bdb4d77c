-- Lists of nodes or slots: their ends, their members, no member twice, a property of each. 0 stands for none.
-- Excluded: calling 5, 7, 5 a list without repetition; taking the first of a chain for its last.
use Rattle.std.specs.Prelude.{◌≡◌, ◌≢◌, ◌⊎◌, List, [], ◌∷◌, ℕ}

-- The first member, or e where there is none.
abbrev pub head_or : List ℕ → ℕ → ℕ
head_or [] e = e
head_or (x ∷ xs) e = x

-- The last member, or b where there is none.
abbrev pub last_or : ℕ → List ℕ → ℕ
last_or b [] = b
last_or b (x ∷ xs) = last_or x xs

-- y is a member.
abbrev pub In : ℕ → List ℕ → Type 0
In y [] = ⊥
In y (x ∷ xs) = (y ≡ x) ⊎ In y xs

-- y is no member.
abbrev pub Off : ℕ → List ℕ → Type 0
Off y [] = Unit {0}
Off y (x ∷ xs) = (y ≢ x) × Off y xs

-- No member stands twice.
abbrev pub NoDup : List ℕ → Type 0
NoDup [] = Unit {0}
NoDup (x ∷ xs) = Off x xs × NoDup xs

-- P holds of each member.
abbrev pub All : (ℕ → Type 0) → List ℕ → Type 0
All P [] = Unit {0}
All P (x ∷ xs) = P x × All P xs
