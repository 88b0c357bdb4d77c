-- What surgery leaves alone: said once, over the link. OnlyLaws shows it of every model of this crate that writes links.
-- Excluded: a write to the neighbouring slot; a link written over a stamp or a number.
use Rattle.std.specs.Prelude.{◌≡◌, List, [], ◌∷◌, ℕ, zero, suc, ◌<◌, ◌≤◌, length}
use Rattle.link.specs.Ids.{slot_of}
use Rattle.link.specs.Words.{width, PARENT, NEXT, LAST, word, link}

-- Slot t is named by none of these identifiers.
abbrev pub Other : ℕ → List ℕ → Type 0
Other t [] = Unit {0}
Other t (id ∷ ids) = (t ≡ slot_of id → ⊥) × Other t ids

-- From m to m' only links changed, and only those of the slots that ids name.
pub record Only (ids m m' : List ℕ) : Type 0 where
  pub size : length m' ≡ length m
  pub stays : (t j : ℕ) → j < width → (PARENT ≤ j → j ≤ LAST → ⊥) → word m' t j ≡ word m t j
  pub others : (t j : ℕ) → 0 < t → j < width → Other t ids → word m' t j ≡ word m t j

-- The identifiers from x along next, at most n.
unfoldable pub along : ℕ → List ℕ → ℕ → List ℕ
along zero m x = []
along (suc n) m x = x ∷ along n m (link m x NEXT)
