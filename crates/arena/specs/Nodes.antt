-- The seven words of a slot, as a creation and as a removal leave them. Each is written; no other slot is touched.
-- Excluded: a creation that leaves an old link in a reused slot; a freed slot of kind 0, or one that still names its parent.
use Rattle.std.specs.Prelude.{List, ℕ, ◌+◌}
use Rattle.link.specs.Words.{STAMP, NUMBER, PARENT, PREVIOUS, NEXT, FIRST, LAST, set_word}

-- Slot s holds these words 0 and 1, and five links of none.
unfoldable pub slot_at : List ℕ → ℕ → ℕ → ℕ → List ℕ
slot_at m s word0 word1 =
    let m₁ = set_word m s STAMP word0 in
    let m₂ = set_word m₁ s NUMBER word1 in
    let m₃ = set_word m₂ s PARENT 0 in
    let m₄ = set_word m₃ s PREVIOUS 0 in
    let m₅ = set_word m₄ s NEXT 0 in
    let m₆ = set_word m₅ s FIRST 0 in
    set_word m₆ s LAST 0

-- A node: kind 0 with this stamp, this number, no links.
abbrev pub node_at : List ℕ → ℕ → ℕ → ℕ → List ℕ
node_at m s stamp number = slot_at m s stamp number

-- A freed slot: kind 1 with these bits of a removed stamp, a next of none, no links.
abbrev pub freed_at : List ℕ → ℕ → ℕ → List ℕ
freed_at m s bits = slot_at m s (65536 + bits) 0
