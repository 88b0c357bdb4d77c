-- What taking a node out of its chain and tying nodes into one write: one word from the left, one from the right, and the nodes' own.
-- Excluded: a write from the left that goes to the parent's last child; a parent's ends mended where the node had neighbours.
use Rattle.std.specs.Prelude.{Bool, true, false, cond, ◌⊎◌, ◌≡◌, List, ℕ, ◌*◌, ◌<◌, ◌≤◌, eqb, length}
use Rattle.link.specs.Ids.{slot_of}
use Rattle.link.specs.Words.{width, PARENT, PREVIOUS, NEXT, FIRST, LAST, link, set_link}
use Rattle.moves.specs.declared.place.Spot.{Spot}
use Rattle.moves.specs.declared.place.Place.{Place}
use Rattle.moves.specs.declared.place.Place.TheVariants.{Append, Prepend, After, Before}

-- The slot that an identifier names lies within the memory.
abbrev pub Within : List ℕ → ℕ → Type 0
Within m id = (0 < slot_of id) × (slot_of id * width ≤ length m)

abbrev pub NoneOrWithin : List ℕ → ℕ → Type 0
NoneOrWithin m id = (id ≡ 0) ⊎ Within m id

-- So are the parent and the neighbours of a place.
abbrev pub PlaceWithin : List ℕ → Spot → Type 0
PlaceWithin m to = NoneOrWithin m to.parent × NoneOrWithin m to.previous × NoneOrWithin m to.next

-- v at the word that leads to a place from one side: `along` of the neighbour, else `end` of the parent. Where there is neither
-- nothing leads there, and `along` of a spare node is written, which its own write mends.
unfoldable pub led : List ℕ → ℕ → ℕ → ℕ → ℕ → ℕ → ℕ → List ℕ
led m spare parent neighbour along end v =
    cond (eqb neighbour 0) (cond (eqb parent 0) (set_link m spare along v) (set_link m parent end v)) (set_link m neighbour along v)

-- The node x leaves: what led to it from each side leads to its neighbour on the other.
unfoldable pub taken_out : List ℕ → ℕ → List ℕ
taken_out m x =
    let m₁ = led m x (link m x PARENT) (link m x PREVIOUS) NEXT FIRST (link m x NEXT) in
    let m₂ = led m₁ x (link m x PARENT) (link m x NEXT) PREVIOUS LAST (link m x PREVIOUS) in
    set_link (set_link (set_link m₂ x PARENT 0) x PREVIOUS 0) x NEXT 0

-- The siblings from first to last come between two neighbours under a parent.
unfoldable pub tied_in : List ℕ → ℕ → ℕ → ℕ → ℕ → ℕ → List ℕ
tied_in m first last parent previous next =
    let m₁ = led m last parent previous NEXT FIRST first in
    let m₂ = led m₁ first parent next PREVIOUS LAST last in
    set_link (set_link m₂ first PREVIOUS previous) last NEXT next

unfoldable pub put_in : List ℕ → ℕ → ℕ → ℕ → ℕ → List ℕ
put_in m x parent previous next = tied_in (set_link m x PARENT parent) x x parent previous next

-- A place by three answers: which word of the target names the other neighbour, whether the target is the parent, and whether that
-- neighbour comes before.
abbrev pub beside_word : Place → ℕ
beside_word Append = LAST
beside_word Prepend = FIRST
beside_word After = NEXT
beside_word Before = PREVIOUS

abbrev pub is_under : Place → Bool
is_under Append = true
is_under Prepend = true
is_under After = false
is_under Before = false

abbrev pub is_behind : Place → Bool
is_behind Append = true
is_behind Prepend = false
is_behind After = false
is_behind Before = true
