-- Memory is a list of words, seven to a slot, slots numbered from 1. Past its end every word reads as 0.
-- `word` and `set_word` go by slot and word number; `link` and `set_link` by identifier, and slot 0 is none.
use Rattle.std.specs.Prelude.{cond, List, ◌-◌, ℕ, ◌+◌, ◌*◌, ◌/◌, eqb, ltb, get_or, set}
use Rattle.link.specs.Ids.{slot_of}

-- words to a slot
abbrev pub width : ℕ
width = 7

-- the greatest slot number
abbrev pub most : ℕ
most = 65535

-- The words of a slot by name: kind and stamp; the number stored, or the next free slot; the five links.
abbrev pub STAMP : ℕ
STAMP = 0

abbrev pub NUMBER : ℕ
NUMBER = 1

abbrev pub PARENT : ℕ
PARENT = 2

abbrev pub PREVIOUS : ℕ
PREVIOUS = 3

abbrev pub NEXT : ℕ
NEXT = 4

abbrev pub FIRST : ℕ
FIRST = 5

abbrev pub LAST : ℕ
LAST = 6

-- Capacity is the smaller of the whole slots lent and 65,535.
unfoldable pub capacity_of : ℕ → ℕ
capacity_of lent = cond (ltb (lent / width) most) (lent / width) most

-- where word k of slot s lies
abbrev pub place : ℕ → ℕ → ℕ
place s k = (s - 1) * width + k

unfoldable pub word : List ℕ → ℕ → ℕ → ℕ
word m s k = get_or m (place s k) 0

unfoldable pub set_word : List ℕ → ℕ → ℕ → ℕ → List ℕ
set_word m s k v = set m (place s k) v

unfoldable pub link : List ℕ → ℕ → ℕ → ℕ
link m id k = cond (eqb (slot_of id) 0) 0 (word m (slot_of id) k)

unfoldable pub set_link : List ℕ → ℕ → ℕ → ℕ → List ℕ
set_link m id k v = cond (eqb (slot_of id) 0) m (set_word m (slot_of id) k v)
