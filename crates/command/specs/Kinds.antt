-- Each code's work in one level, which one jump leads to, and the call that it stands for; the same as numbers, a kind and a detail.
-- No promise to the user: that they say what the table of calls says is a theorem (KindLaws).
use Rattle.std.specs.Prelude.{List, [], ◌∷◌, ℕ, ◌<◌, get_or}
use Rattle.link.specs.Words.{width, NUMBER, PARENT, PREVIOUS, NEXT, FIRST, LAST}
use Rattle.moves.specs.declared.place.Place.TheVariants.{Append, Prepend, After, Before}
use Rattle.command.specs.Calls.{place_of}
use Rattle.command.specs.declared.call.Change.TheVariants.{New, Move, Detach, DetachChildren, Remove, RemoveSubtree, RemoveChildren, Value}
use Rattle.command.specs.declared.call.Call.{Call}
use Rattle.command.specs.declared.call.Call.TheVariants.{Make, Read, Set, LiveCount, DescendantCount, Validate}
use Rattle.command.specs.declared.code.Work.{Work}
use Rattle.command.specs.declared.code.Work.TheVariants as Do

abbrev pub kind_table : List ℕ
kind_table = 2 ∷ 0 ∷ 1 ∷ 3 ∷ 3 ∷ 3 ∷ 3 ∷ 5 ∷ 6 ∷ 7 ∷ 8 ∷ 9 ∷ 0 ∷ 0 ∷ 0 ∷ 0 ∷ 0 ∷ 10 ∷ 11 ∷ 12 ∷ 4 ∷ 4 ∷ 4 ∷ 4 ∷ []

-- The place of a move or a value form, the word of a read.
abbrev pub detail_table : List ℕ
detail_table =
    0 ∷ NUMBER ∷ 0 ∷ 0 ∷ 1 ∷ 2 ∷ 3 ∷ 0 ∷ 0 ∷ 0 ∷ 0 ∷ 0
    ∷ PARENT ∷ FIRST ∷ LAST ∷ NEXT ∷ PREVIOUS ∷ 0 ∷ 0 ∷ 0 ∷ 0 ∷ 1 ∷ 2 ∷ 3 ∷ []

-- The calls by kind, from 0 on.
abbrev pub calls_by : ℕ → List Call
calls_by detail =
    Read detail ∷ Set ∷ Make New ∷ Make (Move (place_of detail)) ∷ Make (Value (place_of detail))
    ∷ Make Detach ∷ Make DetachChildren ∷ Make Remove ∷ Make RemoveSubtree ∷ Make RemoveChildren
    ∷ LiveCount ∷ DescendantCount ∷ []

abbrev pub call_by : ℕ → ℕ → Call
call_by kind detail = get_or (calls_by detail) kind Validate

-- The call that a work stands for.
abbrev pub call_as : Work → Call
call_as (Do.Read k) = Read k
call_as Do.Set = Set
call_as Do.New = Make New
call_as (Do.Move place) = Make (Move place)
call_as (Do.Value place) = Make (Value place)
call_as Do.Detach = Make Detach
call_as Do.DetachChildren = Make DetachChildren
call_as Do.Remove = Make Remove
call_as Do.RemoveSubtree = Make RemoveSubtree
call_as Do.RemoveChildren = Make RemoveChildren
call_as Do.LiveCount = LiveCount
call_as Do.DescendantCount = DescendantCount
call_as Do.Validate = Validate

abbrev pub work_table : List Work
work_table =
    Do.New ∷ Do.Read NUMBER ∷ Do.Set
    ∷ Do.Move Append ∷ Do.Move Prepend ∷ Do.Move After ∷ Do.Move Before
    ∷ Do.Detach ∷ Do.DetachChildren ∷ Do.Remove ∷ Do.RemoveSubtree ∷ Do.RemoveChildren
    ∷ Do.Read PARENT ∷ Do.Read FIRST ∷ Do.Read LAST ∷ Do.Read NEXT ∷ Do.Read PREVIOUS
    ∷ Do.LiveCount ∷ Do.DescendantCount ∷ Do.Validate
    ∷ Do.Value Append ∷ Do.Value Prepend ∷ Do.Value After ∷ Do.Value Before ∷ []

-- A read is of a word of a slot.
abbrev pub WithinSlot : Work → Type 0
WithinSlot (Do.Read k) = k < width
WithinSlot Do.Set = Unit {0}
WithinSlot Do.New = Unit {0}
WithinSlot (Do.Move place) = Unit {0}
WithinSlot (Do.Value place) = Unit {0}
WithinSlot Do.Detach = Unit {0}
WithinSlot Do.DetachChildren = Unit {0}
WithinSlot Do.Remove = Unit {0}
WithinSlot Do.RemoveSubtree = Unit {0}
WithinSlot Do.RemoveChildren = Unit {0}
WithinSlot Do.LiveCount = Unit {0}
WithinSlot Do.DescendantCount = Unit {0}
WithinSlot Do.Validate = Unit {0}
