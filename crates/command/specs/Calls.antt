-- Which call each code names, as a table in document 01's order.
-- Excluded: append and prepend exchanged; next answered where previous is asked.
use Rattle.std.specs.Prelude.{List, [], ◌∷◌, ℕ, get_or}
use Rattle.link.specs.Words.{NUMBER, PARENT, PREVIOUS, NEXT, FIRST, LAST}
use Rattle.moves.specs.declared.place.Place.{Place}
use Rattle.moves.specs.declared.place.Place.TheVariants.{Append, Prepend, After, Before}
use Rattle.command.specs.declared.call.Change.TheVariants.{New, Move, Detach, DetachChildren, Remove, RemoveSubtree, RemoveChildren, Value}
use Rattle.command.specs.declared.call.Call.{Call}
use Rattle.command.specs.declared.call.Call.TheVariants.{Make, Read, Set, LiveCount, DescendantCount, Validate}

-- Append, prepend, insert after, insert before.
abbrev pub place_table : List Place
place_table = Append ∷ Prepend ∷ After ∷ []

abbrev pub place_of : ℕ → Place
place_of n = get_or place_table n Before

-- Parent, first child, last child, next, previous; past these, the number.
abbrev pub word_table : List ℕ
word_table = PARENT ∷ FIRST ∷ LAST ∷ NEXT ∷ PREVIOUS ∷ []

abbrev pub word_of : ℕ → ℕ
word_of n = get_or word_table n NUMBER

-- Codes 1 to 24; a code that is none of these is refused COMMAND before it is looked up.
abbrev pub call_table : List Call
call_table =
    Make New ∷ Read NUMBER ∷ Set
    ∷ Make (Move Append) ∷ Make (Move Prepend) ∷ Make (Move After) ∷ Make (Move Before)
    ∷ Make Detach ∷ Make DetachChildren ∷ Make Remove ∷ Make RemoveSubtree ∷ Make RemoveChildren
    ∷ Read PARENT ∷ Read FIRST ∷ Read LAST ∷ Read NEXT ∷ Read PREVIOUS
    ∷ LiveCount ∷ DescendantCount ∷ Validate
    ∷ Make (Value Append) ∷ Make (Value Prepend) ∷ Make (Value After) ∷ Make (Value Before) ∷ []

abbrev pub call_of : ℕ → Call
call_of code = get_or (Validate ∷ call_table) code Validate
