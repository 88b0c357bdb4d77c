-- One command on a lent arena, by the very definitions that the calls' own statements cite: words, scratch and answer on any memory.
-- Excluded: prepend done for append; a subtree removed where a node is named; FRAME answered before COMMAND.
use Rattle.std.specs.Prelude.{cond, List, ℕ}
use Rattle.link.specs.declared.header.Header.{Header}
use Rattle.rules.specs.Answers.{COMMAND, answer}
use Rattle.rules.specs.declared.answer.Reply.{Reply}
use Rattle.rules.specs.declared.answer.Answer.{Answer}
use Rattle.sound.specs.Guard.{guarded, guarded_read, validated}
use Rattle.arena.specs.Create.{new_node}
use Rattle.arena.specs.Reads.{read_word, set_number}
use Rattle.arena.specs.Census.{live_call}
use Rattle.moves.specs.Moves.{move_node}
use Rattle.moves.specs.Values.{value_node}
use Rattle.moves.specs.Detach.{detach_node, detach_children_node}
use Rattle.removal.specs.Remove.{remove_node, remove_subtree, remove_children}
use Rattle.lists.specs.Listing.{counted}
use Rattle.command.specs.Codes.{acceptable}
use Rattle.command.specs.Calls.{call_of}
use Rattle.command.specs.declared.call.Call.{Call}
use Rattle.command.specs.declared.call.Call.TheVariants.{Make, Read, Set, LiveCount, DescendantCount, Validate}
use Rattle.command.specs.declared.command.Command.{Command}
use Rattle.command.specs.declared.call.Change.{Change}
use Rattle.command.specs.declared.call.Change.TheVariants.{New, Move, Detach, DetachChildren, Remove, RemoveSubtree, RemoveChildren, Value}

-- The work of a change, on ready memory.
abbrev pub changed : Change → ℕ → ℕ → List ℕ → Header → List ℕ × Answer
changed New a b m h = new_node m h a
changed (Move place) a b m h = move_node place m h a b
changed Detach a b m h = detach_node m h a
changed DetachChildren a b m h = detach_children_node m h a
changed Remove a b m h = remove_node m h a
changed RemoveSubtree a b m h = remove_subtree m h a
changed RemoveChildren a b m h = remove_children m h a
changed (Value place) a b m h = value_node place m h a b

-- A reply of a call that leaves the header alone.
abbrev pub keeping : Header → Reply → Answer
keeping h r = answer h r.number r.result

-- Words, scratch and answer.
abbrev pub Outcome : Type 0
Outcome = List ℕ × List ℕ × Answer

-- What each call leaves, on any memory.
unfoldable pub called : Call → ℕ → ℕ → List ℕ → Header → List ℕ → Outcome
called (Make change) a b m h s = guarded m h s (changed change a b m h)
called (Read k) a b m h s = (m, s, keeping h (read_word k m h a))
called Set a b m h s = let w = set_number m h a b in (w.0, s, keeping h w.1)
called LiveCount a b m h s = let w = live_call m h s in (m, w.0, keeping h w.1)
called DescendantCount a b m h s = let w = guarded_read m h s (counted m h.used a) in (m, w.0, keeping h w.1)
called Validate a b m h s = let w = validated m h s in (m, w.0, keeping h w.1)

-- COMMAND precedes all other tests.
unfoldable pub commanded : Command → List ℕ → Header → List ℕ → Outcome
commanded c m h s =
    cond (acceptable c.code c.unused c.a c.b) (called (call_of c.code) c.a c.b m h s) (m, s, answer h COMMAND 0)
