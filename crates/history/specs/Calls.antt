-- The calls of document 01 but clear and load, over one memory, and what each answers: the very definitions that the statements of the code
-- cite. Excluded: a refused call left out; a call that is given another effect than its code has.
use Rattle.std.specs.Prelude.{List, ℕ}
use Rattle.link.specs.Words.{NUMBER}
use Rattle.link.specs.declared.header.Header.{Header}
use Rattle.rules.specs.declared.answer.Answer.{Answer}
use Rattle.rules.specs.declared.answer.Reply.{Reply}
use Rattle.sound.specs.Guard.{validated, guarded, guarded_read}
use Rattle.arena.specs.Reads.{read_word, set_number, cleared}
use Rattle.arena.specs.Census.{Counted, census_call, live_call}
use Rattle.walk.specs.Walks.{Started, Walked, started, walked}
use Rattle.walk.specs.declared.walk.Traverse.{Traverse}
use Rattle.lists.specs.Listing.{listed, levels_listed, counted, guarded_list}
use Rattle.lists.specs.declared.order.Order.{Order}
use Rattle.subtree.specs.Compare.{subtrees_compared}
use Rattle.image.specs.Save.{saved}
use Rattle.command.specs.Commands.{changed}
use Rattle.command.specs.declared.call.Change.{Change}

-- The words lent, the header, the scratch lent.
pub record Memory : Type 0 where
  pub words : List ℕ
  pub header : Header
  pub scratch : List ℕ

abbrev pub memory : List ℕ → Header → List ℕ → Memory
memory words header scratch = record { words = words; header = header; scratch = scratch }

-- A fresh arena: a header of zero, whatever the words.
abbrev pub fresh : List ℕ → List ℕ → Memory
fresh words scratch = memory words cleared scratch

-- ---- the calls

-- The calls that change no word and no header.
pub data Reading : Type 0 where
  -- a single read, word k of a node: its number, one of its five links
  single : ℕ → ℕ → Reading
  validate : Reading
  census : Reading
  counts_live : Reading
  counts_descendants : ℕ → Reading
  -- the eight lists, seven by an order: the node, the places lent
  list : Order → ℕ → List ℕ → Reading
  levels : ℕ → List ℕ → Reading
  -- subtree_eq: two nodes of this memory; one of this memory and one of another; the other way round
  compare : ℕ → ℕ → Reading
  compare_with : ℕ → List ℕ → Header → ℕ → Reading
  compare_from : List ℕ → Header → ℕ → ℕ → Reading
  -- a walk begun; a walk from where it stands, its budget, the places lent
  start : ℕ → Reading
  walk : Traverse → ℕ → List ℕ → Reading
  -- save: the bytes lent
  save : List ℕ → Reading

pub data Call : Type 0 where
  -- new, the four moves, the four value forms, detach, detach children, remove, remove subtree, remove children; with their arguments
  change : Change → ℕ → ℕ → Call
  -- set: the node, the number
  set : ℕ → ℕ → Call
  read : Reading → Call

-- The number of a node.
abbrev pub get : ℕ → Call
get x = read (single NUMBER x)

-- What a call answers, and what it leaves of a list lent to it.
pub data Told : Type 0 where
  answers : Answer → Told
  replies : Reply → Told
  counts : Counted → Told
  starts : Started → Told
  walks : List ℕ → Walked → Told
  writes : List ℕ → Reply → Told

abbrev pub number_of : Told → ℕ
number_of (answers r) = r.number
number_of (replies r) = r.number
number_of (counts r) = r.number
number_of (starts r) = r.number
number_of (walks places r) = r.number
number_of (writes places r) = r.number

-- The result, of a call that has one.
abbrev pub result_of : Told → ℕ
result_of (answers r) = r.result
result_of (replies r) = r.result
result_of (counts r) = 0
result_of (starts r) = 0
result_of (walks places r) = r.result
result_of (writes places r) = r.result

-- The scratch after a reading call, and what it answers.
abbrev pub read_by : Reading → List ℕ → Header → List ℕ → List ℕ × Told
read_by (single k x) m h s = (s, replies (read_word k m h x))
read_by validate m h s = let r = validated m h s in (r.0, replies r.1)
read_by census m h s = let r = census_call m h s in (r.0, counts r.1)
read_by counts_live m h s = let r = live_call m h s in (r.0, replies r.1)
read_by (counts_descendants x) m h s = let r = guarded_read m h s (counted m h.used x) in (r.0, replies r.1)
read_by (list o x places) m h s = let r = guarded_list m h s places (listed m h.used o x places) in (r.0, writes r.1 r.2)
read_by (levels x places) m h s = let r = guarded_list m h s places (levels_listed m h.used x places) in (r.0, writes r.1 r.2)
read_by (compare x y) m h s = let r = subtrees_compared m h x m h y s in (r.0, replies r.1)
read_by (compare_with x m' h' y) m h s = let r = subtrees_compared m h x m' h' y s in (r.0, replies r.1)
read_by (compare_from m' h' x y) m h s = let r = subtrees_compared m' h' x m h y s in (r.0, replies r.1)
read_by (start x) m h s = (s, starts (started m h x))
read_by (walk from k places) m h s = let r = walked m h from k places in (s, walks r.0 r.1)
read_by (save bytes) m h s = let r = saved m h s bytes in (r.0, writes r.1 r.2)

-- A program says of every call what memory is after it, and what it answers.
abbrev pub Program : Type 0
Program = Call → Memory → Memory × Told

-- Ours.
abbrev pub called : Program
called (change c a b) w =
    let r = guarded w.words w.header w.scratch (changed c a b w.words w.header) in
    (memory r.0 r.2.header r.1, answers r.2)
called (set x n) w = let r = set_number w.words w.header x n in (memory r.0 w.header w.scratch, replies r.1)
called (read c) w = let r = read_by c w.words w.header w.scratch in (memory w.words w.header r.0, r.1)
