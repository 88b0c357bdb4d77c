-- A creation, on any memory and header: a chain of one in the first slot of the free chain, else in the next fresh slot, else FULL.
-- Excluded: handing out a slot with the stamp it had before; a fresh slot while the chain has one; FULL while either is left.
use Rattle.std.specs.Prelude.{Bool, false, cond, ◌&&◌, List, ℕ, ◌+◌, eqb, length}
use Rattle.link.specs.Ids.{id_of, stamp_of}
use Rattle.link.specs.Stamps.{reused_bits}
use Rattle.link.specs.Words.{STAMP, capacity_of, word}
use Rattle.link.specs.declared.header.Header.{Header}
use Rattle.rules.specs.Answers.{DONE, refusal, answer, header}
use Rattle.rules.specs.declared.answer.Answer.{Answer}
use Rattle.sound.specs.Guard.{guarded}
use Rattle.arena.specs.Nodes.{node_at}
use Rattle.arena.specs.FreeList.{pop_front}

-- The free chain is empty and used is the capacity.
unfoldable pub full_b : List ℕ → Header → Bool
full_b m h = eqb h.first 0 && eqb h.used (capacity_of (length m))

abbrev pub create_no : List ℕ → Header → ℕ
create_no m h = refusal false false false false false false (full_b m h) false

-- Slot s becomes a node with this stamp; the answer is its identifier.
abbrev pub made : List ℕ → Header → ℕ → ℕ → ℕ → List ℕ × Answer
made m h s stamp number = (node_at m s stamp number, answer h DONE (id_of s stamp))

-- The next fresh slot, whose stamp is 0.
unfoldable pub fresh : List ℕ → Header → ℕ → List ℕ × Answer
fresh m h number = let s = h.used + 1 in made m (header s h.first h.last) s 0 number

-- The first slot of the chain, whose removed stamp is reused.
unfoldable pub reused : List ℕ → Header → ℕ → List ℕ × Answer
reused m h number =
    let taken = pop_front m h in
    made m taken.header taken.slot (reused_bits (stamp_of (word m taken.slot STAMP))) number

unfoldable pub new_node : List ℕ → Header → ℕ → List ℕ × Answer
new_node m h number =
    cond (eqb (create_no m h) DONE)
    (cond (eqb h.first 0) (fresh m h number) (reused m h number))
    (m, answer h (create_no m h) 0)

-- The whole call: FRAME, SCRATCH, INVALID, FULL, else the creation; words, scratch and answer.
unfoldable pub new_call : List ℕ → Header → List ℕ → ℕ → List ℕ × List ℕ × Answer
new_call m h scratch number = guarded m h scratch (new_node m h number)
