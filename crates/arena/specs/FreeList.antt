-- The free chain: a creation takes its first slot, a freed slot joins at its end, and a spent slot never does.
-- Excluded: handing out the latest freed slot; linking a slot at −32,768, which would be handed out once more.
use Rattle.std.specs.Prelude.{cond, List, ℕ, eqb, Option, Some, None}
use Rattle.link.specs.Ids.{slot_of, stamp_of}
use Rattle.link.specs.Stamps.{removed_bits}
use Rattle.link.specs.Words.{STAMP, NUMBER, word, set_word}
use Rattle.link.specs.declared.header.Header.{Header}
use Rattle.rules.specs.Answers.{header}
use Rattle.arena.specs.Nodes.{freed_at}
use Rattle.arena.specs.declared.arena.Popped.{Popped}

abbrev pub popped : ℕ → Header → Popped
popped slot h = record { slot = slot; header = h }

-- The last slot, once the first is taken and the chain goes on at next.
unfoldable pub last_left : ℕ → ℕ → ℕ
last_left next last = cond (eqb next 0) 0 last

-- The first slot, 0 where there is none, and the header without it.
unfoldable pub pop_front : List ℕ → Header → Popped
pop_front m h =
    cond (eqb h.first 0) (popped 0 h)
    (let next = word m h.first NUMBER in
    popped h.first (header h.used next (last_left next h.last)))

-- The same, and nothing where there is none.
unfoldable pub pop_free : List ℕ → Header → Option Popped
pop_free m h = cond (eqb h.first 0) None (Some (pop_front m h))

-- 0 for none, and the header as it was.
abbrev pub popped_of : Header → Option Popped → Popped
popped_of h None = popped 0 h
popped_of h (Some taken) = taken

-- Slot s joins behind the last.
unfoldable pub join_last : List ℕ → Header → ℕ → List ℕ × Header
join_last m h s =
    cond (eqb h.last 0) (m, header h.used s s)
    (set_word m h.last NUMBER s, header h.used h.first s)

-- The slot that an identifier names is freed: its stamp is removed, and it joins the chain unless that spends it.
unfoldable pub free_node : List ℕ → Header → ℕ → List ℕ × Header
free_node m h id =
    let s = slot_of id in
    let bits = removed_bits (stamp_of (word m s STAMP)) in
    let m₁ = freed_at m s bits in
    cond (eqb bits 32768) (m₁, h) (join_last m₁ h s)
