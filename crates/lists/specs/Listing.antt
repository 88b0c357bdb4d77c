-- What a list call does on ready memory, and on any: written whole, places past it unchanged, or refused with the list untouched.
-- Excluded: a list written although it does not fit; ROOM answered where an identifier is not found.
use Rattle.std.specs.Prelude.{false, cond, not, List, ℕ, eqb, ltb, length}
use Rattle.link.specs.Found.{found_b}
use Rattle.link.specs.declared.header.Header.{Header}
use Rattle.rules.specs.Answers.{DONE, refusal, reply}
use Rattle.rules.specs.declared.answer.Reply.{Reply}
use Rattle.sound.specs.Guard.{scratch_after, guard_no}
use Rattle.walk.specs.Written.{written}
use Rattle.lists.specs.Orders.{ordered}
use Rattle.lists.specs.Levels.{level_order}
use Rattle.lists.specs.declared.order.Order.{Order}
use Rattle.lists.specs.declared.order.Order.TheVariants.{Descendants}

-- REMOVED where x is not found, then ROOM where there are under n places.
unfoldable pub list_no : List ℕ → ℕ → ℕ → ℕ → List ℕ → ℕ
list_no m used x n places = refusal false false false false (not (found_b m used x)) false false (ltb (length places) n)

-- The list xs of x, for which n places are asked, and its length.
unfoldable pub listing : List ℕ → ℕ → ℕ → ℕ → List ℕ → List ℕ → List ℕ × Reply
listing m used x n xs places =
    let no = list_no m used x n places in
    cond (eqb no DONE) (written xs places, reply DONE (length xs)) (places, reply no 0)

-- A list by an order asks for as many places as it has members.
unfoldable pub listed : List ℕ → ℕ → Order → ℕ → List ℕ → List ℕ × Reply
listed m used order x places = listing m used x (length (ordered m used order x)) (ordered m used order x) places

-- Level order has the descendants' members, and asks for as many places.
unfoldable pub levels_listed : List ℕ → ℕ → ℕ → List ℕ → List ℕ × Reply
levels_listed m used x places =
    let n = length (ordered m used Descendants x) in
    listing m used x n (level_order m n x) places

-- How many nodes there are from x down, x with them.
unfoldable pub counted : List ℕ → ℕ → ℕ → Reply
counted m used x =
    let no = refusal false false false false (not (found_b m used x)) false false false in
    reply no (cond (eqb no DONE) (length (ordered m used Descendants x)) 0)

-- FRAME, SCRATCH, INVALID first: scratch, list and answer on any memory.
unfoldable pub guarded_list : List ℕ → Header → List ℕ → List ℕ → List ℕ × Reply → List ℕ × List ℕ × Reply
guarded_list m h scratch places work =
    let no = guard_no m h (length scratch) in
    cond (eqb no DONE) (scratch_after m h scratch, work.0, work.1) (scratch_after m h scratch, places, reply no 0)
