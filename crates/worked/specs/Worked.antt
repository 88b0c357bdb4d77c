-- P1 to P8 of document 01, worked on paper there and proved here together: one list under one claim.
-- Excluded: the latest freed slot handed out first; a removed root's children cut apart; a stale identifier read as found.
use Rattle.std.specs.Prelude.{◌≡◌, refl, List, [], ◌∷◌, ℕ, replicate, pos, negsuc}
use Rattle.link.specs.Stamps.{removed_stamp, reused_stamp}
use Rattle.link.specs.StampLaws.{P5}
use Rattle.link.specs.Words.{NUMBER, capacity_of, word, set_word, link, set_link}
use Rattle.link.specs.Found.{Found, found_b}
use Rattle.link.specs.Relations.{first_after, last_after, connect_neighbors}
use Rattle.link.specs.Siblings.{detach_range, rewrite_parents, transplanted, insert_with_neighbors}
use Rattle.link.specs.declared.header.Header.{Header}
use Rattle.rules.specs.Answers.{DONE, REMOVED, SELF, refusal, reply, answer, header}
use Rattle.rules.specs.Sound.{Ready}
use Rattle.rules.specs.declared.answer.Answer.{Answer}
use Rattle.forest.specs.Vectors.{P6, P7}
use Rattle.arena.specs.Nodes.{slot_at}
use Rattle.arena.specs.FreeList.{last_left, pop_front, join_last, free_node}
use Rattle.arena.specs.Create.{full_b, fresh, reused, new_node}
use Rattle.arena.specs.Reads.{named_no, read_word}
use Rattle.moves.specs.Detach.{detach}
use Rattle.moves.specs.Moves.{on_path_b, ancestor_or_self_b, move_no, move_words, move_node}
use Rattle.moves.specs.MoveLaws.{P8}
use Rattle.moves.specs.declared.place.Place.TheVariants.{Append}
use Rattle.removal.specs.Descendants.{front_left, onward, leaf_freed, turn, remove_descendants}
use Rattle.removal.specs.Remove.{when_found, detached, hoisted, removed, subtree_removed, remove_node, remove_subtree}

-- Words and answer; the next call takes its header from there.
abbrev pub State : Type 0
State = List ℕ × Answer

-- So many slots of seven words each, whatever lies there, and nothing in use.
abbrev pub empty : ℕ → State
empty slots = (replicate slots 9, answer (header 0 0 0) DONE 0)

abbrev pub new : State → ℕ → State
new s number = new_node s.0 s.1.header number

abbrev pub append : State → ℕ → ℕ → State
append s target moved = move_node Append s.0 s.1.header target moved

-- The memory of P2.
abbrev pub P2-words : List ℕ
P2-words = 131071 ∷ 0 ∷ 0 ∷ 0 ∷ 0 ∷ 0 ∷ 0 ∷ 0 ∷ 20 ∷ 0 ∷ 0 ∷ 196608 ∷ 0 ∷ 0 ∷ 0 ∷ 30 ∷ 0 ∷ 131072 ∷ 0 ∷ 0 ∷ 0 ∷ []

-- After P1: new 10, 20, 30.
abbrev pub three : State
three = new (new (new (empty 21) 10) 20) 30

-- A(1) has B(2), C(3); B has D(4); then the subtree of A is removed.
abbrev pub family : State
family =
    let s = append (append (append (new (new (new (new (empty 28) 1) 2) 3) 4) 65536 131072) 65536 196608) 131072 262144 in
    remove_subtree s.0 s.1.header 65536

pub record Worked : Type 0 where
  -- New 10, 20, 30 give 65536, 131072, 196608.
  pub p1 : ((new (empty 21) 10).1.result ≡ 65536) × ((new (new (empty 21) 10) 20).1.result ≡ 131072) × (three.1.result ≡ 196608)
  -- Then 65536 gets the other two appended and is removed. Header 3, 1, 1.
  pub p2 : (let s = append (append three 65536 131072) 65536 196608 in remove_node s.0 s.1.header 65536)
      ≡ (P2-words, answer (header 3 1 1) DONE 0)
  -- Then new 40 gives 65537, and get 65536 answers 4.
  pub p3 : ((new_node P2-words (header 3 1 1) 40).1.result ≡ 65537)
      × (read_word NUMBER (new_node P2-words (header 3 1 1) 40).0 (new_node P2-words (header 3 1 1) 40).1.header 65536 ≡ reply REMOVED 0)
  -- Remove subtree of A, then four creations: 262145, 131073, 196609, 65537.
  pub p4 : ((new family 5).1.result ≡ 262145) × ((new (new family 5) 6).1.result ≡ 131073)
      × ((new (new (new family 5) 6) 7).1.result ≡ 196609) × ((new (new (new (new family 5) 6) 7) 8).1.result ≡ 65537)
  -- Stamp 0 becomes −1, then 1; 32,767 becomes −32,768.
  pub p5 : (removed_stamp (pos 0) ≡ negsuc 0) × (reused_stamp (negsuc 0) ≡ pos 1) × (removed_stamp (pos 32767) ≡ negsuc 32767)
  -- Identifier 131071 on P2's memory is not found.
  pub p6 : Found P2-words 3 131071 → ⊥
  -- Header all zero is ready over any words.
  pub p7 : (m : List ℕ) → Ready m (header 0 0 0)
  -- Append A under A, both stale: SELF.
  pub p8 : (m : List ℕ) (h : Header) (a : ℕ) → move_node Append m h a a ≡ (m, answer h SELF 0)

pub worked : Worked
unfolding new_node refusal full_b fresh reused pop_front last_left slot_at word set_word link set_link capacity_of first_after last_after connect_neighbors detach_range rewrite_parents transplanted insert_with_neighbors found_b detach on_path_b ancestor_or_self_b move_no move_words move_node free_node join_last read_word named_no when_found detached hoisted removed subtree_removed remove_node remove_subtree front_left onward leaf_freed turn remove_descendants
worked = record {
  p1 = (refl, refl, refl);
  p2 = refl;
  p3 = (refl, refl);
  p4 = (refl, refl, refl, refl);
  p5 = P5;
  p6 = P6;
  p7 = P7;
  p8 = P8 Append;
}
