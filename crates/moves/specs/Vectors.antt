-- The models on a worked memory, computed: each place, moves to where the node stands, each refusal, and P8 of document 01.
use Rattle.std.specs.Prelude.{◌≡◌, refl, List, [], ◌∷◌, ℕ}
use Rattle.link.specs.Words.{word, set_word, link, set_link, capacity_of}
use Rattle.link.specs.Relations.{first_after, last_after, connect_neighbors}
use Rattle.link.specs.Siblings.{detach_range, rewrite_parents, transplanted, insert_with_neighbors, insert_last, insert_first}
use Rattle.link.specs.Found.{found_b}
use Rattle.link.specs.declared.header.Header.{Header}
use Rattle.rules.specs.Answers.{DONE, REMOVED, SELF, ANCESTOR, FULL, refusal, answer, header}
use Rattle.rules.specs.declared.answer.Answer.{Answer}
use Rattle.arena.specs.Nodes.{slot_at}
use Rattle.arena.specs.FreeList.{last_left, pop_front}
use Rattle.arena.specs.Create.{full_b, fresh, reused, new_node}
use Rattle.moves.specs.Detach.{detach, scatter, detach_children, name_no, detach_node, detach_children_node}
use Rattle.moves.specs.Moves.{on_path_b, ancestor_or_self_b, move_no, move_words, move_node}
use Rattle.moves.specs.Values.{value_no, value_node}
use Rattle.moves.specs.declared.place.Place.TheVariants.{Append, Prepend, After, Before}

-- A (65536) has B (131072) and C (196608), and B has D (262144), in four slots of five; and in four of four.
abbrev family : List ℕ
family =
    0 ∷ 1 ∷ 0 ∷ 0 ∷ 0 ∷ 131072 ∷ 196608 ∷
    0 ∷ 2 ∷ 65536 ∷ 0 ∷ 196608 ∷ 262144 ∷ 262144 ∷
    0 ∷ 3 ∷ 65536 ∷ 131072 ∷ 0 ∷ 0 ∷ 0 ∷
    0 ∷ 4 ∷ 131072 ∷ 0 ∷ 0 ∷ 0 ∷ 0 ∷
    0 ∷ 0 ∷ 0 ∷ 0 ∷ 0 ∷ 0 ∷ 0 ∷ []

abbrev full : List ℕ
full =
    0 ∷ 1 ∷ 0 ∷ 0 ∷ 0 ∷ 131072 ∷ 196608 ∷
    0 ∷ 2 ∷ 65536 ∷ 0 ∷ 196608 ∷ 262144 ∷ 262144 ∷
    0 ∷ 3 ∷ 65536 ∷ 131072 ∷ 0 ∷ 0 ∷ 0 ∷
    0 ∷ 4 ∷ 131072 ∷ 0 ∷ 0 ∷ 0 ∷ 0 ∷ []

abbrev four : Header
four = header 4 0 0

-- Words and answer, of several calls.
abbrev Outcomes : Type 0
Outcomes = List (List ℕ × Answer)

-- B, with D, goes under C; C goes before B; D goes between B and C; D goes before B.
pub moves : ◌≡◌ {A = Outcomes}
    (move_node Append family four 196608 131072
    ∷ move_node Prepend family four 65536 196608
    ∷ move_node After family four 131072 262144
    ∷ move_node Before family four 131072 262144 ∷ [])
    ((
      (0 ∷ 1 ∷ 0 ∷ 0 ∷ 0 ∷ 196608 ∷ 196608
          ∷ 0 ∷ 2 ∷ 196608 ∷ 0 ∷ 0 ∷ 262144 ∷ 262144
          ∷ 0 ∷ 3 ∷ 65536 ∷ 0 ∷ 0 ∷ 131072 ∷ 131072
          ∷ 0 ∷ 4 ∷ 131072 ∷ 0 ∷ 0 ∷ 0 ∷ 0
          ∷ 0 ∷ 0 ∷ 0 ∷ 0 ∷ 0 ∷ 0 ∷ 0 ∷ []),
      answer four DONE 0,
    )
    ∷ (
      (0 ∷ 1 ∷ 0 ∷ 0 ∷ 0 ∷ 196608 ∷ 131072
          ∷ 0 ∷ 2 ∷ 65536 ∷ 196608 ∷ 0 ∷ 262144 ∷ 262144
          ∷ 0 ∷ 3 ∷ 65536 ∷ 0 ∷ 131072 ∷ 0 ∷ 0
          ∷ 0 ∷ 4 ∷ 131072 ∷ 0 ∷ 0 ∷ 0 ∷ 0
          ∷ 0 ∷ 0 ∷ 0 ∷ 0 ∷ 0 ∷ 0 ∷ 0 ∷ []),
      answer four DONE 0,
    )
    ∷ (
      (0 ∷ 1 ∷ 0 ∷ 0 ∷ 0 ∷ 131072 ∷ 196608
          ∷ 0 ∷ 2 ∷ 65536 ∷ 0 ∷ 262144 ∷ 0 ∷ 0
          ∷ 0 ∷ 3 ∷ 65536 ∷ 262144 ∷ 0 ∷ 0 ∷ 0
          ∷ 0 ∷ 4 ∷ 65536 ∷ 131072 ∷ 196608 ∷ 0 ∷ 0
          ∷ 0 ∷ 0 ∷ 0 ∷ 0 ∷ 0 ∷ 0 ∷ 0 ∷ []),
      answer four DONE 0,
    )
    ∷ (
      (0 ∷ 1 ∷ 0 ∷ 0 ∷ 0 ∷ 262144 ∷ 196608
          ∷ 0 ∷ 2 ∷ 65536 ∷ 262144 ∷ 196608 ∷ 0 ∷ 0
          ∷ 0 ∷ 3 ∷ 65536 ∷ 131072 ∷ 0 ∷ 0 ∷ 0
          ∷ 0 ∷ 4 ∷ 65536 ∷ 0 ∷ 131072 ∷ 0 ∷ 0
          ∷ 0 ∷ 0 ∷ 0 ∷ 0 ∷ 0 ∷ 0 ∷ 0 ∷ []),
      answer four DONE 0,
    ) ∷ [])
unfolding word set_word link set_link capacity_of first_after last_after connect_neighbors detach_range rewrite_parents transplanted insert_with_neighbors insert_last insert_first found_b refusal slot_at last_left pop_front full_b fresh reused new_node detach scatter detach_children name_no detach_node detach_children_node on_path_b ancestor_or_self_b move_no move_words move_node value_no value_node
moves = refl

-- A move to where the node stands changes no word.
pub stays : ◌≡◌ {A = Outcomes}
    (move_node Append family four 65536 196608
    ∷ move_node Prepend family four 65536 131072
    ∷ move_node After family four 131072 196608
    ∷ move_node Before family four 196608 131072 ∷ [])
    ((family, answer four DONE 0)
    ∷ (family, answer four DONE 0)
    ∷ (family, answer four DONE 0)
    ∷ (family, answer four DONE 0) ∷ [])
unfolding word set_word link set_link capacity_of first_after last_after connect_neighbors detach_range rewrite_parents transplanted insert_with_neighbors insert_last insert_first found_b refusal slot_at last_left pop_front full_b fresh reused new_node detach scatter detach_children name_no detach_node detach_children_node on_path_b ancestor_or_self_b move_no move_words move_node value_no value_node
stays = refl

-- An ancestor of the target, also beside it; an identifier that is not found, as moved and as target.
pub refused : ◌≡◌ {A = Outcomes}
    (move_node Append family four 262144 65536
    ∷ move_node After family four 131072 65536
    ∷ move_node Before family four 131072 196609
    ∷ move_node Before family four 196609 131072 ∷ [])
    ((family, answer four ANCESTOR 0)
    ∷ (family, answer four ANCESTOR 0)
    ∷ (family, answer four REMOVED 0)
    ∷ (family, answer four REMOVED 0) ∷ [])
unfolding word set_word link set_link capacity_of first_after last_after connect_neighbors detach_range rewrite_parents transplanted insert_with_neighbors insert_last insert_first found_b refusal slot_at last_left pop_front full_b fresh reused new_node detach scatter detach_children name_no detach_node detach_children_node on_path_b ancestor_or_self_b move_no move_words move_node value_no value_node
refused = refl

-- P8: append A under A, both stale: SELF.
pub P8-stale : ◌≡◌ {A = Outcomes}
    (move_node Append family four 65537 65537 ∷ [])
    ((family, answer four SELF 0) ∷ [])
unfolding word set_word link set_link capacity_of first_after last_after connect_neighbors detach_range rewrite_parents transplanted insert_with_neighbors insert_last insert_first found_b refusal slot_at last_left pop_front full_b fresh reused new_node detach scatter detach_children name_no detach_node detach_children_node on_path_b ancestor_or_self_b move_no move_words move_node value_no value_node
P8-stale = refl

-- B, with D, becomes a chain of one; so do B and C; refusals.
pub detached : ◌≡◌ {A = Outcomes}
    (detach_node family four 131072
    ∷ detach_children_node family four 65536
    ∷ detach_node family four 65537
    ∷ detach_children_node family four 0 ∷ [])
    ((
      (0 ∷ 1 ∷ 0 ∷ 0 ∷ 0 ∷ 196608 ∷ 196608
          ∷ 0 ∷ 2 ∷ 0 ∷ 0 ∷ 0 ∷ 262144 ∷ 262144
          ∷ 0 ∷ 3 ∷ 65536 ∷ 0 ∷ 0 ∷ 0 ∷ 0
          ∷ 0 ∷ 4 ∷ 131072 ∷ 0 ∷ 0 ∷ 0 ∷ 0
          ∷ 0 ∷ 0 ∷ 0 ∷ 0 ∷ 0 ∷ 0 ∷ 0 ∷ []),
      answer four DONE 0,
    )
    ∷ (
      (0 ∷ 1 ∷ 0 ∷ 0 ∷ 0 ∷ 0 ∷ 0
          ∷ 0 ∷ 2 ∷ 0 ∷ 0 ∷ 0 ∷ 262144 ∷ 262144
          ∷ 0 ∷ 3 ∷ 0 ∷ 0 ∷ 0 ∷ 0 ∷ 0
          ∷ 0 ∷ 4 ∷ 131072 ∷ 0 ∷ 0 ∷ 0 ∷ 0
          ∷ 0 ∷ 0 ∷ 0 ∷ 0 ∷ 0 ∷ 0 ∷ 0 ∷ []),
      answer four DONE 0,
    )
    ∷ (family, answer four REMOVED 0)
    ∷ (family, answer four REMOVED 0) ∷ [])
unfolding word set_word link set_link capacity_of first_after last_after connect_neighbors detach_range rewrite_parents transplanted insert_with_neighbors insert_last insert_first found_b refusal slot_at last_left pop_front full_b fresh reused new_node detach scatter detach_children name_no detach_node detach_children_node on_path_b ancestor_or_self_b move_no move_words move_node value_no value_node
detached = refl

-- A fifth node under A, and beside B; REMOVED before FULL.
pub values : ◌≡◌ {A = Outcomes}
    (value_node Append family four 65536 5
    ∷ value_node Prepend family four 65536 5
    ∷ value_node After family four 131072 5
    ∷ value_node Before family four 131072 5
    ∷ value_node Append full four 65536 5
    ∷ value_node Append full four 65537 5 ∷ [])
    ((
      (0 ∷ 1 ∷ 0 ∷ 0 ∷ 0 ∷ 131072 ∷ 327680
          ∷ 0 ∷ 2 ∷ 65536 ∷ 0 ∷ 196608 ∷ 262144 ∷ 262144
          ∷ 0 ∷ 3 ∷ 65536 ∷ 131072 ∷ 327680 ∷ 0 ∷ 0
          ∷ 0 ∷ 4 ∷ 131072 ∷ 0 ∷ 0 ∷ 0 ∷ 0
          ∷ 0 ∷ 5 ∷ 65536 ∷ 196608 ∷ 0 ∷ 0 ∷ 0 ∷ []),
      answer (header 5 0 0) DONE 327680,
    )
    ∷ (
      (0 ∷ 1 ∷ 0 ∷ 0 ∷ 0 ∷ 327680 ∷ 196608
          ∷ 0 ∷ 2 ∷ 65536 ∷ 327680 ∷ 196608 ∷ 262144 ∷ 262144
          ∷ 0 ∷ 3 ∷ 65536 ∷ 131072 ∷ 0 ∷ 0 ∷ 0
          ∷ 0 ∷ 4 ∷ 131072 ∷ 0 ∷ 0 ∷ 0 ∷ 0
          ∷ 0 ∷ 5 ∷ 65536 ∷ 0 ∷ 131072 ∷ 0 ∷ 0 ∷ []),
      answer (header 5 0 0) DONE 327680,
    )
    ∷ (
      (0 ∷ 1 ∷ 0 ∷ 0 ∷ 0 ∷ 131072 ∷ 196608
          ∷ 0 ∷ 2 ∷ 65536 ∷ 0 ∷ 327680 ∷ 262144 ∷ 262144
          ∷ 0 ∷ 3 ∷ 65536 ∷ 327680 ∷ 0 ∷ 0 ∷ 0
          ∷ 0 ∷ 4 ∷ 131072 ∷ 0 ∷ 0 ∷ 0 ∷ 0
          ∷ 0 ∷ 5 ∷ 65536 ∷ 131072 ∷ 196608 ∷ 0 ∷ 0 ∷ []),
      answer (header 5 0 0) DONE 327680,
    )
    ∷ (
      (0 ∷ 1 ∷ 0 ∷ 0 ∷ 0 ∷ 327680 ∷ 196608
          ∷ 0 ∷ 2 ∷ 65536 ∷ 327680 ∷ 196608 ∷ 262144 ∷ 262144
          ∷ 0 ∷ 3 ∷ 65536 ∷ 131072 ∷ 0 ∷ 0 ∷ 0
          ∷ 0 ∷ 4 ∷ 131072 ∷ 0 ∷ 0 ∷ 0 ∷ 0
          ∷ 0 ∷ 5 ∷ 65536 ∷ 0 ∷ 131072 ∷ 0 ∷ 0 ∷ []),
      answer (header 5 0 0) DONE 327680,
    )
    ∷ (full, answer four FULL 0)
    ∷ (full, answer four REMOVED 0) ∷ [])
unfolding word set_word link set_link capacity_of first_after last_after connect_neighbors detach_range rewrite_parents transplanted insert_with_neighbors insert_last insert_first found_b refusal slot_at last_left pop_front full_b fresh reused new_node detach scatter detach_children name_no detach_node detach_children_node on_path_b ancestor_or_self_b move_no move_words move_node value_no value_node
values = refl
