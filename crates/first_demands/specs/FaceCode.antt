-- Every function of the face for C and Rust does a call of document 01: what its own statement allows is what `done` says, with the header as three
-- words and the result behind a pointer. Excluded: a function of the face that does another call; a number written as the result.
use Rattle.std.specs.Prelude.{◌≡◌, List, ℕ}
use Rattle.std.proofs.Common.{ap}
use Rattle.link.specs.Words.{NUMBER, PARENT, PREVIOUS, NEXT, FIRST, LAST}
use Rattle.rules.specs.Answers.{reply, answer}
use Rattle.arena.specs.Create.{new_call}
use Rattle.arena.specs.Census.{counted}
use Rattle.moves.specs.declared.place.Place.TheVariants.{Append, Prepend, After, Before}
use Rattle.lists.specs.declared.order.Order.TheVariants.{Descendants, Leaves, Ancestors, Children, FollowingSiblings, PrecedingSiblings, Predecessors}
use Rattle.command.specs.declared.call.Change.TheVariants.{New, Move, Detach, DetachChildren, Remove, RemoveSubtree, RemoveChildren, Value}
use Rattle.lift_c.specs.Face.{header_of, census_of}
use Rattle.lift_c.specs.State.{walk_of, start_call, walk_call}
use Rattle.history.specs.Calls.{memory, change, read, single, counts_live, counts_descendants, list, levels, compare_with, start, replies, counts, number_of, result_of}
use Rattle.first_demands.specs.Every.{one, done, list_of}
use Rattle.first_demands.specs.Code.{Says, changed, batched, read_by, listed}
use Rattle.history.specs.Calls as call
use Rattle.first_demands.specs.Every as every
use Rattle.lift_c.proofs.creating.lift_new_node
use Rattle.lift_c.proofs.moving.lift_checked_append
use Rattle.lift_c.proofs.moving.lift_checked_prepend
use Rattle.lift_c.proofs.moving.lift_checked_insert_after
use Rattle.lift_c.proofs.moving.lift_checked_insert_before
use Rattle.lift_c.proofs.creating.lift_append_value
use Rattle.lift_c.proofs.creating.lift_prepend_value
use Rattle.lift_c.proofs.creating.lift_insert_after_value
use Rattle.lift_c.proofs.creating.lift_insert_before_value
use Rattle.lift_c.proofs.moving.lift_checked_detach
use Rattle.lift_c.proofs.moving.lift_checked_detach_children
use Rattle.lift_c.proofs.removing.lift_checked_remove
use Rattle.lift_c.proofs.removing.lift_checked_remove_subtree
use Rattle.lift_c.proofs.removing.lift_remove_children
use Rattle.lift_c.proofs.reading.lift_set
use Rattle.lift_c.proofs.reading.lift_get
use Rattle.lift_c.proofs.reading.lift_parent
use Rattle.lift_c.proofs.reading.lift_first_child
use Rattle.lift_c.proofs.reading.lift_last_child
use Rattle.lift_c.proofs.reading.lift_next_sibling
use Rattle.lift_c.proofs.reading.lift_previous_sibling
use Rattle.lift_c.proofs.validating.lift_validate
use Rattle.lift_c.proofs.counting.lift_live_count
use Rattle.lift_c.proofs.listing.lift_descendant_count
use Rattle.lift_c.proofs.counting.lift_census
use Rattle.lift_c.proofs.listing.lift_descendants
use Rattle.lift_c.proofs.listing.lift_leaves
use Rattle.lift_c.proofs.listing.lift_ancestors
use Rattle.lift_c.proofs.listing.lift_children
use Rattle.lift_c.proofs.listing.lift_following_siblings
use Rattle.lift_c.proofs.listing.lift_preceding_siblings
use Rattle.lift_c.proofs.listing.lift_predecessors
use Rattle.lift_c.proofs.listing.lift_breadth_first
use Rattle.lift_c.proofs.comparing.lift_subtree_eq
use Rattle.lift_c.proofs.imaging.lift_save
use Rattle.lift_c.proofs.imaging.lift_load
use Rattle.lift_c.proofs.reading.lift_clear
use Rattle.lift_c.proofs.batching.lift_batch
use Rattle.lift_c.proofs.walking.lift_walk_start
use Rattle.lift_c.proofs.walking.lift_walk

-- ---- the changes

pub does-lift_new_node : Says lift_new_node.Kinds.ps lift_new_node.Kinds.r lift_new_node.Reads.Learnt
    (λ _ (words, (header, (scratch, (number, _)))) (r, (words', (header', (scratch', (_, (result', _)))))) _.
    changed (words', scratch', answer (header_of header') r result')
    ≡ done (one (change New number 0)) (memory words.now (header_of header.now) scratch.now))
unfolding new_call
does-lift_new_node _ _ _ p _ = ap changed p

pub does-lift_checked_append : Says lift_checked_append.Kinds.ps lift_checked_append.Kinds.r lift_checked_append.Reads.Learnt
    (λ _ (words, (header, (scratch, (target, (moved, _))))) (r, (words', (header', (scratch', (_, (_, (result', _))))))) _.
    changed (words', scratch', answer (header_of header') r result')
    ≡ done (one (change (Move Append) target moved)) (memory words.now (header_of header.now) scratch.now))
does-lift_checked_append _ _ _ p _ = ap changed p

pub does-lift_checked_prepend : Says lift_checked_prepend.Kinds.ps lift_checked_prepend.Kinds.r lift_checked_prepend.Reads.Learnt
    (λ _ (words, (header, (scratch, (target, (moved, _))))) (r, (words', (header', (scratch', (_, (_, (result', _))))))) _.
    changed (words', scratch', answer (header_of header') r result')
    ≡ done (one (change (Move Prepend) target moved)) (memory words.now (header_of header.now) scratch.now))
does-lift_checked_prepend _ _ _ p _ = ap changed p

pub does-lift_checked_insert_after : Says lift_checked_insert_after.Kinds.ps lift_checked_insert_after.Kinds.r lift_checked_insert_after.Reads.Learnt
    (λ _ (words, (header, (scratch, (target, (moved, _))))) (r, (words', (header', (scratch', (_, (_, (result', _))))))) _.
    changed (words', scratch', answer (header_of header') r result')
    ≡ done (one (change (Move After) target moved)) (memory words.now (header_of header.now) scratch.now))
does-lift_checked_insert_after _ _ _ p _ = ap changed p

pub does-lift_checked_insert_before : Says lift_checked_insert_before.Kinds.ps lift_checked_insert_before.Kinds.r lift_checked_insert_before.Reads.Learnt
    (λ _ (words, (header, (scratch, (target, (moved, _))))) (r, (words', (header', (scratch', (_, (_, (result', _))))))) _.
    changed (words', scratch', answer (header_of header') r result')
    ≡ done (one (change (Move Before) target moved)) (memory words.now (header_of header.now) scratch.now))
does-lift_checked_insert_before _ _ _ p _ = ap changed p

pub does-lift_append_value : Says lift_append_value.Kinds.ps lift_append_value.Kinds.r lift_append_value.Reads.Learnt
    (λ _ (words, (header, (scratch, (target, (number, _))))) (r, (words', (header', (scratch', (_, (_, (result', _))))))) _.
    changed (words', scratch', answer (header_of header') r result')
    ≡ done (one (change (Value Append) target number)) (memory words.now (header_of header.now) scratch.now))
does-lift_append_value _ _ _ p _ = ap changed p

pub does-lift_prepend_value : Says lift_prepend_value.Kinds.ps lift_prepend_value.Kinds.r lift_prepend_value.Reads.Learnt
    (λ _ (words, (header, (scratch, (target, (number, _))))) (r, (words', (header', (scratch', (_, (_, (result', _))))))) _.
    changed (words', scratch', answer (header_of header') r result')
    ≡ done (one (change (Value Prepend) target number)) (memory words.now (header_of header.now) scratch.now))
does-lift_prepend_value _ _ _ p _ = ap changed p

pub does-lift_insert_after_value : Says lift_insert_after_value.Kinds.ps lift_insert_after_value.Kinds.r lift_insert_after_value.Reads.Learnt
    (λ _ (words, (header, (scratch, (target, (number, _))))) (r, (words', (header', (scratch', (_, (_, (result', _))))))) _.
    changed (words', scratch', answer (header_of header') r result')
    ≡ done (one (change (Value After) target number)) (memory words.now (header_of header.now) scratch.now))
does-lift_insert_after_value _ _ _ p _ = ap changed p

pub does-lift_insert_before_value : Says lift_insert_before_value.Kinds.ps lift_insert_before_value.Kinds.r lift_insert_before_value.Reads.Learnt
    (λ _ (words, (header, (scratch, (target, (number, _))))) (r, (words', (header', (scratch', (_, (_, (result', _))))))) _.
    changed (words', scratch', answer (header_of header') r result')
    ≡ done (one (change (Value Before) target number)) (memory words.now (header_of header.now) scratch.now))
does-lift_insert_before_value _ _ _ p _ = ap changed p

pub does-lift_checked_detach : Says lift_checked_detach.Kinds.ps lift_checked_detach.Kinds.r lift_checked_detach.Reads.Learnt
    (λ _ (words, (header, (scratch, (id, _)))) (r, (words', (header', (scratch', (_, (result', _)))))) _.
    changed (words', scratch', answer (header_of header') r result')
    ≡ done (one (change Detach id 0)) (memory words.now (header_of header.now) scratch.now))
does-lift_checked_detach _ _ _ p _ = ap changed p

pub does-lift_checked_detach_children : Says lift_checked_detach_children.Kinds.ps lift_checked_detach_children.Kinds.r lift_checked_detach_children.Reads.Learnt
    (λ _ (words, (header, (scratch, (id, _)))) (r, (words', (header', (scratch', (_, (result', _)))))) _.
    changed (words', scratch', answer (header_of header') r result')
    ≡ done (one (change DetachChildren id 0)) (memory words.now (header_of header.now) scratch.now))
does-lift_checked_detach_children _ _ _ p _ = ap changed p

pub does-lift_checked_remove : Says lift_checked_remove.Kinds.ps lift_checked_remove.Kinds.r lift_checked_remove.Reads.Learnt
    (λ _ (words, (header, (scratch, (id, _)))) (r, (words', (header', (scratch', (_, (result', _)))))) _.
    changed (words', scratch', answer (header_of header') r result')
    ≡ done (one (change Remove id 0)) (memory words.now (header_of header.now) scratch.now))
does-lift_checked_remove _ _ _ p _ = ap changed p

pub does-lift_checked_remove_subtree : Says lift_checked_remove_subtree.Kinds.ps lift_checked_remove_subtree.Kinds.r lift_checked_remove_subtree.Reads.Learnt
    (λ _ (words, (header, (scratch, (id, _)))) (r, (words', (header', (scratch', (_, (result', _)))))) _.
    changed (words', scratch', answer (header_of header') r result')
    ≡ done (one (change RemoveSubtree id 0)) (memory words.now (header_of header.now) scratch.now))
does-lift_checked_remove_subtree _ _ _ p _ = ap changed p

pub does-lift_remove_children : Says lift_remove_children.Kinds.ps lift_remove_children.Kinds.r lift_remove_children.Reads.Learnt
    (λ _ (words, (header, (scratch, (id, _)))) (r, (words', (header', (scratch', (_, (result', _)))))) _.
    changed (words', scratch', answer (header_of header') r result')
    ≡ done (one (change RemoveChildren id 0)) (memory words.now (header_of header.now) scratch.now))
does-lift_remove_children _ _ _ p _ = ap changed p

pub does-lift_set : Says lift_set.Kinds.ps lift_set.Kinds.r lift_set.Reads.Learnt
    (λ _ (words, (header, (id, (number, _)))) (r, (words', (_, (_, (_, (result', _)))))) s.
    (memory words' (header_of header.now) s, replies (reply r result'))
    ≡ done (one (call.set id number)) (memory words.now (header_of header.now) s))
does-lift_set _ (_, (header, _)) _ p s = ap (λ t. (memory t.0 (header_of header.now) s, replies t.1)) p

-- ---- single reads

pub does-lift_get : Says lift_get.Kinds.ps lift_get.Kinds.r lift_get.Reads.Learnt
    (λ _ (words, (header, (id, _))) (r, (_, (_, (_, (result', _))))) s.
    read_by words.now (header_of header.now) s (reply r result')
    ≡ done (one (read (single NUMBER id))) (memory words.now (header_of header.now) s))
does-lift_get _ (words, (header, _)) _ p s = ap (read_by words.now (header_of header.now) s) p

pub does-lift_parent : Says lift_parent.Kinds.ps lift_parent.Kinds.r lift_parent.Reads.Learnt
    (λ _ (words, (header, (id, _))) (r, (_, (_, (_, (result', _))))) s.
    read_by words.now (header_of header.now) s (reply r result')
    ≡ done (one (read (single PARENT id))) (memory words.now (header_of header.now) s))
does-lift_parent _ (words, (header, _)) _ p s = ap (read_by words.now (header_of header.now) s) p

pub does-lift_first_child : Says lift_first_child.Kinds.ps lift_first_child.Kinds.r lift_first_child.Reads.Learnt
    (λ _ (words, (header, (id, _))) (r, (_, (_, (_, (result', _))))) s.
    read_by words.now (header_of header.now) s (reply r result')
    ≡ done (one (read (single FIRST id))) (memory words.now (header_of header.now) s))
does-lift_first_child _ (words, (header, _)) _ p s = ap (read_by words.now (header_of header.now) s) p

pub does-lift_last_child : Says lift_last_child.Kinds.ps lift_last_child.Kinds.r lift_last_child.Reads.Learnt
    (λ _ (words, (header, (id, _))) (r, (_, (_, (_, (result', _))))) s.
    read_by words.now (header_of header.now) s (reply r result')
    ≡ done (one (read (single LAST id))) (memory words.now (header_of header.now) s))
does-lift_last_child _ (words, (header, _)) _ p s = ap (read_by words.now (header_of header.now) s) p

pub does-lift_next_sibling : Says lift_next_sibling.Kinds.ps lift_next_sibling.Kinds.r lift_next_sibling.Reads.Learnt
    (λ _ (words, (header, (id, _))) (r, (_, (_, (_, (result', _))))) s.
    read_by words.now (header_of header.now) s (reply r result')
    ≡ done (one (read (single NEXT id))) (memory words.now (header_of header.now) s))
does-lift_next_sibling _ (words, (header, _)) _ p s = ap (read_by words.now (header_of header.now) s) p

pub does-lift_previous_sibling : Says lift_previous_sibling.Kinds.ps lift_previous_sibling.Kinds.r lift_previous_sibling.Reads.Learnt
    (λ _ (words, (header, (id, _))) (r, (_, (_, (_, (result', _))))) s.
    read_by words.now (header_of header.now) s (reply r result')
    ≡ done (one (read (single PREVIOUS id))) (memory words.now (header_of header.now) s))
does-lift_previous_sibling _ (words, (header, _)) _ p s = ap (read_by words.now (header_of header.now) s) p

-- ---- the validator, counts

pub does-lift_validate : Says lift_validate.Kinds.ps lift_validate.Kinds.r lift_validate.Reads.Learnt
    (λ _ (words, (header, (scratch, _))) (r, (_, (_, (scratch', (result', _))))) _.
    (memory words.now (header_of header.now) scratch', replies (reply r result'))
    ≡ done (one (read call.validate)) (memory words.now (header_of header.now) scratch.now))
does-lift_validate _ (words, (header, _)) _ p _ = ap (λ t. (memory words.now (header_of header.now) t.0, replies t.1)) p

pub does-lift_live_count : Says lift_live_count.Kinds.ps lift_live_count.Kinds.r lift_live_count.Reads.Learnt
    (λ _ (words, (header, (scratch, _))) (r, (_, (_, (scratch', (result', _))))) _.
    (memory words.now (header_of header.now) scratch', replies (reply r result'))
    ≡ done (one (read counts_live)) (memory words.now (header_of header.now) scratch.now))
does-lift_live_count _ (words, (header, _)) _ p _ = ap (λ t. (memory words.now (header_of header.now) t.0, replies t.1)) p

pub does-lift_descendant_count : Says lift_descendant_count.Kinds.ps lift_descendant_count.Kinds.r lift_descendant_count.Reads.Learnt
    (λ _ (words, (header, (scratch, (id, _)))) (r, (_, (_, (scratch', (_, (result', _)))))) _.
    (memory words.now (header_of header.now) scratch', replies (reply r result'))
    ≡ done (one (read (counts_descendants id))) (memory words.now (header_of header.now) scratch.now))
does-lift_descendant_count _ (words, (header, _)) _ p _ = ap (λ t. (memory words.now (header_of header.now) t.0, replies t.1)) p

pub does-lift_census : Says lift_census.Kinds.ps lift_census.Kinds.r lift_census.Reads.Learnt
    (λ _ (words, (header, (scratch, _))) (r, (_, (_, (scratch', (numbers', _))))) _.
    (memory words.now (header_of header.now) scratch', counts (counted r (census_of numbers')))
    ≡ done (one (read call.census)) (memory words.now (header_of header.now) scratch.now))
does-lift_census _ (words, (header, _)) _ p _ = ap (λ t. (memory words.now (header_of header.now) t.0, counts t.1)) p

-- ---- lists

pub does-lift_descendants : Says lift_descendants.Kinds.ps lift_descendants.Kinds.r lift_descendants.Reads.Learnt
    (λ _ (words, (header, (scratch, (id, (places, _))))) (r, (_, (_, (scratch', (_, (places', (result', _))))))) _.
    listed words.now (header_of header.now) (scratch', places', reply r result')
    ≡ done (one (read (list Descendants id places.now))) (memory words.now (header_of header.now) scratch.now))
does-lift_descendants _ (words, (header, _)) _ p _ = ap (listed words.now (header_of header.now)) p

pub does-lift_leaves : Says lift_leaves.Kinds.ps lift_leaves.Kinds.r lift_leaves.Reads.Learnt
    (λ _ (words, (header, (scratch, (id, (places, _))))) (r, (_, (_, (scratch', (_, (places', (result', _))))))) _.
    listed words.now (header_of header.now) (scratch', places', reply r result')
    ≡ done (one (read (list Leaves id places.now))) (memory words.now (header_of header.now) scratch.now))
does-lift_leaves _ (words, (header, _)) _ p _ = ap (listed words.now (header_of header.now)) p

pub does-lift_ancestors : Says lift_ancestors.Kinds.ps lift_ancestors.Kinds.r lift_ancestors.Reads.Learnt
    (λ _ (words, (header, (scratch, (id, (places, _))))) (r, (_, (_, (scratch', (_, (places', (result', _))))))) _.
    listed words.now (header_of header.now) (scratch', places', reply r result')
    ≡ done (one (read (list Ancestors id places.now))) (memory words.now (header_of header.now) scratch.now))
does-lift_ancestors _ (words, (header, _)) _ p _ = ap (listed words.now (header_of header.now)) p

pub does-lift_children : Says lift_children.Kinds.ps lift_children.Kinds.r lift_children.Reads.Learnt
    (λ _ (words, (header, (scratch, (id, (places, _))))) (r, (_, (_, (scratch', (_, (places', (result', _))))))) _.
    listed words.now (header_of header.now) (scratch', places', reply r result')
    ≡ done (one (read (list Children id places.now))) (memory words.now (header_of header.now) scratch.now))
does-lift_children _ (words, (header, _)) _ p _ = ap (listed words.now (header_of header.now)) p

pub does-lift_following_siblings : Says lift_following_siblings.Kinds.ps lift_following_siblings.Kinds.r lift_following_siblings.Reads.Learnt
    (λ _ (words, (header, (scratch, (id, (places, _))))) (r, (_, (_, (scratch', (_, (places', (result', _))))))) _.
    listed words.now (header_of header.now) (scratch', places', reply r result')
    ≡ done (one (read (list FollowingSiblings id places.now))) (memory words.now (header_of header.now) scratch.now))
does-lift_following_siblings _ (words, (header, _)) _ p _ = ap (listed words.now (header_of header.now)) p

pub does-lift_preceding_siblings : Says lift_preceding_siblings.Kinds.ps lift_preceding_siblings.Kinds.r lift_preceding_siblings.Reads.Learnt
    (λ _ (words, (header, (scratch, (id, (places, _))))) (r, (_, (_, (scratch', (_, (places', (result', _))))))) _.
    listed words.now (header_of header.now) (scratch', places', reply r result')
    ≡ done (one (read (list PrecedingSiblings id places.now))) (memory words.now (header_of header.now) scratch.now))
does-lift_preceding_siblings _ (words, (header, _)) _ p _ = ap (listed words.now (header_of header.now)) p

pub does-lift_predecessors : Says lift_predecessors.Kinds.ps lift_predecessors.Kinds.r lift_predecessors.Reads.Learnt
    (λ _ (words, (header, (scratch, (id, (places, _))))) (r, (_, (_, (scratch', (_, (places', (result', _))))))) _.
    listed words.now (header_of header.now) (scratch', places', reply r result')
    ≡ done (one (read (list Predecessors id places.now))) (memory words.now (header_of header.now) scratch.now))
does-lift_predecessors _ (words, (header, _)) _ p _ = ap (listed words.now (header_of header.now)) p

pub does-lift_breadth_first : Says lift_breadth_first.Kinds.ps lift_breadth_first.Kinds.r lift_breadth_first.Reads.Learnt
    (λ _ (words, (header, (scratch, (id, (places, _))))) (r, (_, (_, (scratch', (_, (places', (result', _))))))) _.
    listed words.now (header_of header.now) (scratch', places', reply r result')
    ≡ done (one (read (levels id places.now))) (memory words.now (header_of header.now) scratch.now))
does-lift_breadth_first _ (words, (header, _)) _ p _ = ap (listed words.now (header_of header.now)) p

-- ---- the comparison, on the first memory

pub does-lift_subtree_eq : Says lift_subtree_eq.Kinds.ps lift_subtree_eq.Kinds.r lift_subtree_eq.Reads.Learnt
    (λ _ (words, (header, (id, (others, (other-header, (other-id, (scratch, _))))))) (r, (_, (_, (_, (_, (_, (_, (scratch', (result', _))))))))) _.
    (memory words.now (header_of header.now) scratch', replies (reply r result'))
    ≡ done (one (read (compare_with id others.now (header_of other-header.now) other-id))) (memory words.now (header_of header.now) scratch.now))
does-lift_subtree_eq _ (words, (header, _)) _ p _ = ap (λ t. (memory words.now (header_of header.now) t.0, replies t.1)) p

-- ---- save, load, clear

pub does-lift_save : Says lift_save.Kinds.ps lift_save.Kinds.r lift_save.Reads.Learnt
    (λ _ (words, (header, (scratch, (bytes, _)))) (r, (_, (_, (scratch', (bytes', (result', _)))))) _.
    listed words.now (header_of header.now) (scratch', bytes', reply r result')
    ≡ done (one (read (call.save bytes.now))) (memory words.now (header_of header.now) scratch.now))
does-lift_save _ (words, (header, _)) _ p _ = ap (listed words.now (header_of header.now)) p

pub does-lift_load : Says lift_load.Kinds.ps lift_load.Kinds.r lift_load.Reads.Learnt
    (λ _ (bytes, (words, (header, (scratch, _)))) (r, (_, (words', (header', (scratch', (result', _)))))) _.
    changed (words', scratch', answer (header_of header') r result')
    ≡ done (every.load bytes.now) (memory words.now (header_of header.now) scratch.now))
does-lift_load _ _ _ p _ = ap changed p

pub does-lift_clear : Says lift_clear.Kinds.ps lift_clear.Kinds.r lift_clear.Reads.Learnt
    (λ _ (header, _) (r, (header', _)) s.
    changed (s, s, answer (header_of header') r 0)
    ≡ done every.clear (memory s (header_of header.now) s))
does-lift_clear _ _ _ p s = ap (λ t. changed (s, s, t)) p

-- ---- the batch

pub does-lift_batch : Says lift_batch.Kinds.ps lift_batch.Kinds.r lift_batch.Reads.Learnt
    (λ _ (words, (header, (scratch, (trace, (places, _))))) (r, (words', (header', (scratch', (_, (places', (result', _))))))) _.
    batched (words', scratch', places', answer (header_of header') r result')
    ≡ done (every.batch trace.now places.now) (memory words.now (header_of header.now) scratch.now))
does-lift_batch _ _ _ p _ = ap batched p

-- ---- walks: the state is three words (lift_c: specs/State); what is answered and written is the walk's from where the state stands

pub does-lift_walk_start : Says lift_walk_start.Kinds.ps lift_walk_start.Kinds.r lift_walk_start.Reads.Learnt
    (λ _ (words, (header, (root, _))) (r, _) s.
    r ≡ number_of (done (one (read (start root))) (memory words.now (header_of header.now) s)).1)
unfolding start_call
does-lift_walk_start _ _ _ p _ = ap (λ t. t.1) p

pub does-lift_walk : Says lift_walk.Kinds.ps lift_walk.Kinds.r lift_walk.Reads.Learnt
    (λ _ (words, (header, (state, (budget, (places, _))))) (r, (_, (_, (_, (_, (places', (result', _))))))) s.
    let told = (done (one (read (call.walk (walk_of state.now) budget places.now))) (memory words.now (header_of header.now) s)).1 in
    ◌≡◌ {A = List ℕ × ℕ × ℕ} (places', r, result') (list_of told, number_of told, result_of told))
unfolding walk_call
does-lift_walk _ _ _ p _ = ap (λ t. (t.0, t.2.number, t.2.result)) p
