-- The face for C and Rust: every exported function, with one outcome. An array of three words has three; of that and of the statement it follows.
-- Excluded: a header behind its pointer left open by a refused call; a result not written; a state of a walk that a refusal may change.
use denote.RattleType.{RattleType}
use denote.Param.Laws.{Laws, IsCopy}
use mir.Syntax.{Dict}
use Rattle.std.specs.Prelude.{◌≡◌, refl, length}
use Rattle.std.specs.declared.clone.Clone.{Ghosts}
use Rattle.rules.specs.declared.answer.Outcome.{Ghosts as ValueGhosts}
use Rattle.determined.specs.Outcome.{OneOutcome, OneSized, one_value}
use Rattle.determined.specs.FaceLaws.{with-header, with-census}
use Rattle.lift_c.proofs.batching.lift_batch
use Rattle.lift_c.proofs.comparing.lift_subtree_eq
use Rattle.lift_c.proofs.counting.lift_live_count
use Rattle.lift_c.proofs.creating.lift_new_node
use Rattle.lift_c.proofs.creating.lift_append_value
use Rattle.lift_c.proofs.creating.lift_prepend_value
use Rattle.lift_c.proofs.creating.lift_insert_after_value
use Rattle.lift_c.proofs.creating.lift_insert_before_value
use Rattle.lift_c.proofs.imaging.lift_save
use Rattle.lift_c.proofs.imaging.lift_load
use Rattle.lift_c.proofs.listing.lift_descendants
use Rattle.lift_c.proofs.listing.lift_leaves
use Rattle.lift_c.proofs.listing.lift_ancestors
use Rattle.lift_c.proofs.listing.lift_children
use Rattle.lift_c.proofs.listing.lift_following_siblings
use Rattle.lift_c.proofs.listing.lift_preceding_siblings
use Rattle.lift_c.proofs.listing.lift_predecessors
use Rattle.lift_c.proofs.listing.lift_breadth_first
use Rattle.lift_c.proofs.listing.lift_descendant_count
use Rattle.lift_c.proofs.moving.lift_checked_append
use Rattle.lift_c.proofs.moving.lift_checked_prepend
use Rattle.lift_c.proofs.moving.lift_checked_insert_after
use Rattle.lift_c.proofs.moving.lift_checked_insert_before
use Rattle.lift_c.proofs.moving.lift_checked_detach
use Rattle.lift_c.proofs.moving.lift_checked_detach_children
use Rattle.lift_c.proofs.packing.header_of
use Rattle.lift_c.proofs.reading.lift_get
use Rattle.lift_c.proofs.reading.lift_parent
use Rattle.lift_c.proofs.reading.lift_first_child
use Rattle.lift_c.proofs.reading.lift_last_child
use Rattle.lift_c.proofs.reading.lift_next_sibling
use Rattle.lift_c.proofs.reading.lift_previous_sibling
use Rattle.lift_c.proofs.reading.lift_set
use Rattle.lift_c.proofs.reading.lift_clear
use Rattle.lift_c.proofs.removing.lift_checked_remove
use Rattle.lift_c.proofs.removing.lift_checked_remove_subtree
use Rattle.lift_c.proofs.removing.lift_remove_children
use Rattle.lift_c.proofs.validating.lift_validate
use Rattle.lift_c.proofs.walking.lift_walk_start
use Rattle.lift_c.proofs.walking.lift_walk
use Rattle.lift_c.proofs.counting.lift_census
use Rattle.lift_c.proofs.packing.put_header
use Rattle.lift_c.proofs.packing.put_reply
use Rattle.lift_c.proofs.packing.put_answer

pub one-lift_batch :
    OneSized lift_batch.Kinds.ps lift_batch.Kinds.r (λ _ _ x. length x.1.1.0 ≡ 3) lift_batch.Reads.Learnt
one-lift_batch _ _ _ _ l k p q = with-header (λ v t. (t.3.number, (t.0, (v, (t.1, (tt, (t.2, (t.3.result, tt)))))))) (λ t. t.3.header) l k p q refl refl

pub one-lift_subtree_eq : OneOutcome lift_subtree_eq.Kinds.ps lift_subtree_eq.Kinds.r lift_subtree_eq.Reads.Learnt
one-lift_subtree_eq _ _ _ _ = one_value (λ t. (t.1.number, (tt, (tt, (tt, (tt, (tt, (tt, (t.0, (t.1.result, tt))))))))))

pub one-lift_live_count : OneOutcome lift_live_count.Kinds.ps lift_live_count.Kinds.r lift_live_count.Reads.Learnt
one-lift_live_count _ _ _ _ = one_value (λ t. (t.1.number, (tt, (tt, (t.0, (t.1.result, tt))))))

pub one-lift_new_node :
    OneSized lift_new_node.Kinds.ps lift_new_node.Kinds.r (λ _ _ x. length x.1.1.0 ≡ 3) lift_new_node.Reads.Learnt
one-lift_new_node _ _ _ _ l k p q = with-header (λ v t. (t.2.number, (t.0, (v, (t.1, (tt, (t.2.result, tt))))))) (λ t. t.2.header) l k p q refl refl

pub one-lift_append_value :
    OneSized lift_append_value.Kinds.ps lift_append_value.Kinds.r (λ _ _ x. length x.1.1.0 ≡ 3) lift_append_value.Reads.Learnt
one-lift_append_value _ _ _ _ l k p q = with-header (λ v t. (t.2.number, (t.0, (v, (t.1, (tt, (tt, (t.2.result, tt)))))))) (λ t. t.2.header) l k p q refl refl

pub one-lift_prepend_value :
    OneSized lift_prepend_value.Kinds.ps lift_prepend_value.Kinds.r (λ _ _ x. length x.1.1.0 ≡ 3) lift_prepend_value.Reads.Learnt
one-lift_prepend_value _ _ _ _ l k p q = with-header (λ v t. (t.2.number, (t.0, (v, (t.1, (tt, (tt, (t.2.result, tt)))))))) (λ t. t.2.header) l k p q refl refl

pub one-lift_insert_after_value :
    OneSized lift_insert_after_value.Kinds.ps lift_insert_after_value.Kinds.r (λ _ _ x. length x.1.1.0 ≡ 3) lift_insert_after_value.Reads.Learnt
one-lift_insert_after_value _ _ _ _ l k p q = with-header (λ v t. (t.2.number, (t.0, (v, (t.1, (tt, (tt, (t.2.result, tt)))))))) (λ t. t.2.header) l k p q refl refl

pub one-lift_insert_before_value :
    OneSized lift_insert_before_value.Kinds.ps lift_insert_before_value.Kinds.r (λ _ _ x. length x.1.1.0 ≡ 3) lift_insert_before_value.Reads.Learnt
one-lift_insert_before_value _ _ _ _ l k p q = with-header (λ v t. (t.2.number, (t.0, (v, (t.1, (tt, (tt, (t.2.result, tt)))))))) (λ t. t.2.header) l k p q refl refl

pub one-lift_save : OneOutcome lift_save.Kinds.ps lift_save.Kinds.r lift_save.Reads.Learnt
one-lift_save _ _ _ _ = one_value (λ t. (t.2.number, (tt, (tt, (t.0, (t.1, (t.2.result, tt)))))))

pub one-lift_load :
    OneSized lift_load.Kinds.ps lift_load.Kinds.r (λ _ _ x. length x.1.1.1.0 ≡ 3) lift_load.Reads.Learnt
one-lift_load _ _ _ _ l k p q = with-header (λ v t. (t.2.number, (tt, (t.0, (v, (t.1, (t.2.result, tt))))))) (λ t. t.2.header) l k p q refl refl

pub one-lift_descendants : OneOutcome lift_descendants.Kinds.ps lift_descendants.Kinds.r lift_descendants.Reads.Learnt
one-lift_descendants _ _ _ _ = one_value (λ t. (t.2.number, (tt, (tt, (t.0, (tt, (t.1, (t.2.result, tt))))))))

pub one-lift_leaves : OneOutcome lift_leaves.Kinds.ps lift_leaves.Kinds.r lift_leaves.Reads.Learnt
one-lift_leaves _ _ _ _ = one_value (λ t. (t.2.number, (tt, (tt, (t.0, (tt, (t.1, (t.2.result, tt))))))))

pub one-lift_ancestors : OneOutcome lift_ancestors.Kinds.ps lift_ancestors.Kinds.r lift_ancestors.Reads.Learnt
one-lift_ancestors _ _ _ _ = one_value (λ t. (t.2.number, (tt, (tt, (t.0, (tt, (t.1, (t.2.result, tt))))))))

pub one-lift_children : OneOutcome lift_children.Kinds.ps lift_children.Kinds.r lift_children.Reads.Learnt
one-lift_children _ _ _ _ = one_value (λ t. (t.2.number, (tt, (tt, (t.0, (tt, (t.1, (t.2.result, tt))))))))

pub one-lift_following_siblings : OneOutcome lift_following_siblings.Kinds.ps lift_following_siblings.Kinds.r lift_following_siblings.Reads.Learnt
one-lift_following_siblings _ _ _ _ = one_value (λ t. (t.2.number, (tt, (tt, (t.0, (tt, (t.1, (t.2.result, tt))))))))

pub one-lift_preceding_siblings : OneOutcome lift_preceding_siblings.Kinds.ps lift_preceding_siblings.Kinds.r lift_preceding_siblings.Reads.Learnt
one-lift_preceding_siblings _ _ _ _ = one_value (λ t. (t.2.number, (tt, (tt, (t.0, (tt, (t.1, (t.2.result, tt))))))))

pub one-lift_predecessors : OneOutcome lift_predecessors.Kinds.ps lift_predecessors.Kinds.r lift_predecessors.Reads.Learnt
one-lift_predecessors _ _ _ _ = one_value (λ t. (t.2.number, (tt, (tt, (t.0, (tt, (t.1, (t.2.result, tt))))))))

pub one-lift_breadth_first : OneOutcome lift_breadth_first.Kinds.ps lift_breadth_first.Kinds.r lift_breadth_first.Reads.Learnt
one-lift_breadth_first _ _ _ _ = one_value (λ t. (t.2.number, (tt, (tt, (t.0, (tt, (t.1, (t.2.result, tt))))))))

pub one-lift_descendant_count : OneOutcome lift_descendant_count.Kinds.ps lift_descendant_count.Kinds.r lift_descendant_count.Reads.Learnt
one-lift_descendant_count _ _ _ _ = one_value (λ t. (t.1.number, (tt, (tt, (t.0, (tt, (t.1.result, tt)))))))

pub one-lift_checked_append :
    OneSized lift_checked_append.Kinds.ps lift_checked_append.Kinds.r (λ _ _ x. length x.1.1.0 ≡ 3) lift_checked_append.Reads.Learnt
one-lift_checked_append _ _ _ _ l k p q = with-header (λ v t. (t.2.number, (t.0, (v, (t.1, (tt, (tt, (t.2.result, tt)))))))) (λ t. t.2.header) l k p q refl refl

pub one-lift_checked_prepend :
    OneSized lift_checked_prepend.Kinds.ps lift_checked_prepend.Kinds.r (λ _ _ x. length x.1.1.0 ≡ 3) lift_checked_prepend.Reads.Learnt
one-lift_checked_prepend _ _ _ _ l k p q = with-header (λ v t. (t.2.number, (t.0, (v, (t.1, (tt, (tt, (t.2.result, tt)))))))) (λ t. t.2.header) l k p q refl refl

pub one-lift_checked_insert_after :
    OneSized lift_checked_insert_after.Kinds.ps lift_checked_insert_after.Kinds.r (λ _ _ x. length x.1.1.0 ≡ 3) lift_checked_insert_after.Reads.Learnt
one-lift_checked_insert_after _ _ _ _ l k p q = with-header (λ v t. (t.2.number, (t.0, (v, (t.1, (tt, (tt, (t.2.result, tt)))))))) (λ t. t.2.header) l k p q refl refl

pub one-lift_checked_insert_before :
    OneSized lift_checked_insert_before.Kinds.ps lift_checked_insert_before.Kinds.r (λ _ _ x. length x.1.1.0 ≡ 3) lift_checked_insert_before.Reads.Learnt
one-lift_checked_insert_before _ _ _ _ l k p q = with-header (λ v t. (t.2.number, (t.0, (v, (t.1, (tt, (tt, (t.2.result, tt)))))))) (λ t. t.2.header) l k p q refl refl

pub one-lift_checked_detach :
    OneSized lift_checked_detach.Kinds.ps lift_checked_detach.Kinds.r (λ _ _ x. length x.1.1.0 ≡ 3) lift_checked_detach.Reads.Learnt
one-lift_checked_detach _ _ _ _ l k p q = with-header (λ v t. (t.2.number, (t.0, (v, (t.1, (tt, (t.2.result, tt))))))) (λ t. t.2.header) l k p q refl refl

pub one-lift_checked_detach_children :
    OneSized lift_checked_detach_children.Kinds.ps lift_checked_detach_children.Kinds.r (λ _ _ x. length x.1.1.0 ≡ 3) lift_checked_detach_children.Reads.Learnt
one-lift_checked_detach_children _ _ _ _ l k p q = with-header (λ v t. (t.2.number, (t.0, (v, (t.1, (tt, (t.2.result, tt))))))) (λ t. t.2.header) l k p q refl refl

pub one-header_of : OneOutcome header_of.Kinds.ps header_of.Kinds.r header_of.Reads.Learnt
one-header_of _ _ _ _ = one_value (λ t. (t, (tt, tt)))

pub one-lift_get : OneOutcome lift_get.Kinds.ps lift_get.Kinds.r lift_get.Reads.Learnt
one-lift_get _ _ _ _ = one_value (λ t. (t.number, (tt, (tt, (tt, (t.result, tt))))))

pub one-lift_parent : OneOutcome lift_parent.Kinds.ps lift_parent.Kinds.r lift_parent.Reads.Learnt
one-lift_parent _ _ _ _ = one_value (λ t. (t.number, (tt, (tt, (tt, (t.result, tt))))))

pub one-lift_first_child : OneOutcome lift_first_child.Kinds.ps lift_first_child.Kinds.r lift_first_child.Reads.Learnt
one-lift_first_child _ _ _ _ = one_value (λ t. (t.number, (tt, (tt, (tt, (t.result, tt))))))

pub one-lift_last_child : OneOutcome lift_last_child.Kinds.ps lift_last_child.Kinds.r lift_last_child.Reads.Learnt
one-lift_last_child _ _ _ _ = one_value (λ t. (t.number, (tt, (tt, (tt, (t.result, tt))))))

pub one-lift_next_sibling : OneOutcome lift_next_sibling.Kinds.ps lift_next_sibling.Kinds.r lift_next_sibling.Reads.Learnt
one-lift_next_sibling _ _ _ _ = one_value (λ t. (t.number, (tt, (tt, (tt, (t.result, tt))))))

pub one-lift_previous_sibling : OneOutcome lift_previous_sibling.Kinds.ps lift_previous_sibling.Kinds.r lift_previous_sibling.Reads.Learnt
one-lift_previous_sibling _ _ _ _ = one_value (λ t. (t.number, (tt, (tt, (tt, (t.result, tt))))))

pub one-lift_set : OneOutcome lift_set.Kinds.ps lift_set.Kinds.r lift_set.Reads.Learnt
one-lift_set _ _ _ _ = one_value (λ t. (t.1.number, (t.0, (tt, (tt, (tt, (t.1.result, tt)))))))

pub one-lift_clear :
    OneSized lift_clear.Kinds.ps lift_clear.Kinds.r (λ _ _ x. length x.1.0 ≡ 3) lift_clear.Reads.Learnt
one-lift_clear _ _ _ _ l k p q = with-header (λ v t. (t.number, (v, tt))) (λ t. t.header) l k p q refl refl

pub one-lift_checked_remove :
    OneSized lift_checked_remove.Kinds.ps lift_checked_remove.Kinds.r (λ _ _ x. length x.1.1.0 ≡ 3) lift_checked_remove.Reads.Learnt
one-lift_checked_remove _ _ _ _ l k p q = with-header (λ v t. (t.2.number, (t.0, (v, (t.1, (tt, (t.2.result, tt))))))) (λ t. t.2.header) l k p q refl refl

pub one-lift_checked_remove_subtree :
    OneSized lift_checked_remove_subtree.Kinds.ps lift_checked_remove_subtree.Kinds.r (λ _ _ x. length x.1.1.0 ≡ 3) lift_checked_remove_subtree.Reads.Learnt
one-lift_checked_remove_subtree _ _ _ _ l k p q = with-header (λ v t. (t.2.number, (t.0, (v, (t.1, (tt, (t.2.result, tt))))))) (λ t. t.2.header) l k p q refl refl

pub one-lift_remove_children :
    OneSized lift_remove_children.Kinds.ps lift_remove_children.Kinds.r (λ _ _ x. length x.1.1.0 ≡ 3) lift_remove_children.Reads.Learnt
one-lift_remove_children _ _ _ _ l k p q = with-header (λ v t. (t.2.number, (t.0, (v, (t.1, (tt, (t.2.result, tt))))))) (λ t. t.2.header) l k p q refl refl

pub one-lift_validate : OneOutcome lift_validate.Kinds.ps lift_validate.Kinds.r lift_validate.Reads.Learnt
one-lift_validate _ _ _ _ = one_value (λ t. (t.1.number, (tt, (tt, (t.0, (t.1.result, tt))))))

pub one-lift_walk_start : OneOutcome lift_walk_start.Kinds.ps lift_walk_start.Kinds.r lift_walk_start.Reads.Learnt
one-lift_walk_start _ _ _ _ = one_value (λ t. (t.1, (tt, (tt, (tt, (t.0, tt))))))

pub one-lift_walk : OneOutcome lift_walk.Kinds.ps lift_walk.Kinds.r lift_walk.Reads.Learnt
one-lift_walk _ _ _ _ = one_value (λ t. (t.2.number, (tt, (tt, (t.1, (tt, (t.0, (t.2.result, tt))))))))

pub one-lift_census :
    OneSized lift_census.Kinds.ps lift_census.Kinds.r (λ _ _ x. length x.1.1.1.1.0 ≡ 4) lift_census.Reads.Learnt
one-lift_census _ _ _ _ l k p q =
    with-census (λ v t. (t.1.number, (tt, (tt, (t.0, (v, tt)))))) (λ t. t.1.census) l k p q refl refl

pub one-put_header :
    OneSized put_header.Kinds.ps put_header.Kinds.r (λ _ _ x. length x.1.0 ≡ 3) put_header.Reads.Learnt
one-put_header _ _ _ _ l k p q = with-header (λ v t. (tt, (v, (tt, tt)))) (λ t. t) l k p q refl refl

-- Of any type of values that a call hands back.
module _ (T : RattleType) (L : Laws T) (C : IsCopy T) (V : ValueGhosts T.Denot) (D : Dict) (G : Ghosts T.Denot) (E : Dict) where
  pub one-put_reply : OneOutcome (put_reply.Kinds.ps T L C) (put_reply.Kinds.r T L C) (put_reply.Reads.Learnt T L C V D G E)
  one-put_reply _ _ _ _ = one_value (λ t. (t.number, (t.result, (tt, tt))))

  pub one-put_answer :
      OneSized (put_answer.Kinds.ps T L C) (put_answer.Kinds.r T L C) (λ _ _ x. length x.1.0 ≡ 3) (put_answer.Reads.Learnt T L C V D G E)
  one-put_answer _ _ _ _ l k p q = with-header (λ v t. (t.number, (v, (t.result, (tt, (tt, tt)))))) (λ t. t.header) l k p q refl refl
