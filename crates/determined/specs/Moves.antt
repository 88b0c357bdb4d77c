-- Crate moves: the four moves, the four value forms, detach, detach children. Its public functions, each with one outcome.
-- Excluded: a refused move that may change the header; a value form free to leave the new node as a root.
use Rattle.rules.specs.Answers.{number_in, answer_kept, answer_created}
use Rattle.rules.proofs.AnswerLaws.{number_in-one, answer_kept-one, answer_created-one}
use Rattle.determined.specs.Outcome.{OneOutcome, one_value, one_view, one_left, one-two_left}
use Rattle.moves.proofs.calls.checked_append
use Rattle.moves.proofs.calls.checked_prepend
use Rattle.moves.proofs.calls.checked_insert_after
use Rattle.moves.proofs.calls.checked_insert_before
use Rattle.moves.proofs.calls.append_value
use Rattle.moves.proofs.calls.prepend_value
use Rattle.moves.proofs.calls.insert_after_value
use Rattle.moves.proofs.calls.insert_before_value
use Rattle.moves.proofs.calls.checked_detach
use Rattle.moves.proofs.calls.checked_detach_children
use Rattle.moves.proofs.detach.detach
use Rattle.moves.proofs.detach.detach_children
use Rattle.moves.proofs.detach.detach_node
use Rattle.moves.proofs.detach.detach_children_node
use Rattle.moves.proofs.id.move_number
use Rattle.moves.proofs.id.move_words
use Rattle.moves.proofs.id.move_node
use Rattle.moves.proofs.place.Place.spot
use Rattle.moves.proofs.value.put_new
use Rattle.moves.proofs.value.value_node

pub one-checked_append : OneOutcome checked_append.Kinds.ps checked_append.Kinds.r checked_append.Reads.Learnt
one-checked_append _ _ _ _ = one-two_left (answer_kept _) (answer_kept-one _) (λ m s r. (r, (m, (tt, (s, (tt, (tt, tt)))))))

pub one-checked_prepend : OneOutcome checked_prepend.Kinds.ps checked_prepend.Kinds.r checked_prepend.Reads.Learnt
one-checked_prepend _ _ _ _ = one-two_left (answer_kept _) (answer_kept-one _) (λ m s r. (r, (m, (tt, (s, (tt, (tt, tt)))))))

pub one-checked_insert_after : OneOutcome checked_insert_after.Kinds.ps checked_insert_after.Kinds.r checked_insert_after.Reads.Learnt
one-checked_insert_after _ _ _ _ = one-two_left (answer_kept _) (answer_kept-one _) (λ m s r. (r, (m, (tt, (s, (tt, (tt, tt)))))))

pub one-checked_insert_before : OneOutcome checked_insert_before.Kinds.ps checked_insert_before.Kinds.r checked_insert_before.Reads.Learnt
one-checked_insert_before _ _ _ _ = one-two_left (answer_kept _) (answer_kept-one _) (λ m s r. (r, (m, (tt, (s, (tt, (tt, tt)))))))

pub one-append_value : OneOutcome append_value.Kinds.ps append_value.Kinds.r append_value.Reads.Learnt
one-append_value _ _ _ _ = one-two_left (answer_created _) (answer_created-one _) (λ m s r. (r, (m, (tt, (s, (tt, (tt, tt)))))))

pub one-prepend_value : OneOutcome prepend_value.Kinds.ps prepend_value.Kinds.r prepend_value.Reads.Learnt
one-prepend_value _ _ _ _ = one-two_left (answer_created _) (answer_created-one _) (λ m s r. (r, (m, (tt, (s, (tt, (tt, tt)))))))

pub one-insert_after_value : OneOutcome insert_after_value.Kinds.ps insert_after_value.Kinds.r insert_after_value.Reads.Learnt
one-insert_after_value _ _ _ _ = one-two_left (answer_created _) (answer_created-one _) (λ m s r. (r, (m, (tt, (s, (tt, (tt, tt)))))))

pub one-insert_before_value : OneOutcome insert_before_value.Kinds.ps insert_before_value.Kinds.r insert_before_value.Reads.Learnt
one-insert_before_value _ _ _ _ = one-two_left (answer_created _) (answer_created-one _) (λ m s r. (r, (m, (tt, (s, (tt, (tt, tt)))))))

pub one-checked_detach : OneOutcome checked_detach.Kinds.ps checked_detach.Kinds.r checked_detach.Reads.Learnt
one-checked_detach _ _ _ _ = one-two_left (answer_kept _) (answer_kept-one _) (λ m s r. (r, (m, (tt, (s, (tt, tt))))))

pub one-checked_detach_children : OneOutcome checked_detach_children.Kinds.ps checked_detach_children.Kinds.r checked_detach_children.Reads.Learnt
one-checked_detach_children _ _ _ _ = one-two_left (answer_kept _) (answer_kept-one _) (λ m s r. (r, (m, (tt, (s, (tt, tt))))))

pub one-detach : OneOutcome detach.Kinds.ps detach.Kinds.r detach.Reads.Learnt
one-detach _ _ _ _ = one_value (λ t. (tt, (t, (tt, tt))))

pub one-detach_children : OneOutcome detach_children.Kinds.ps detach_children.Kinds.r detach_children.Reads.Learnt
one-detach_children _ _ _ _ = one_value (λ t. (tt, (t, (tt, (tt, tt)))))

pub one-detach_node : OneOutcome detach_node.Kinds.ps detach_node.Kinds.r detach_node.Reads.Learnt
one-detach_node _ _ _ _ = one_left (answer_kept _) (answer_kept-one _) (λ m r. (r, (m, (tt, (tt, tt)))))

pub one-detach_children_node : OneOutcome detach_children_node.Kinds.ps detach_children_node.Kinds.r detach_children_node.Reads.Learnt
one-detach_children_node _ _ _ _ = one_left (answer_kept _) (answer_kept-one _) (λ m r. (r, (m, (tt, (tt, tt)))))

pub one-move_number : OneOutcome move_number.Kinds.ps move_number.Kinds.r move_number.Reads.Learnt
one-move_number _ _ _ _ = one_view number_in number_in-one (λ r. (r, (tt, (tt, (tt, (tt, tt))))))

pub one-move_words : OneOutcome move_words.Kinds.ps move_words.Kinds.r move_words.Reads.Learnt
one-move_words _ _ _ _ = one_value (λ t. (tt, (t, (tt, (tt, (tt, (tt, tt)))))))

pub one-move_node : OneOutcome move_node.Kinds.ps move_node.Kinds.r move_node.Reads.Learnt
one-move_node _ _ _ _ = one_left (answer_kept _) (answer_kept-one _) (λ m r. (r, (m, (tt, (tt, (tt, (tt, tt)))))))

pub one-spot : OneOutcome spot.Kinds.ps spot.Kinds.r spot.Reads.Learnt
one-spot _ _ _ _ = one_value (λ t. (t, (tt, (tt, (tt, tt)))))

pub one-put_new : OneOutcome put_new.Kinds.ps put_new.Kinds.r put_new.Reads.Learnt
one-put_new _ _ _ _ = one_value (λ t. (t.1, (t.0, (tt, (tt, (tt, (tt, tt)))))))

pub one-value_node : OneOutcome value_node.Kinds.ps value_node.Kinds.r value_node.Reads.Learnt
one-value_node _ _ _ _ = one_left (answer_created _) (answer_created-one _) (λ m r. (r, (m, (tt, (tt, (tt, (tt, tt)))))))
