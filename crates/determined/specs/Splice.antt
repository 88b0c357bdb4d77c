-- Crate splice: the changes on ready memory by the fewest writes. Its public functions, each with one outcome.
-- Excluded: a node taken out that keeps any of its three links; a change free in which word it writes.
use Rattle.rules.specs.Answers.{answer_kept, answer_created, answer_changed}
use Rattle.rules.proofs.AnswerLaws.{answer_kept-one, answer_created-one, answer_changed-one}
use Rattle.determined.specs.Outcome.{OneOutcome, one_value, one_left}
use Rattle.splice.proofs.splice.take_out
use Rattle.splice.proofs.splice.tie_in
use Rattle.splice.proofs.splice.put_in
use Rattle.splice.proofs.spot.spot
use Rattle.splice.proofs.work.detach_ready
use Rattle.splice.proofs.work.move_ready
use Rattle.splice.proofs.work.value_ready
use Rattle.splice.proofs.work.remove_ready
use Rattle.splice.proofs.work.remove_subtree_ready

pub one-take_out : OneOutcome take_out.Kinds.ps take_out.Kinds.r take_out.Reads.Learnt
one-take_out _ _ _ _ = one_value (λ t. (tt, (t, (tt, tt))))

pub one-tie_in : OneOutcome tie_in.Kinds.ps tie_in.Kinds.r tie_in.Reads.Learnt
one-tie_in _ _ _ _ = one_value (λ t. (tt, (t, (tt, (tt, (tt, tt))))))

pub one-put_in : OneOutcome put_in.Kinds.ps put_in.Kinds.r put_in.Reads.Learnt
one-put_in _ _ _ _ = one_value (λ t. (tt, (t, (tt, (tt, tt)))))

pub one-spot : OneOutcome spot.Kinds.ps spot.Kinds.r spot.Reads.Learnt
one-spot _ _ _ _ = one_value (λ t. (t, (tt, (tt, (tt, (tt, tt))))))

pub one-detach_ready : OneOutcome detach_ready.Kinds.ps detach_ready.Kinds.r detach_ready.Reads.Learnt
one-detach_ready _ _ _ _ = one_left (answer_kept _) (answer_kept-one _) (λ m r. (r, (m, (tt, (tt, tt)))))

pub one-move_ready : OneOutcome move_ready.Kinds.ps move_ready.Kinds.r move_ready.Reads.Learnt
one-move_ready _ _ _ _ = one_left (answer_kept _) (answer_kept-one _) (λ m r. (r, (m, (tt, (tt, (tt, (tt, tt)))))))

pub one-value_ready : OneOutcome value_ready.Kinds.ps value_ready.Kinds.r value_ready.Reads.Learnt
one-value_ready _ _ _ _ = one_left (answer_created _) (answer_created-one _) (λ m r. (r, (m, (tt, (tt, (tt, (tt, tt)))))))

pub one-remove_ready : OneOutcome remove_ready.Kinds.ps remove_ready.Kinds.r remove_ready.Reads.Learnt
one-remove_ready _ _ _ _ = one_left (answer_changed _) (answer_changed-one _) (λ m r. (r, (m, (tt, (tt, tt)))))

pub one-remove_subtree_ready : OneOutcome remove_subtree_ready.Kinds.ps remove_subtree_ready.Kinds.r remove_subtree_ready.Reads.Learnt
one-remove_subtree_ready _ _ _ _ = one_left (answer_changed _) (answer_changed-one _) (λ m r. (r, (m, (tt, (tt, tt)))))
