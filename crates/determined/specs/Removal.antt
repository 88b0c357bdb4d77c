-- Crate removal: remove, remove subtree, remove children. Its public functions, each with one outcome.
-- Excluded: a removal free in the order in which it frees; a removed slot with any number left in it.
use Rattle.rules.specs.Answers.{answer_changed}
use Rattle.rules.proofs.AnswerLaws.{answer_changed-one}
use Rattle.determined.specs.Outcome.{OneOutcome, one_value, one_left, one-two_left}
use Rattle.removal.proofs.id.remove
use Rattle.removal.proofs.id.remove_descendants
use Rattle.removal.proofs.id.remove_subtree
use Rattle.removal.proofs.removal.remove_found
use Rattle.removal.proofs.removal.remove_subtree_found
use Rattle.removal.proofs.removal.remove_children_found
use Rattle.removal.proofs.removal.checked_remove
use Rattle.removal.proofs.removal.checked_remove_subtree
use Rattle.removal.proofs.removal.remove_children

pub one-remove : OneOutcome remove.Kinds.ps remove.Kinds.r remove.Reads.Learnt
one-remove _ _ _ _ = one_value (λ t. (t.1, (t.0, (tt, (tt, tt)))))

pub one-remove_descendants : OneOutcome remove_descendants.Kinds.ps remove_descendants.Kinds.r remove_descendants.Reads.Learnt
one-remove_descendants _ _ _ _ = one_value (λ t. (t.1, (t.0, (tt, (tt, tt)))))

pub one-remove_subtree : OneOutcome remove_subtree.Kinds.ps remove_subtree.Kinds.r remove_subtree.Reads.Learnt
one-remove_subtree _ _ _ _ = one_value (λ t. (t.1, (t.0, (tt, (tt, tt)))))

pub one-remove_found : OneOutcome remove_found.Kinds.ps remove_found.Kinds.r remove_found.Reads.Learnt
one-remove_found _ _ _ _ = one_left (answer_changed _) (answer_changed-one _) (λ m r. (r, (m, (tt, (tt, tt)))))

pub one-remove_subtree_found : OneOutcome remove_subtree_found.Kinds.ps remove_subtree_found.Kinds.r remove_subtree_found.Reads.Learnt
one-remove_subtree_found _ _ _ _ = one_left (answer_changed _) (answer_changed-one _) (λ m r. (r, (m, (tt, (tt, tt)))))

pub one-remove_children_found : OneOutcome remove_children_found.Kinds.ps remove_children_found.Kinds.r remove_children_found.Reads.Learnt
one-remove_children_found _ _ _ _ = one_left (answer_changed _) (answer_changed-one _) (λ m r. (r, (m, (tt, (tt, tt)))))

pub one-checked_remove : OneOutcome checked_remove.Kinds.ps checked_remove.Kinds.r checked_remove.Reads.Learnt
one-checked_remove _ _ _ _ = one-two_left (answer_changed _) (answer_changed-one _) (λ m s r. (r, (m, (tt, (s, (tt, tt))))))

pub one-checked_remove_subtree : OneOutcome checked_remove_subtree.Kinds.ps checked_remove_subtree.Kinds.r checked_remove_subtree.Reads.Learnt
one-checked_remove_subtree _ _ _ _ = one-two_left (answer_changed _) (answer_changed-one _) (λ m s r. (r, (m, (tt, (s, (tt, tt))))))

pub one-remove_children : OneOutcome remove_children.Kinds.ps remove_children.Kinds.r remove_children.Reads.Learnt
one-remove_children _ _ _ _ = one-two_left (answer_changed _) (answer_changed-one _) (λ m s r. (r, (m, (tt, (s, (tt, tt))))))
