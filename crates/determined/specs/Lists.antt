-- Crate lists: the lists but that of descendants, and the descendant count. Its public functions, each with one outcome.
-- Excluded: a refused list that may be written to; a list in any order of its members.
use Rattle.rules.specs.Answers.{reply_of}
use Rattle.rules.proofs.AnswerLaws.{reply_of-one}
use Rattle.determined.specs.Outcome.{OneOutcome, one_value, one_view, one_left, one-two_left}
use Rattle.lists.proofs.calls.leaves
use Rattle.lists.proofs.calls.ancestors
use Rattle.lists.proofs.calls.children
use Rattle.lists.proofs.calls.following_siblings
use Rattle.lists.proofs.calls.preceding_siblings
use Rattle.lists.proofs.calls.predecessors
use Rattle.lists.proofs.calls.breadth_first
use Rattle.lists.proofs.calls.descendant_count
use Rattle.lists.proofs.levels.list_levels
use Rattle.lists.proofs.lists.count_listed
use Rattle.lists.proofs.lists.write_along
use Rattle.lists.proofs.lists.write_listed
use Rattle.lists.proofs.lists.fits
use Rattle.lists.proofs.lists.list_nodes
use Rattle.lists.proofs.lists.count_nodes
use Rattle.lists.proofs.order.Order.first_of
use Rattle.lists.proofs.order.next_descendant
use Rattle.lists.proofs.order.Order.goes_down
use Rattle.lists.proofs.order.Order.near_link
use Rattle.lists.proofs.order.Order.far_link
use Rattle.lists.proofs.order.link_else
use Rattle.lists.proofs.order.Order.keeps

pub one-leaves : OneOutcome leaves.Kinds.ps leaves.Kinds.r leaves.Reads.Learnt
one-leaves _ _ _ _ = one-two_left reply_of reply_of-one (λ s l r. (r, (tt, (tt, (s, (tt, (l, tt)))))))

pub one-ancestors : OneOutcome ancestors.Kinds.ps ancestors.Kinds.r ancestors.Reads.Learnt
one-ancestors _ _ _ _ = one-two_left reply_of reply_of-one (λ s l r. (r, (tt, (tt, (s, (tt, (l, tt)))))))

pub one-children : OneOutcome children.Kinds.ps children.Kinds.r children.Reads.Learnt
one-children _ _ _ _ = one-two_left reply_of reply_of-one (λ s l r. (r, (tt, (tt, (s, (tt, (l, tt)))))))

pub one-following_siblings : OneOutcome following_siblings.Kinds.ps following_siblings.Kinds.r following_siblings.Reads.Learnt
one-following_siblings _ _ _ _ = one-two_left reply_of reply_of-one (λ s l r. (r, (tt, (tt, (s, (tt, (l, tt)))))))

pub one-preceding_siblings : OneOutcome preceding_siblings.Kinds.ps preceding_siblings.Kinds.r preceding_siblings.Reads.Learnt
one-preceding_siblings _ _ _ _ = one-two_left reply_of reply_of-one (λ s l r. (r, (tt, (tt, (s, (tt, (l, tt)))))))

pub one-predecessors : OneOutcome predecessors.Kinds.ps predecessors.Kinds.r predecessors.Reads.Learnt
one-predecessors _ _ _ _ = one-two_left reply_of reply_of-one (λ s l r. (r, (tt, (tt, (s, (tt, (l, tt)))))))

pub one-breadth_first : OneOutcome breadth_first.Kinds.ps breadth_first.Kinds.r breadth_first.Reads.Learnt
one-breadth_first _ _ _ _ = one-two_left reply_of reply_of-one (λ s l r. (r, (tt, (tt, (s, (tt, (l, tt)))))))

pub one-descendant_count : OneOutcome descendant_count.Kinds.ps descendant_count.Kinds.r descendant_count.Reads.Learnt
one-descendant_count _ _ _ _ = one_left reply_of reply_of-one (λ s r. (r, (tt, (tt, (s, (tt, tt))))))

pub one-list_levels : OneOutcome list_levels.Kinds.ps list_levels.Kinds.r list_levels.Reads.Learnt
one-list_levels _ _ _ _ = one_left reply_of reply_of-one (λ l r. (r, (tt, (tt, (tt, (l, tt))))))

pub one-count_listed : OneOutcome count_listed.Kinds.ps count_listed.Kinds.r count_listed.Reads.Learnt
one-count_listed _ _ _ _ = one_value (λ t. (t, (tt, (tt, (tt, (tt, tt))))))

pub one-write_along : OneOutcome write_along.Kinds.ps write_along.Kinds.r write_along.Reads.Learnt
one-write_along _ _ _ _ = one_value (λ t. (t.1, (tt, (tt, (tt, (tt, (tt, (t.0, (tt, tt)))))))))

pub one-write_listed : OneOutcome write_listed.Kinds.ps write_listed.Kinds.r write_listed.Reads.Learnt
one-write_listed _ _ _ _ = one_value (λ t. (t.1, (tt, (tt, (tt, (tt, (t.0, (tt, tt))))))))

pub one-fits : OneOutcome fits.Kinds.ps fits.Kinds.r fits.Reads.Learnt
one-fits _ _ _ _ = one_value (λ t. (t, (tt, (tt, (tt, (tt, (tt, tt)))))))

pub one-list_nodes : OneOutcome list_nodes.Kinds.ps list_nodes.Kinds.r list_nodes.Reads.Learnt
one-list_nodes _ _ _ _ = one_left reply_of reply_of-one (λ l r. (r, (tt, (tt, (tt, (tt, (l, tt)))))))

pub one-count_nodes : OneOutcome count_nodes.Kinds.ps count_nodes.Kinds.r count_nodes.Reads.Learnt
one-count_nodes _ _ _ _ = one_view reply_of reply_of-one (λ r. (r, (tt, (tt, (tt, tt)))))

pub one-first_of : OneOutcome first_of.Kinds.ps first_of.Kinds.r first_of.Reads.Learnt
one-first_of _ _ _ _ = one_value (λ t. (t, (tt, (tt, (tt, tt)))))

pub one-next_descendant : OneOutcome next_descendant.Kinds.ps next_descendant.Kinds.r next_descendant.Reads.Learnt
one-next_descendant _ _ _ _ = one_value (λ t. (t, (tt, (tt, (tt, (tt, tt))))))

pub one-goes_down : OneOutcome goes_down.Kinds.ps goes_down.Kinds.r goes_down.Reads.Learnt
one-goes_down _ _ _ _ = one_value (λ t. (t, (tt, tt)))

pub one-near_link : OneOutcome near_link.Kinds.ps near_link.Kinds.r near_link.Reads.Learnt
one-near_link _ _ _ _ = one_value (λ t. (t, (tt, tt)))

pub one-far_link : OneOutcome far_link.Kinds.ps far_link.Kinds.r far_link.Reads.Learnt
one-far_link _ _ _ _ = one_value (λ t. (t, (tt, tt)))

pub one-link_else : OneOutcome link_else.Kinds.ps link_else.Kinds.r link_else.Reads.Learnt
one-link_else _ _ _ _ = one_value (λ t. (t, (tt, (tt, (tt, (tt, tt))))))

pub one-keeps : OneOutcome keeps.Kinds.ps keeps.Kinds.r keeps.Reads.Learnt
one-keeps _ _ _ _ = one_value (λ t. (t, (tt, (tt, (tt, tt)))))
