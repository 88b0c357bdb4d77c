-- Crate arena: creation, the free chain, single reads, set, clear, the census. Its public functions, each with one outcome.
-- Excluded: a creation free to choose its slot; a refused set that may still write.
use Rattle.rules.specs.Answers.{reply_of, reply_done, answer_created}
use Rattle.rules.proofs.AnswerLaws.{reply_of-one, reply_done-one, answer_created-one}
use Rattle.arena.specs.Census.{counted_of}
use Rattle.arena.specs.CensusCallLaws.{counted_of-one}
use Rattle.determined.specs.Outcome.{OneOutcome, one_value, one_view, one_left, one-two_left}
use Rattle.arena.proofs.arena.pop_front_free_node
use Rattle.arena.proofs.arena.free_node
use Rattle.arena.proofs.arena.create
use Rattle.arena.proofs.arena.clear
use Rattle.arena.proofs.arena.new_node
use Rattle.arena.proofs.arena.live_count
use Rattle.arena.proofs.arena.census
use Rattle.arena.proofs.census.count_live
use Rattle.arena.proofs.census.count_census
use Rattle.arena.proofs.node.write_node
use Rattle.arena.proofs.node.read
use Rattle.arena.proofs.node.get
use Rattle.arena.proofs.node.parent
use Rattle.arena.proofs.node.first_child
use Rattle.arena.proofs.node.last_child
use Rattle.arena.proofs.node.previous_sibling
use Rattle.arena.proofs.node.next_sibling
use Rattle.arena.proofs.node.set

pub one-pop_front_free_node : OneOutcome pop_front_free_node.Kinds.ps pop_front_free_node.Kinds.r pop_front_free_node.Reads.Learnt
one-pop_front_free_node _ _ _ _ = one_value (λ t. (t, (tt, (tt, tt))))

pub one-free_node : OneOutcome free_node.Kinds.ps free_node.Kinds.r free_node.Reads.Learnt
one-free_node _ _ _ _ = one_value (λ t. (t.1, (t.0, (tt, (tt, tt)))))

pub one-create : OneOutcome create.Kinds.ps create.Kinds.r create.Reads.Learnt
one-create _ _ _ _ = one_left (answer_created _) (answer_created-one _) (λ m r. (r, (m, (tt, (tt, tt)))))

pub one-clear : OneOutcome clear.Kinds.ps clear.Kinds.r clear.Reads.Learnt
one-clear _ _ _ _ = one_value (λ t. (t, tt))

pub one-new_node : OneOutcome new_node.Kinds.ps new_node.Kinds.r new_node.Reads.Learnt
one-new_node _ _ _ _ = one-two_left (answer_created _) (answer_created-one _) (λ m s r. (r, (m, (tt, (s, (tt, tt))))))

pub one-live_count : OneOutcome live_count.Kinds.ps live_count.Kinds.r live_count.Reads.Learnt
one-live_count _ _ _ _ = one_left reply_of reply_of-one (λ s r. (r, (tt, (tt, (s, tt)))))

pub one-census : OneOutcome census.Kinds.ps census.Kinds.r census.Reads.Learnt
one-census _ _ _ _ = one_left counted_of counted_of-one (λ s r. (r, (tt, (tt, (s, tt)))))

pub one-count_live : OneOutcome count_live.Kinds.ps count_live.Kinds.r count_live.Reads.Learnt
one-count_live _ _ _ _ = one_value (λ t. (t, (tt, (tt, tt))))

pub one-count_census : OneOutcome count_census.Kinds.ps count_census.Kinds.r count_census.Reads.Learnt
one-count_census _ _ _ _ = one_value (λ t. (t, (tt, (tt, tt))))

pub one-write_node : OneOutcome write_node.Kinds.ps write_node.Kinds.r write_node.Reads.Learnt
one-write_node _ _ _ _ = one_value (λ t. (tt, (t, (tt, (tt, (tt, tt))))))

pub one-read : OneOutcome read.Kinds.ps read.Kinds.r read.Reads.Learnt
one-read _ _ _ _ = one_view reply_of reply_of-one (λ r. (r, (tt, (tt, (tt, (tt, tt))))))

pub one-get : OneOutcome get.Kinds.ps get.Kinds.r get.Reads.Learnt
one-get _ _ _ _ = one_view reply_of reply_of-one (λ r. (r, (tt, (tt, (tt, tt)))))

pub one-parent : OneOutcome parent.Kinds.ps parent.Kinds.r parent.Reads.Learnt
one-parent _ _ _ _ = one_view reply_of reply_of-one (λ r. (r, (tt, (tt, (tt, tt)))))

pub one-first_child : OneOutcome first_child.Kinds.ps first_child.Kinds.r first_child.Reads.Learnt
one-first_child _ _ _ _ = one_view reply_of reply_of-one (λ r. (r, (tt, (tt, (tt, tt)))))

pub one-last_child : OneOutcome last_child.Kinds.ps last_child.Kinds.r last_child.Reads.Learnt
one-last_child _ _ _ _ = one_view reply_of reply_of-one (λ r. (r, (tt, (tt, (tt, tt)))))

pub one-previous_sibling : OneOutcome previous_sibling.Kinds.ps previous_sibling.Kinds.r previous_sibling.Reads.Learnt
one-previous_sibling _ _ _ _ = one_view reply_of reply_of-one (λ r. (r, (tt, (tt, (tt, tt)))))

pub one-next_sibling : OneOutcome next_sibling.Kinds.ps next_sibling.Kinds.r next_sibling.Reads.Learnt
one-next_sibling _ _ _ _ = one_view reply_of reply_of-one (λ r. (r, (tt, (tt, (tt, tt)))))

pub one-set : OneOutcome set.Kinds.ps set.Kinds.r set.Reads.Learnt
one-set _ _ _ _ = one_left reply_done reply_done-one (λ m r. (r, (m, (tt, (tt, (tt, tt))))))
