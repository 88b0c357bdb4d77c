-- Crate subtree: the comparison of two subtrees. Its public functions, each with one outcome.
-- Excluded: scratch of the second memory left open.
use Rattle.rules.specs.Answers.{reply_yes}
use Rattle.rules.proofs.AnswerLaws.{reply_yes-one}
use Rattle.determined.specs.Outcome.{OneOutcome, one_view, one_left}
use Rattle.subtree.proofs.compare_nodes
use Rattle.subtree.proofs.subtree_eq

pub one-compare_nodes : OneOutcome compare_nodes.Kinds.ps compare_nodes.Kinds.r compare_nodes.Reads.Learnt
one-compare_nodes _ _ _ _ = one_view reply_yes reply_yes-one (λ r. (r, (tt, (tt, (tt, (tt, (tt, (tt, tt))))))))

pub one-subtree_eq : OneOutcome subtree_eq.Kinds.ps subtree_eq.Kinds.r subtree_eq.Reads.Learnt
one-subtree_eq _ _ _ _ = one_left reply_yes reply_yes-one (λ s r. (r, (tt, (tt, (tt, (tt, (tt, (tt, (s, tt)))))))))
