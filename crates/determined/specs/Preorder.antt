-- Crate preorder: the list of descendants. Its public functions, each with one outcome.
-- Excluded: a list in any order of its members; a stack whose words may be left in scratch.
use Rattle.rules.specs.Answers.{reply_of}
use Rattle.rules.proofs.AnswerLaws.{reply_of-one}
use Rattle.determined.specs.Outcome.{OneOutcome, two-values, one-two_left}
use Rattle.preorder.proofs.calls.descendants
use Rattle.preorder.proofs.preorder.write_preorder

pub one-descendants : OneOutcome descendants.Kinds.ps descendants.Kinds.r descendants.Reads.Learnt
one-descendants _ _ _ _ = one-two_left reply_of reply_of-one (λ s l r. (r, (tt, (tt, (s, (tt, (l, tt)))))))

pub one-write_preorder : OneOutcome write_preorder.Kinds.ps write_preorder.Kinds.r write_preorder.Reads.Learnt
one-write_preorder _ _ _ _ p q = two-values (λ s t. (t.1, (tt, (tt, (s, (tt, (t.0, tt))))))) p.0 q.0 p.1 q.1
