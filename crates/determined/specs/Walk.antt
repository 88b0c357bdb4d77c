-- Crate walk: edges, the stepped walk. Its public functions, each with one outcome.
-- Excluded: a made-up edge count; places past the edges written that may change.
use Rattle.walk.specs.Walks.{started_by, yielded_by, walked_by}
use Rattle.walk.proofs.AnswerLaws.{started_by-one, yielded_by-one, walked_by-one}
use Rattle.determined.specs.Outcome.{OneOutcome, one_value, one_view, one_left}
use Rattle.walk.proofs.code.mark_of
use Rattle.walk.proofs.code.edge_word
use Rattle.walk.proofs.code.step_of
use Rattle.walk.proofs.edge.Edge.id
use Rattle.walk.proofs.edge.Edge.code
use Rattle.walk.proofs.edge.next_traverse
use Rattle.walk.proofs.edge.next_of_next
use Rattle.walk.proofs.edge.step_from
use Rattle.walk.proofs.run.write_from
use Rattle.walk.proofs.walk.walk_start
use Rattle.walk.proofs.walk.walk_edges
use Rattle.walk.proofs.walk.walk

pub one-mark_of : OneOutcome mark_of.Kinds.ps mark_of.Kinds.r mark_of.Reads.Learnt
one-mark_of _ _ _ _ = one_value (λ t. (t, (tt, tt)))

pub one-edge_word : OneOutcome edge_word.Kinds.ps edge_word.Kinds.r edge_word.Reads.Learnt
one-edge_word _ _ _ _ = one_value (λ t. (t, (tt, (tt, (tt, tt)))))

pub one-step_of : OneOutcome step_of.Kinds.ps step_of.Kinds.r step_of.Reads.Learnt
one-step_of _ _ _ _ = one_value (λ t. (t, (tt, (tt, tt))))

pub one-id : OneOutcome id.Kinds.ps id.Kinds.r id.Reads.Learnt
one-id _ _ _ _ = one_value (λ t. (t, (tt, tt)))

pub one-code : OneOutcome code.Kinds.ps code.Kinds.r code.Reads.Learnt
one-code _ _ _ _ = one_value (λ t. (t, (tt, tt)))

pub one-next_traverse : OneOutcome next_traverse.Kinds.ps next_traverse.Kinds.r next_traverse.Reads.Learnt
one-next_traverse _ _ _ _ = one_value (λ t. (t, (tt, (tt, tt))))

pub one-next_of_next : OneOutcome next_of_next.Kinds.ps next_of_next.Kinds.r next_of_next.Reads.Learnt
one-next_of_next _ _ _ _ = one_value (λ t. (t, (tt, (tt, (tt, tt)))))

pub one-step_from : OneOutcome step_from.Kinds.ps step_from.Kinds.r step_from.Reads.Learnt
one-step_from _ _ _ _ = one_value (λ t. (t, (tt, (tt, (tt, (tt, tt))))))

pub one-write_from : OneOutcome write_from.Kinds.ps write_from.Kinds.r write_from.Reads.Learnt
one-write_from _ _ _ _ = one_value (λ t. (record { count = t.1; next = t.2 }, (tt, (tt, (tt, (tt, (tt, (t.0, tt))))))))

pub one-walk_start : OneOutcome walk_start.Kinds.ps walk_start.Kinds.r walk_start.Reads.Learnt
one-walk_start _ _ _ _ = one_view (started_by _) (started_by-one _) (λ r. (r, (tt, (tt, (tt, tt)))))

pub one-walk_edges : OneOutcome walk_edges.Kinds.ps walk_edges.Kinds.r walk_edges.Reads.Learnt
one-walk_edges _ _ _ _ = one_left yielded_by yielded_by-one (λ m r. (r, (tt, (tt, (tt, (tt, (tt, (m, tt))))))))

pub one-walk : OneOutcome walk.Kinds.ps walk.Kinds.r walk.Reads.Learnt
one-walk _ _ _ _ = one_left (walked_by _) (walked_by-one _) (λ m r. (r, (tt, (tt, (tt, (tt, (m, tt)))))))
