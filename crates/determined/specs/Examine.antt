-- Crate examine: the passes of the examination. Its public functions, each with one outcome.
-- Excluded: a pass whose scratch may end as it likes; a verdict that may be either.
use Rattle.determined.specs.Outcome.{OneOutcome, one_value, two-values}
use Rattle.examine.proofs.examine.examine
use Rattle.examine.proofs.chain.Verdict.is_sound
use Rattle.examine.proofs.chain.Verdict.is_ready
use Rattle.examine.proofs.chain.is_free
use Rattle.examine.proofs.chain.met_spent
use Rattle.examine.proofs.chain.at_end
use Rattle.examine.proofs.chain.free_chain
use Rattle.examine.proofs.examine.zero_fill
use Rattle.examine.proofs.examine.links_ok
use Rattle.examine.proofs.marks.mark_none
use Rattle.examine.proofs.marks.climb
use Rattle.examine.proofs.marks.climb_all
use Rattle.examine.proofs.slots.found_within
use Rattle.examine.proofs.slots.has
use Rattle.examine.proofs.slots.children_ok
use Rattle.examine.proofs.slots.next_ok
use Rattle.examine.proofs.slots.previous_ok
use Rattle.examine.proofs.slots.prior_slot
use Rattle.examine.proofs.slots.kin
use Rattle.examine.proofs.slots.look_at
use Rattle.examine.proofs.slots.look_at_all

pub one-is_sound : OneOutcome is_sound.Kinds.ps is_sound.Kinds.r is_sound.Reads.Learnt
one-is_sound _ _ _ _ = one_value (λ t. (t, (tt, tt)))

pub one-is_ready : OneOutcome is_ready.Kinds.ps is_ready.Kinds.r is_ready.Reads.Learnt
one-is_ready _ _ _ _ = one_value (λ t. (t, (tt, tt)))

pub one-is_free : OneOutcome is_free.Kinds.ps is_free.Kinds.r is_free.Reads.Learnt
one-is_free _ _ _ _ = one_value (λ t. (t, (tt, tt)))

pub one-met_spent : OneOutcome met_spent.Kinds.ps met_spent.Kinds.r met_spent.Reads.Learnt
one-met_spent _ _ _ _ = one_value (λ t. (t, (tt, (tt, tt))))

pub one-at_end : OneOutcome at_end.Kinds.ps at_end.Kinds.r at_end.Reads.Learnt
one-at_end _ _ _ _ = one_value (λ t. (t, (tt, (tt, (tt, tt)))))

pub one-free_chain : OneOutcome free_chain.Kinds.ps free_chain.Kinds.r free_chain.Reads.Learnt
one-free_chain _ _ _ _ = one_value (λ t. (t, (tt, (tt, (tt, (tt, tt))))))

pub one-zero_fill : OneOutcome zero_fill.Kinds.ps zero_fill.Kinds.r zero_fill.Reads.Learnt
one-zero_fill _ _ _ _ = one_value (λ t. (tt, (t, (tt, tt))))

pub one-links_ok : OneOutcome links_ok.Kinds.ps links_ok.Kinds.r links_ok.Reads.Learnt
one-links_ok _ _ _ _ = one_value (λ t. (t.1, (tt, (tt, (t.0, tt)))))

pub one-mark_none : OneOutcome mark_none.Kinds.ps mark_none.Kinds.r mark_none.Reads.Learnt
one-mark_none _ _ _ _ = one_value (λ t. (tt, (t, tt)))

pub one-climb : OneOutcome climb.Kinds.ps climb.Kinds.r climb.Reads.Learnt
one-climb _ _ _ _ = one_value (λ t. (t.1, (t.0, (tt, (tt, tt)))))

pub one-climb_all : OneOutcome climb_all.Kinds.ps climb_all.Kinds.r climb_all.Reads.Learnt
one-climb_all _ _ _ _ = one_value (λ t. (t.1, (t.0, (tt, tt))))

pub one-found_within : OneOutcome found_within.Kinds.ps found_within.Kinds.r found_within.Reads.Learnt
one-found_within _ _ _ _ = one_value (λ t. (t, (tt, (tt, (tt, tt)))))

pub one-has : OneOutcome has.Kinds.ps has.Kinds.r has.Reads.Learnt
one-has _ _ _ _ = one_value (λ t. (t, (tt, (tt, (tt, (tt, (tt, (tt, (tt, tt)))))))))

pub one-children_ok : OneOutcome children_ok.Kinds.ps children_ok.Kinds.r children_ok.Reads.Learnt
one-children_ok _ _ _ _ = one_value (λ t. (t, (tt, (tt, (tt, (tt, (tt, tt)))))))

pub one-next_ok : OneOutcome next_ok.Kinds.ps next_ok.Kinds.r next_ok.Reads.Learnt
one-next_ok _ _ _ _ = one_value (λ t. (t, (tt, (tt, (tt, (tt, (tt, tt)))))))

pub one-previous_ok : OneOutcome previous_ok.Kinds.ps previous_ok.Kinds.r previous_ok.Reads.Learnt
one-previous_ok _ _ _ _ = one_value (λ t. (t, (tt, (tt, (tt, (tt, (tt, tt)))))))

pub one-prior_slot : OneOutcome prior_slot.Kinds.ps prior_slot.Kinds.r prior_slot.Reads.Learnt
one-prior_slot _ _ _ _ = one_value (λ t. (t, (tt, (tt, tt))))

pub one-kin : OneOutcome kin.Kinds.ps kin.Kinds.r kin.Reads.Learnt
one-kin _ _ _ _ = one_value (λ t. (t, (tt, (tt, (tt, (tt, tt))))))

pub one-look_at : OneOutcome look_at.Kinds.ps look_at.Kinds.r look_at.Reads.Learnt
one-look_at _ _ _ _ = one_value (λ t. (t, (tt, (tt, (tt, tt)))))

pub one-look_at_all : OneOutcome look_at_all.Kinds.ps look_at_all.Kinds.r look_at_all.Reads.Learnt
one-look_at_all _ _ _ _ = one_value (λ t. (t.1, (tt, (tt, (t.0, tt)))))

pub one-examine : OneOutcome examine.Kinds.ps examine.Kinds.r examine.Reads.Learnt
one-examine _ _ _ _ p q = two-values (λ t v. (v, (tt, (tt, (t, tt))))) p.0 q.0 p.1 q.1
