-- Crate link: words, identifiers, stamps, the surgery of links. Its public functions, each with one outcome.
-- Excluded: a surgery that is free to write another word; a stamp stated up to its sign.
use Rattle.std.proofs.Common.{sym, ◌∙◌}
use denote.RattleType.{RattleType}
use denote.Param.Laws.{Laws, IsCopy}
use mir.Syntax.{Dict}
use Rattle.std.specs.declared.clone.Clone.{Ghosts}
use Rattle.determined.specs.Outcome.{OneOutcome, one_value}
use Rattle.link.proofs.choice.choose
use Rattle.link.proofs.siblings_range.SiblingsRange.one
use Rattle.link.proofs.siblings_range.DetachedSiblingsRange.one as one_detached
use Rattle.link.proofs.header.HeaderDefault.default
use Rattle.link.proofs.siblings_range.SiblingsRange.detach_from_siblings
use Rattle.link.proofs.id.Stamp.fresh
use Rattle.link.proofs.id.Stamp.removed
use Rattle.link.proofs.id.Stamp.reuse
use Rattle.link.proofs.id.Stamp.is_removed
use Rattle.link.proofs.id.Stamp.is_spent
use Rattle.link.proofs.id.Stamp.bits
use Rattle.link.proofs.id.Stamp.of_bits
use Rattle.link.proofs.id.id_of
use Rattle.link.proofs.id.slot_of
use Rattle.link.proofs.id.stamp_of
use Rattle.link.proofs.id.found
use Rattle.link.proofs.relations.connect_neighbors
use Rattle.link.proofs.relations.insert_with_neighbors
use Rattle.link.proofs.relations.insert_last_unchecked
use Rattle.link.proofs.relations.insert_first_unchecked
use Rattle.link.proofs.siblings_range.DetachedSiblingsRange.rewrite_parents
use Rattle.link.proofs.siblings_range.DetachedSiblingsRange.transplant
use Rattle.link.proofs.words.capacity
use Rattle.link.proofs.words.get_word
use Rattle.link.proofs.words.set_word
use Rattle.link.proofs.words.link_of
use Rattle.link.proofs.words.set_link

pub one-choose : (T : RattleType) (L : Laws T) (C : IsCopy T) (G : Ghosts T.Denot) (D : Dict)
    → OneOutcome (choose.Kinds.ps T L C) (choose.Kinds.r T L C) (choose.Reads.Learnt T L C G D)
one-choose _ _ _ _ _ _ _ _ _ = one_value (λ t. (t, (tt, (tt, (tt, tt)))))

pub one-fresh : OneOutcome fresh.Kinds.ps fresh.Kinds.r fresh.Reads.Learnt
one-fresh _ _ _ _ = one_value (λ t. (record { 0 = t }, tt))

pub one-removed : OneOutcome removed.Kinds.ps removed.Kinds.r removed.Reads.Learnt
one-removed _ _ _ _ = one_value (λ t. (record { 0 = t }, (tt, tt)))

pub one-reuse : OneOutcome reuse.Kinds.ps reuse.Kinds.r reuse.Reads.Learnt
one-reuse _ _ _ _ = one_value (λ t. (record { 0 = t }, (tt, tt)))

pub one-is_removed : OneOutcome is_removed.Kinds.ps is_removed.Kinds.r is_removed.Reads.Learnt
one-is_removed _ _ _ _ = one_value (λ t. (t, (tt, tt)))

pub one-is_spent : OneOutcome is_spent.Kinds.ps is_spent.Kinds.r is_spent.Reads.Learnt
one-is_spent _ _ _ _ = one_value (λ t. (t, (tt, tt)))

pub one-bits : OneOutcome bits.Kinds.ps bits.Kinds.r bits.Reads.Learnt
one-bits _ _ _ _ = one_value (λ t. (t, (tt, tt)))

pub one-of_bits : OneOutcome of_bits.Kinds.ps of_bits.Kinds.r of_bits.Reads.Learnt
one-of_bits _ _ _ _ = one_value (λ t. (record { 0 = t }, (tt, tt)))

pub one-id_of : OneOutcome id_of.Kinds.ps id_of.Kinds.r id_of.Reads.Learnt
one-id_of _ _ _ _ = one_value (λ t. (t, (tt, (tt, tt))))

pub one-slot_of : OneOutcome slot_of.Kinds.ps slot_of.Kinds.r slot_of.Reads.Learnt
one-slot_of _ _ _ _ = one_value (λ t. (t, (tt, tt)))

pub one-stamp_of : OneOutcome stamp_of.Kinds.ps stamp_of.Kinds.r stamp_of.Reads.Learnt
one-stamp_of _ _ _ _ = one_value (λ t. (t, (tt, tt)))

pub one-found : OneOutcome found.Kinds.ps found.Kinds.r found.Reads.Learnt
one-found _ _ _ _ = one_value (λ t. (t, (tt, (tt, (tt, tt)))))

pub one-connect_neighbors : OneOutcome connect_neighbors.Kinds.ps connect_neighbors.Kinds.r connect_neighbors.Reads.Learnt
one-connect_neighbors _ _ _ _ = one_value (λ t. (tt, (t, (tt, (tt, (tt, tt))))))

pub one-insert_with_neighbors : OneOutcome insert_with_neighbors.Kinds.ps insert_with_neighbors.Kinds.r insert_with_neighbors.Reads.Learnt
one-insert_with_neighbors _ _ _ _ = one_value (λ t. (t.1, (t.0, (tt, (tt, (tt, (tt, (tt, tt))))))))

pub one-insert_last_unchecked : OneOutcome insert_last_unchecked.Kinds.ps insert_last_unchecked.Kinds.r insert_last_unchecked.Reads.Learnt
one-insert_last_unchecked _ _ _ _ = one_value (λ t. (t.1, (t.0, (tt, (tt, (tt, tt))))))

pub one-insert_first_unchecked : OneOutcome insert_first_unchecked.Kinds.ps insert_first_unchecked.Kinds.r insert_first_unchecked.Reads.Learnt
one-insert_first_unchecked _ _ _ _ = one_value (λ t. (t.1, (t.0, (tt, (tt, (tt, tt))))))

pub one-rewrite_parents : OneOutcome rewrite_parents.Kinds.ps rewrite_parents.Kinds.r rewrite_parents.Reads.Learnt
one-rewrite_parents _ _ _ _ = one_value (λ t. (t.1, (tt, (t.0, (tt, (tt, tt))))))

pub one-transplant : OneOutcome transplant.Kinds.ps transplant.Kinds.r transplant.Reads.Learnt
one-transplant _ _ _ _ = one_value (λ t. (t.1, (tt, (t.0, (tt, (tt, (tt, (tt, tt))))))))

pub one-capacity : OneOutcome capacity.Kinds.ps capacity.Kinds.r capacity.Reads.Learnt
one-capacity _ _ _ _ = one_value (λ t. (t, (tt, tt)))

pub one-get_word : OneOutcome get_word.Kinds.ps get_word.Kinds.r get_word.Reads.Learnt
one-get_word _ _ _ _ = one_value (λ t. (t, (tt, (tt, (tt, tt)))))

pub one-set_word : OneOutcome set_word.Kinds.ps set_word.Kinds.r set_word.Reads.Learnt
one-set_word _ _ _ _ = one_value (λ t. (tt, (t, (tt, (tt, (tt, tt))))))

pub one-link_of : OneOutcome link_of.Kinds.ps link_of.Kinds.r link_of.Reads.Learnt
one-link_of _ _ _ _ = one_value (λ t. (t, (tt, (tt, (tt, tt)))))

pub one-set_link : OneOutcome set_link.Kinds.ps set_link.Kinds.r set_link.Reads.Learnt
one-set_link _ _ _ _ = one_value (λ t. (tt, (t, (tt, (tt, (tt, tt))))))

pub one-detach_from_siblings :
    OneOutcome detach_from_siblings.Kinds.ps detach_from_siblings.Kinds.r detach_from_siblings.Reads.Learnt
one-detach_from_siblings _ _ _ _ p q i =
    (record { first = (p.1 ∙ sym q.1) i; last = (p.2 ∙ sym q.2) i }, (tt, ((p.0 ∙ sym q.0) i, tt)))

pub one-one : OneOutcome one.Kinds.ps one.Kinds.r one.Reads.Learnt
one-one _ _ _ _ p q i = (record { first = (p.0 ∙ sym q.0) i; last = (p.1 ∙ sym q.1) i }, (tt, tt))

pub one-one_detached : OneOutcome one_detached.Kinds.ps one_detached.Kinds.r one_detached.Reads.Learnt
one-one_detached _ _ _ _ p q i = (record { first = (p.0 ∙ sym q.0) i; last = (p.1 ∙ sym q.1) i }, (tt, tt))

pub one-default : OneOutcome default.Kinds.ps default.Kinds.r default.Reads.Learnt
one-default _ _ _ _ p q i = (record { used = (p.0 ∙ sym q.0) i; first = (p.1.0 ∙ sym q.1.0) i; last = (p.1.1 ∙ sym q.1.1) i }, tt)
