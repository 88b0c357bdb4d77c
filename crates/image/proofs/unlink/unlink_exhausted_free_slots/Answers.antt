-- The contract of `image::unlink::unlink_exhausted_free_slots`.
use native.Mathlib.Omega.{arith}
use Rattle.std.proofs.Common.{rules, sym, ◌∙◌}
use Rattle.image.specs.Unlink.{unlink_run, unlinked}
use Rattle.image.specs.UnlinkLaws.{unlink-ends, unlink-off, unlink-on}
use Rattle.image.proofs.unlink.unlink_exhausted_free_slots.Goals as goal
use Rattle.image.proofs.unlink.unlink_exhausted_free_slots.Goals.{then-is_spent, else-is_spent}

pub loop-init : goal.loop-init
unfolding unlinked
loop-init c = search rules

pub returns-then-slot-eq0 : goal.returns-then-slot-eq0
returns-then-slot-eq0 c = sym (unlink-ends _ _ _ _ _ _ c.then-slot-eq0.either) ∙ c.loop.invariant.rest

pub loop-preserved : goal.loop-preserved
loop-preserved c =
    let at = c.loop in
    elim c.if-is_spent.branch [
      | then-is_spent w ↦ rw (w.words-is, w.first-is, w.previous-is) record {
        size = search rules;
        low = at.invariant.low;
        rest = sym (unlink-off _ _ _ _ _ _ _ (omega arith) c.if-slot-eq0.false c.if-used-slot.false c.get_word.ensures c.get_word-next.ensures (sym c.is_spent.ensures ∙ w.if-is_spent.true) w.bypass-first.ensures) ∙ at.invariant.rest;
      }
      | else-is_spent w ↦ rw (w.words-is, w.first-is, w.previous-is) record {
        size = at.invariant.size;
        low = c.if-used-slot.false;
        rest = sym (unlink-on _ _ _ _ _ _ _ (omega arith) c.if-slot-eq0.false c.if-used-slot.false c.get_word.ensures c.get_word-next.ensures (sym c.is_spent.ensures ∙ w.if-is_spent.false)) ∙ at.invariant.rest;
      }
    ]

pub returns-after-is_spent : goal.returns-after-is_spent
unfolding unlink_run
returns-after-is_spent c =
    let at = c.loop in
    elim c.if-is_spent.branch [
      | then-is_spent w ↦ rw (w.words-is, w.first-is, w.previous-is)
          (sym (unlink-off _ _ _ _ _ _ 0 (omega arith) c.if-slot-eq0.false c.if-used-slot.false c.get_word.ensures c.get_word-next.ensures (sym c.is_spent.ensures ∙ w.if-is_spent.true) w.bypass-first.ensures) ∙ at.invariant.rest)
      | else-is_spent w ↦ rw (w.words-is, w.first-is, w.previous-is)
          (sym (unlink-on _ _ _ _ _ _ 0 (omega arith) c.if-slot-eq0.false c.if-used-slot.false c.get_word.ensures c.get_word-next.ensures (sym c.is_spent.ensures ∙ w.if-is_spent.false)) ∙ at.invariant.rest)
    ]
