-- The contract of `splice::splice::take_out`.
use mathlib.Core.Path.{ap, ◌∙◌}
use native.Mathlib.Omega.{arith}
use lib.ListN.{length}
use Rattle.link.specs.Words.{PARENT, PREVIOUS, NEXT}
use Rattle.link.specs.WordLaws.{length-set_word}
use Rattle.splice.specs.SpliceLaws.{within-stays, none-or-within-stays, slot-within, read_within, length-led, taken-out_by}
use Rattle.splice.proofs.splice.take_out.Goals as goal

pub lead-requires : goal.lead-requires
lead-requires c =
    let a = c.args in let p = c.requires in let s = c.slot_of-slot.ensures in
    (p.0, read_within a.words.now a.id PARENT p.0.0 s c.get_word-parent.ensures p.1, read_within a.words.now a.id PREVIOUS p.0.0 s c.get_word-previous.ensures p.2, omega arith, omega arith)

pub lead-requires-2 : goal.lead-requires-2
lead-requires-2 c =
    let a = c.args in let p = c.requires in let s = c.slot_of-slot.ensures in
    let e = ap length c.lead.ensures ∙ length-led _ _ _ _ _ _ _ in (
      within-stays a.id e p.0,
      none-or-within-stays c.get_word-parent.result e (read_within a.words.now a.id PARENT p.0.0 s c.get_word-parent.ensures p.1),
      none-or-within-stays c.get_word-next.result e (read_within a.words.now a.id NEXT p.0.0 s c.get_word-next.ensures p.3),
      omega arith,
      omega arith,
    )

pub set_word-requires-3 : goal.set_word-requires-3
set_word-requires-3 c =
    let a = c.args in
    let e = ap length c.set_word-2.ensures ∙ length-set_word _ _ _ _ ∙ ap length c.set_word.ensures ∙ length-set_word _ _ _ _ ∙ ap length c.lead-2.ensures ∙ length-led _ _ _ _ _ _ _ ∙ ap length c.lead.ensures ∙ length-led _ _ _ _ _ _ _ in
    slot-within a.id NEXT c.requires.0 (omega arith) c.slot_of-slot.ensures e

pub returns : goal.returns
returns c = taken-out_by _ _ c.requires.0.0 c.slot_of-slot.ensures c.get_word-parent.ensures c.get_word-previous.ensures c.get_word-next.ensures c.lead.ensures c.lead-2.ensures c.set_word.ensures c.set_word-2.ensures c.set_word-3.ensures
