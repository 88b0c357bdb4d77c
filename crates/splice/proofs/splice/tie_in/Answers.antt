-- The contract of `splice::splice::tie_in`.
use mathlib.Core.Path.{ap, ◌∙◌}
use native.Mathlib.Omega.{arith}
use lib.ListN.{length}
use Rattle.splice.specs.SpliceLaws.{within-stays, none-or-within-stays, length-led, tied_in_by}
use Rattle.splice.proofs.splice.tie_in.Goals as goal

pub lead-requires-2 : goal.lead-requires-2
lead-requires-2 c =
    let a = c.args in let p = c.requires in let e = ap length c.lead.ensures ∙ length-led _ _ _ _ _ _ _ in
    (within-stays a.first e p.0, none-or-within-stays a.to.parent e p.2.0, none-or-within-stays a.to.next e p.2.2, omega arith, omega arith)

pub returns : goal.returns
returns c =
    let p = c.requires in
    tied_in_by _ _ _ _ _ _ p.0.0 p.1.0 c.lead.ensures c.lead-2.ensures c.slot_of.ensures c.set_word.ensures c.slot_of-2.ensures c.set_word-2.ensures
