-- The contract of `splice::splice::put_in`.
use mathlib.Core.Path.{ap, ◌∙◌}
use lib.ListN.{length}
use Rattle.link.specs.WordLaws.{length-set_word}
use Rattle.splice.specs.SpliceLaws.{within-stays, place-within-stays, put_in_by}
use Rattle.splice.proofs.splice.put_in.Goals as goal

pub tie_in-requires : goal.tie_in-requires
tie_in-requires c =
    let a = c.args in let p = c.requires in let e = ap length c.set_word.ensures ∙ length-set_word _ _ _ _ in
    let own = within-stays a.id e p.0 in
    (own, own, place-within-stays _ _ a.to e p.1)

pub returns : goal.returns
returns c = put_in_by _ _ _ _ _ c.requires.0.0 c.slot_of.ensures c.set_word.ensures c.tie_in.ensures
