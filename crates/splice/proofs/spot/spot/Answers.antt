-- The contract of `splice::spot::spot`.
use mathlib.Core.Path.{refl}
use lib.ListN.{length}
use Rattle.splice.specs.SpliceLaws.{slot-within, beside-below, spot_by}
use Rattle.splice.proofs.spot.spot.Goals as goal

pub get_word-beside-requires : goal.get_word-beside-requires
get_word-beside-requires c = let a = c.args in slot-within a.target c.beside_word.result {n = length a.words.now} c.requires.0 (rw c.beside_word.ensures (beside-below a.place)) c.slot_of.ensures refl

pub returns : goal.returns
returns c = spot_by c.args.place _ _ c.requires.0.0 c.slot_of.ensures c.requires.1 c.beside_word.ensures c.get_word-beside.ensures c.is_under-under.ensures c.is_behind-behind.ensures c.choose-other.ensures c.choose.ensures c.choose-2.ensures c.choose-3.ensures
