-- The contract of `splice::work::value_ready`.
use mathlib.Core.Path.{refl, sym, ◌∙◌}
use native.Mathlib.Omega.{arith}
use lib.ListN.{length}
use Rattle.sound.specs.GuardLaws.{capacity-fits}
use Rattle.link.specs.Words.{PARENT}
use Rattle.link.specs.FoundLaws.{found_is}
use Rattle.moves.specs.ValueLaws.{value_made, value-err, value-removed}
use Rattle.splice.specs.WorkLaws.{word-asks, value-spot-asks, value-put-asks, value-put_by}
use Rattle.splice.proofs.work.value_ready.Goals as goal

pub found_within-requires : goal.found_within-requires
found_within-requires c = let a = c.args in (capacity-fits (length a.words.now) a.h.used c.requires.1).1

pub get_word-above-requires : goal.get_word-above-requires
get_word-above-requires c =
    let a = c.args in let p = c.requires in
    word-asks a.words.now a.h p.1 p.0 a.target PARENT (found_is _ _ _ (sym c.found_within.ensures ∙ c.if-not-found_within.false)) (omega arith) c.slot_of.ensures

pub spot-to-requires : goal.spot-to-requires
spot-to-requires c =
    let a = c.args in let p = c.requires in
    value-spot-asks a.words.now a.h p.1 p.0 a.target a.number (found_is _ _ _ (sym c.found_within.ensures ∙ c.if-not-found_within.false)) a.place c.in_ok-made.ensures refl c.slot_of.ensures c.get_word-above.ensures

pub put_in-requires : goal.put_in-requires
put_in-requires c =
    let a = c.args in let p = c.requires in
    value-put-asks a.words.now a.h p.1 p.0 a.target a.number (found_is _ _ _ (sym c.found_within.ensures ∙ c.if-not-found_within.false)) a.place c.in_ok-made.ensures refl c.spot-to.ensures

pub returns : goal.returns
returns c =
    let a = c.args in let p = c.requires in let e = sym c.found_within.ensures ∙ c.if-not-found_within.false in
    value_made _ _ _ _ _ e c.in_ok-made.ensures refl
    (value-put_by a.words.now a.h p.1 p.0 a.target a.number (found_is _ _ _ e) a.place c.in_ok-made.ensures refl c.spot-to.ensures c.put_in.ensures)

pub returns-in_err-made : goal.returns-in_err-made
returns-in_err-made c = value-err _ _ _ _ _ _ _ (sym c.found_within.ensures ∙ c.if-not-found_within.false) c.in_err-made.ensures c.from_residual.ensures.1

pub returns-then-not-found_within : goal.returns-then-not-found_within
returns-then-not-found_within c = value-removed _ _ _ _ _ (sym c.found_within.ensures ∙ c.if-not-found_within.true)
