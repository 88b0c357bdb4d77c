-- The contract of `splice::work::move_ready`.
use mathlib.Core.Path.{refl, sym}
use native.Mathlib.Omega.{arith}
use Rattle.link.specs.Words.{PARENT}
use Rattle.moves.specs.MoveLaws.{moved-done, moved-err}
use Rattle.splice.specs.ReadyLaws.{moved-found, target_found}
use Rattle.splice.specs.WorkLaws.{word-asks, out-asks, move-spot-asks, move-put-asks, move_words_by}
use Rattle.splice.proofs.work.move_ready.Goals as goal

pub move_number-requires : goal.move_number-requires
move_number-requires c = c.requires.1

pub returns-in_err-move_number : goal.returns-in_err-move_number
returns-in_err-move_number c = moved-err _ _ _ _ _ _ _ c.in_err-move_number.ensures c.from_residual.ensures.1

pub get_word-above-requires : goal.get_word-above-requires
get_word-above-requires c =
    let a = c.args in let p = c.requires in
    word-asks a.words.now a.h p.1 p.0 a.target PARENT (target_found a.words.now a.h p.1 p.0 a.target a.moved (sym c.in_ok-move_number.ensures) a.place) (omega arith) c.slot_of.ensures

pub take_out-requires : goal.take_out-requires
take_out-requires c =
    let a = c.args in let p = c.requires in
    out-asks a.words.now a.h p.1 p.0 a.moved (moved-found a.words.now a.h p.1 p.0 a.target a.moved (sym c.in_ok-move_number.ensures) a.place)

pub spot-to-requires : goal.spot-to-requires
spot-to-requires c =
    let a = c.args in let p = c.requires in
    move-spot-asks a.words.now a.h p.1 p.0 a.target a.moved (sym c.in_ok-move_number.ensures) a.place c.take_out.ensures c.slot_of.ensures c.get_word-above.ensures

pub put_in-requires : goal.put_in-requires
put_in-requires c =
    let a = c.args in let p = c.requires in
    move-put-asks a.words.now a.h p.1 p.0 a.target a.moved (sym c.in_ok-move_number.ensures) a.place c.take_out.ensures c.spot-to.ensures

pub returns : goal.returns
returns c =
    let a = c.args in let p = c.requires in
    moved-done _ _ _ _ _ c.in_ok-move_number.ensures refl
    (move_words_by a.words.now a.h p.1 p.0 a.target a.moved (sym c.in_ok-move_number.ensures) a.place c.take_out.ensures c.spot-to.ensures c.put_in.ensures)
