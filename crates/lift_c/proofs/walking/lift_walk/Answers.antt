-- The contract of `lift_c::walking::lift_walk`.
use Rattle.rules.proofs.AnswerLaws.{refused-not_done}
use Rattle.lift_c.specs.State.{state_after}
use Rattle.lift_c.specs.StateLaws.{state-left, walk-packed}
use Rattle.lift_c.proofs.walking.lift_walk.Goals as goal

pub returns-in-Ok : goal.returns-in-Ok
unfolding state_after
returns-in-Ok c =
    let a = c.args in
    walk-packed a.words.now a.state.now a.budget a.list.now c.in-Ok.ensures c.header_of-h.ensures c.walk_of.ensures c.put_walk.ensures

pub returns-in-Err : goal.returns-in-Err
returns-in-Err c =
    let a = c.args in
    rw c.from.ensures
    (walk-packed a.words.now a.state.now a.budget a.list.now c.in-Err.ensures c.header_of-h.ensures c.walk_of.ensures
    (state-left a.words.now c.header_of-h.result.used _ _ a.state.now (refused-not_done c.in-Err.refusal)))
