-- The contract of `lift_c::walking::lift_walk_start`.
use Rattle.rules.proofs.AnswerLaws.{refused-not_done}
use Rattle.lift_c.specs.State.{state_after}
use Rattle.lift_c.specs.StateLaws.{state-left, start-packed}
use Rattle.lift_c.proofs.walking.lift_walk_start.Goals as goal

pub returns-in-Ok : goal.returns-in-Ok
unfolding state_after
returns-in-Ok c =
    let a = c.args in
    start-packed a.words.now a.root a.state.now c.in-Ok.ensures c.header_of-h.ensures c.put_walk.ensures

pub returns-in-Err : goal.returns-in-Err
returns-in-Err c =
    let a = c.args in
    rw c.from.ensures
    (start-packed a.words.now a.root a.state.now c.in-Err.ensures c.header_of-h.ensures
    (state-left a.words.now c.header_of-h.result.used _ _ a.state.now (refused-not_done c.in-Err.refusal)))
