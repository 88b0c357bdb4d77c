-- The contract of `batch::perform::perform`.
use mathlib.Core.Path.{◌∙◌}
use Rattle.batch.specs.Batch.{performed}
use Rattle.batch.specs.PerformLaws.{performing-more, performing-rest, performing-end}
use Rattle.batch.proofs.perform.perform.Goals as goal

pub returns-in_default : goal.returns-in_default
returns-in_default c =
    let a = c.args in
    let l = c.loop-i in
    performing-rest (performed a.n a.trace.now 0 a.words.now a.h a.scratch.now) a.n a.trace.now a.list.now c.requires.2 l.words l.scratch l.list l.i a.h l.invariant.2
    c.loop-i-test.true c.command_at-c.ensures c.start-begun.ensures c.in_default.is c.perform_ready.ensures

pub loop-i-preserved : goal.loop-i-preserved
loop-i-preserved c =
    let a = c.args in
    let l = c.loop-i in
    let P = performing-more (performed a.n a.trace.now 0 a.words.now a.h a.scratch.now) a.n a.trace.now a.list.now c.requires.2 l.words l.scratch l.list l.i a.h l.invariant.2
    c.loop-i-test.true c.command_at-c.ensures (c.start-begun.ensures.answered c.in-Some.reply c.in-Some.is) c.put_answer.ensures in
    (c.words-1.given ∙ l.invariant.0, c.scratch-1.given ∙ l.invariant.1, P)

pub returns : goal.returns
returns c =
    let a = c.args in
    let l = c.loop-i in
    performing-end (performed a.n a.trace.now 0 a.words.now a.h a.scratch.now) a.n a.trace.now a.list.now c.requires.2 l.words l.scratch l.list l.i a.h l.invariant.2 c.loop-i-test.false
