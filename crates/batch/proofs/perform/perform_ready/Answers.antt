-- The contract of `batch::perform::perform_ready`.
use mathlib.Core.Path.{◌∙◌}
use Prim.Native.Nat.{◌-◌, ◌*◌}
use lib.ListN.{take}
use Rattle.batch.specs.Trace.{size}
use Rattle.batch.specs.Batch.{performed}
use Rattle.batch.specs.Performing.{before}
use Rattle.batch.specs.PerformLaws.{performing-more, performing-end, performs-known}
use Rattle.batch.proofs.perform.perform_ready.Goals as goal

pub loop-next-preserved : goal.loop-next-preserved
loop-next-preserved c =
    let a = c.args in
    let l = c.loop-next in
    let P = performing-more (before (take (2 * a.from) a.list.now) (performed (a.n - a.from) a.trace.now (a.from * size) a.words.now a.h a.scratch.now))
    a.n a.trace.now a.list.now c.requires.3 l.words l.scratch l.list l.next l.header l.invariant.2 c.loop-next-test.true c.command_at-c.ensures c.act-acted.ensures c.put_answer.ensures in
    (c.words-1.given ∙ l.invariant.0, c.scratch-1.given ∙ l.invariant.1, P)

pub returns : goal.returns
returns c =
    let a = c.args in
    let l = c.loop-next in
    performs-known c.ready.ensures
    (performing-end (before (take (2 * a.from) a.list.now) (performed (a.n - a.from) a.trace.now (a.from * size) a.words.now a.h a.scratch.now))
    a.n a.trace.now a.list.now c.requires.3 l.words l.scratch l.list l.next l.header l.invariant.2 c.loop-next-test.false)
