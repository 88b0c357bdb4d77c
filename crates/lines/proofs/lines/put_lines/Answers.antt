-- The contract of `lines::lines::put_lines`.
use Rattle.lines.specs.LineLaws.{lining-more, lining-end}
use Rattle.lines.proofs.lines.put_lines.Goals as goal

pub loop-i-preserved : goal.loop-i-preserved
loop-i-preserved c =
    let a = c.args in
    let l = c.loop-i in
    lining-more a.n a.list.now a.out.now l.out l.i l.at l.invariant c.loop-i-test.true c.put_line-at.ensures

pub returns : goal.returns
returns c =
    let a = c.args in
    let l = c.loop-i in
    lining-end a.n a.list.now a.out.now l.out l.i l.at l.invariant c.loop-i-test.false
