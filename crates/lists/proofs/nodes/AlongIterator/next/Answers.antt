-- The contract of `lists::nodes::AlongIterator::next`.
use mathlib.Core.Path.{ap}
use native.Mathlib.Omega.{arith}
use lib.ListN.{length}
use Rattle.lists.specs.NodeLaws.{linked-out, linked-none, linked-step}
use Rattle.lists.proofs.nodes.AlongIterator.next.Goals as goal
use Rattle.lists.proofs.nodes.AlongIterator.next.Goals.{then-self-eq0-via-then-self-eq0, then-self-eq0-via-else-self-eq0+then-self-eq0-2}

pub returns-then-self-eq0-clause-steps : goal.returns-then-self-eq0-clause-steps
returns-then-self-eq0-clause-steps c =
    let s = c.args.self.now in
    elim c.then-self-eq0.branch [
      | then-self-eq0-via-then-self-eq0 w ↦ let e = linked-out s.words.now s.near s.far s.left s.next (omega arith) in (e, e)
      | then-self-eq0-via-else-self-eq0+then-self-eq0-2 w ↦ let e = linked-none s.words.now s.near s.far s.left s.next w.if-self-eq0-2.true in (e, e)
    ]

pub returns-clause-steps : goal.returns-clause-steps
returns-clause-steps c =
    let s = c.args.self.now in
    let n = c.if-self-eq0.false in
    linked-step s.words.now s.near s.far s.left s.next (omega arith) c.if-self-eq0-2.false c.link_else-self.ensures

pub returns-clause-goes : goal.returns-clause-goes
returns-clause-goes c =
    let s = c.args.self.now in
    let n = c.if-self-eq0.false in
    let e = ap length (linked-step s.words.now s.near s.far s.left s.next (omega arith) c.if-self-eq0-2.false c.link_else-self.ensures) in
    record { on = λ f. (tt, tt, omega arith); keeps = tt; rests = λ f. tt }
