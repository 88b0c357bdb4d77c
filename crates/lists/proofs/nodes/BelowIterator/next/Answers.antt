-- The contract of `lists::nodes::BelowIterator::next`.
use mathlib.Core.Path.{ap}
use native.Mathlib.Omega.{arith}
use lib.ListN.{length}
use Rattle.lists.specs.Orders.{next_descendant}
use Rattle.lists.specs.NodeLaws.{along-out, along-none, along-step, along-last}
use Rattle.lists.proofs.nodes.BelowIterator.next.Goals as goal
use Rattle.lists.proofs.nodes.BelowIterator.next.Goals.{then-self-eq0-via-then-self-eq0, then-self-eq0-via-else-self-eq0+then-self-eq0-2}

pub returns-then-self-eq0-clause-steps : goal.returns-then-self-eq0-clause-steps
returns-then-self-eq0-clause-steps c =
    let s = c.args.self.now in
    elim c.then-self-eq0.branch [
      | then-self-eq0-via-then-self-eq0 w ↦ let e = along-out (next_descendant s.words.now s.used s.root) s.left s.next (omega arith) in (e, e)
      | then-self-eq0-via-else-self-eq0+then-self-eq0-2 w ↦ let e = along-none (next_descendant s.words.now s.used s.root) s.left s.next w.if-self-eq0-2.true in (e, e)
    ]

pub returns-then-self-ne0-clause-steps : goal.returns-then-self-ne0-clause-steps
returns-then-self-ne0-clause-steps c =
    let s = c.args.self.now in
    let n = c.if-self-eq0.false in
    along-step (next_descendant s.words.now s.used s.root) s.left s.next (omega arith) c.if-self-eq0-2.false c.next_descendant-self.ensures

pub returns-then-self-ne0-clause-goes : goal.returns-then-self-ne0-clause-goes
returns-then-self-ne0-clause-goes c =
    let s = c.args.self.now in
    let n = c.if-self-eq0.false in
    let e = ap length (along-step (next_descendant s.words.now s.used s.root) s.left s.next (omega arith) c.if-self-eq0-2.false c.next_descendant-self.ensures) in
    record { on = λ f. (tt, tt, omega arith); keeps = tt; rests = λ f. tt }

pub returns-else-self-ne0-clause-steps : goal.returns-else-self-ne0-clause-steps
returns-else-self-ne0-clause-steps c =
    let s = c.args.self.now in
    let n = c.if-self-eq0.false in
    along-last (next_descendant s.words.now s.used s.root) s.left s.next s.next (omega arith) c.if-self-eq0-2.false c.if-self-ne0.false

pub returns-else-self-ne0-clause-goes : goal.returns-else-self-ne0-clause-goes
returns-else-self-ne0-clause-goes c =
    let s = c.args.self.now in
    let n = c.if-self-eq0.false in
    let e = ap length (along-last (next_descendant s.words.now s.used s.root) s.left s.next s.next (omega arith) c.if-self-eq0-2.false c.if-self-ne0.false) in
    record { on = λ f. (tt, tt, omega arith); keeps = tt; rests = λ f. tt }
