-- The contract of `batch::batch::batch`.
use mathlib.Core.Path.{sym, ap}
use Rattle.std.proofs.Common.{is_some}
use native.Mathlib.Omega.{arith}
use lib.ListN.{length}
use borrow.Author.Rules.{rules}
use Rattle.command.specs.KnownLaws.{knows-nothing}
use Rattle.batch.specs.BatchLaws.{answers-bound, batched-room, batched-done}
use Rattle.batch.proofs.batch.batch.Goals as goal

pub overflow_mul-count : goal.overflow_mul-count
overflow_mul-count c =
    let a = c.args in
    let e = c.answers_of-count.ensures in
    let b = answers-bound (length a.trace.now) in
    search rules

pub returns-then-list-count : goal.returns-then-list-count
returns-then-list-count c =
    let a = c.args in
    let e = c.answers_of-count.ensures in
    batched-room a.words.now a.h a.scratch.now a.trace.now a.list.now (rw (sym e) c.if-list-count.true)

pub perform-done-requires : goal.perform-done-requires
perform-done-requires c =
    let a = c.args in
    let e = c.answers_of-count.ensures in
    let b = answers-bound (length a.trace.now) in
    let l = c.if-list-count.false in
    (knows-nothing a.words.now a.h a.scratch.now (ap is_some c.nothing.ensures.0) c.nothing.ensures.1, omega arith, omega arith)

pub put_part-requires : goal.put_part-requires
put_part-requires c =
    let a = c.args in
    let e = c.answers_of-count.ensures in
    let b = answers-bound (length a.trace.now) in
    let l = c.if-list-count.false in
    let p = c.list-1.given in
    (omega arith, search rules)

pub returns : goal.returns
returns c =
    let a = c.args in
    let e = c.answers_of-count.ensures in
    rw e (batched-done a.words.now a.h a.scratch.now a.trace.now a.list.now (rw (sym e) c.if-list-count.false) c.perform-done.ensures (rw (sym e) c.put_part.ensures))
