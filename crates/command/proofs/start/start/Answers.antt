-- The contract of `command::start::start`.
use mathlib.Core.Path.{sym, ◌∙◌}
use Rattle.command.specs.CallLaws.{unknown}
use Rattle.command.specs.Commands.{commanded}
use Rattle.command.specs.StepLaws.{did_rejected}
use Rattle.command.specs.StartLaws.{starts-ready, starts-answered, starts-same, starts-accepted}
use Rattle.std.proofs.Common.{inl, inr, arith}
use Rattle.command.proofs.start.start.Goals as goal
use Rattle.command.proofs.start.start.Goals.{in_default-via-then-c-lt1, in_default-via-else-c-lt1+else-c-lt25}

pub returns-then-is_ready : goal.returns-then-is_ready
returns-then-is_ready c =
    let a = c.args in
    starts-ready a.c a.words.now a.h a.scratch.now c.readied.ensures c.requires (sym c.is_ready.ensures ∙ c.if-is_ready.true)

pub returns-then-is_acceptable : goal.returns-then-is_acceptable
returns-then-is_acceptable c =
    let a = c.args in
    starts-accepted a.c a.words.now a.h a.scratch.now (sym c.is_acceptable.ensures ∙ c.if-is_acceptable.true)
    (starts-same a.words.now a.h a.scratch.now a.c.a a.c.b c.call_of.ensures c.begin.ensures)

pub returns-else-is_acceptable : goal.returns-else-is_acceptable
returns-else-is_acceptable c =
    let a = c.args in
    starts-answered (commanded a.c) a.words.now a.h a.scratch.now c.refused.ensures
    (did_rejected a.c a.words.now a.h a.scratch.now (sym c.is_acceptable.ensures ∙ c.if-is_acceptable.false) c.requires)

pub returns-in_default : goal.returns-in_default
returns-in_default c =
    let a = c.args in
    starts-answered (commanded a.c) a.words.now a.h a.scratch.now c.refused-in_default.ensures
    (did_rejected a.c a.words.now a.h a.scratch.now (unknown a.c.code a.c.unused a.c.a a.c.b
    (elim c.in_default.branch [ in_default-via-then-c-lt1 w ↦ inl (omega arith) | in_default-via-else-c-lt1+else-c-lt25 w ↦ inr (omega arith) ])) c.requires)
