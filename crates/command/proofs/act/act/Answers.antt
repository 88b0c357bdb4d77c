-- The contract of `command::act::act`.
use mathlib.Core.Path.{◌≡◌, sym, ap, ◌∙◌, subst}
use mathlib.Core.List.{List}
use Prim.Native.Nat.{ℕ, ◌-◌}
use Rattle.rules.specs.declared.answer.Answer.{Answer}
use Rattle.command.specs.CallLaws.{unknown}
use Rattle.command.specs.KindLaws.{work-call, work-within}
use Rattle.command.specs.Commands.{Outcome, called}
use Rattle.command.specs.Known.{ready, Did}
use Rattle.command.specs.StepLaws.{did-same, did-accepted, did_rejected}
use Rattle.command.specs.Acts.{acts}
use Rattle.command.specs.ActLaws.{ready-knows, did-acted, did-stopped}
use Rattle.command.specs.declared.call.Call.{Call}
use Rattle.command.specs.declared.act.Acted.{Acted}
use Rattle.std.proofs.Common.{inl, inr, arith}
use Rattle.command.proofs.act.act.Goals as goal
use Rattle.command.proofs.act.act.Goals.{in_default-via-then-c-lt1, in_default-via-else-c-lt1+else-c-lt25}

-- what was refused, as what is answered
turned : {w : Outcome} {m s : List ℕ} {r : Acted} {a : Answer} {clean : ℕ} → r ≡ acts a clean → Did w m s a (ready clean) → Did w m s r.answer (ready r.clean)
turned {w} {m} {s} e = subst (λ (y : Acted). Did w m s y.answer (ready y.clean)) (sym e)

pub returns-then-not-is_acceptable : goal.returns-then-not-is_acceptable
returns-then-not-is_acceptable c =
    let a = c.args in
    turned c.turn_down.ensures
    (did_rejected a.c a.words.now a.h a.scratch.now (sym c.is_acceptable.ensures ∙ c.if-not-is_acceptable.true) c.requires)

pub work-requires : goal.work-requires
work-requires c =
    let a = c.args in
    let w = ready-knows a.words.now a.h a.scratch.now c.requires in
    (w.0, w.1, work-within (a.c.code - 1))

pub returns-in-Ok : goal.returns-in-Ok
returns-in-Ok c =
    let a = c.args in
    let x = a.c in
    did-accepted x a.words.now a.h a.scratch.now (sym c.is_acceptable.ensures ∙ c.if-not-is_acceptable.false)
    (did-same (ap (λ (y : Call). called y x.a x.b a.words.now a.h a.scratch.now) (work-call x.code (omega arith) (omega arith)))
    (did-acted a.words.now a.h a.scratch.now x.a x.b _ c.admit.ensures c.in-Ok.is c.work.ensures))

pub returns-in-Err : goal.returns-in-Err
returns-in-Err c =
    let a = c.args in
    let x = a.c in
    turned c.turn_down-in-Err.ensures
    (did-accepted x a.words.now a.h a.scratch.now (sym c.is_acceptable.ensures ∙ c.if-not-is_acceptable.false)
    (did-same (ap (λ (y : Call). called y x.a x.b a.words.now a.h a.scratch.now) (work-call x.code (omega arith) (omega arith)))
    (did-stopped a.words.now a.h a.scratch.now x.a x.b _ c.admit.ensures c.in-Err.is)))

pub returns-in_default : goal.returns-in_default
returns-in_default c =
    let a = c.args in
    turned c.turn_down-in_default.ensures
    (did_rejected a.c a.words.now a.h a.scratch.now
    (unknown a.c.code a.c.unused a.c.a a.c.b
    (elim c.in_default.branch [ in_default-via-then-c-lt1 w ↦ inl (omega arith) | in_default-via-else-c-lt1+else-c-lt25 w ↦ inr (omega arith) ])) c.requires)
