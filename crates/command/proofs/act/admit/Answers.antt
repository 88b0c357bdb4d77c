-- The contract of `command::act::admit`.
use mathlib.Core.Path.{refl, sym, subst, ◌∙◌}
use Rattle.std.proofs.lemmas.Result.{err_from_is_err_and}
use Rattle.command.specs.Kinds.{call_as}
use Rattle.command.specs.Known.{Knows}
use Rattle.command.specs.StepLaws.{fit-look}
use Rattle.command.specs.Acts.{free_b}
use Rattle.command.specs.ActLaws.{roomed-settled, roomed-free, roomed-looked, roomed-unfit}
use Rattle.command.specs.declared.known.Known.{Known}
use Rattle.command.proofs.act.admit.Goals as goal
use Rattle.command.proofs.act.admit.Goals.{then-h-clean-via-then-h-clean, then-h-clean-via-else-h-clean+then-is_free}

pub returns-then-h-clean : goal.returns-then-h-clean
returns-then-h-clean c =
    let a = c.args in
    elim c.then-h-clean.branch [
      | then-h-clean-via-then-h-clean w ↦ roomed-settled a.words.now a.h a.scratch.now _ c.requires w.if-h-clean.true
      | then-h-clean-via-else-h-clean+then-is_free w ↦ roomed-free a.words.now a.h a.scratch.now _ c.requires (sym w.is_free.ensures ∙ w.if-is_free.true)
    ]

pub returns-in_err-fit : goal.returns-in_err-fit
returns-in_err-fit c =
    let a = c.args in
    let p = err_from_is_err_and c.from_residual.result c.from_residual.ensures.1 in
    rw (p.1, p.2)
    (roomed-unfit a.words.now a.h a.scratch.now (free_b (call_as a.to_do)) c.requires _ (sym c.is_free.ensures ∙ c.if-is_free.false) c.in_err-fit.ensures)

pub look-requires : goal.look-requires
look-requires c =
    let a = c.args in
    fit-look a.words.now a.h a.scratch.now c.in_ok-fit.ensures refl
    (subst (λ (k : Known). Knows a.words.now a.h a.scratch.now k) (sym c.ready.ensures) c.requires)

pub returns : goal.returns
returns c =
    let a = c.args in
    roomed-looked a.words.now a.h a.scratch.now (free_b (call_as a.to_do)) c.requires (sym c.is_free.ensures ∙ c.if-is_free.false) c.in_ok-fit.ensures c.look.ensures
