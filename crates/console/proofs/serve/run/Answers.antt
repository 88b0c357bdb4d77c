-- The contract of `console::serve::run`.
use Rattle.std.proofs.Common.{refl, arith}
use Rattle.command.specs.StepLaws.{knows_fresh}
use Rattle.console.proofs.serve.run.Goals as goal

pub loop-init : goal.loop-init
loop-init c =
    let a = c.args in
    (rw (c.clear.ensures, c.fresh.ensures) (knows_fresh a.words.now a.scratch.now (refl, refl, refl)), omega arith, refl, refl, refl, refl, refl)
