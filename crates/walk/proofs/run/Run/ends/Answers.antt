-- The contract of `walk::run::Run::ends`.
use mathlib.Core.Path.{◌∙◌, sym, refl, ap}
use Prim.Native.Nat.{◌<◌, ◌*◌, ℕ}
use native.Mathlib.Omega.{arith}
use borrow.Author.Rules.{rules}
use Rattle.std.proofs.lemmas.Grind.{common_steps}
use Rattle.link.specs.FoundLaws.{found_is}
use Rattle.walk.specs.Runs.{ending}
use Rattle.walk.specs.RunLaws.{lost_ending, gone-end, ran-end, ran-lost, start-not_end, none-not}
use Rattle.walk.specs.declared.edge.Edge.TheVariants.{End}
use Rattle.walk.proofs.run.Run.ends.Goals as goal

pub returns-then-not-found_to : goal.returns-then-not-found_to
returns-then-not-found_to c =
    let at = c.loop-count in
    ran-lost ending lost_ending (End at.id) at.list at.count at.invariant c.loop-count-test.true refl c.found_to.ensures c.if-not-found_to.true

pub write_end-up-requires : goal.write_end-up-requires
write_end-up-requires c =
    let a = c.args in
    let at = c.loop-count in
    let h : at.count < a.self.budget = c.loop-count-test.true in
    let l = at.invariant.places in
    let f = found_is a.self.words.now a.self.used at.id (sym c.found_to.ensures ∙ c.if-not-found_to.false) in
    let e = c.end_of-end.ensures ∙ ap (λ (s : ℕ). s * 7) c.slot_of.ensures in
    (omega arith, omega arith, e, omega arith, omega arith, omega arith)

pub returns-in_default : goal.returns-in_default
returns-in_default c =
    let at = c.loop-count in
    ran-end ending at.id at.list at.count at.invariant c.loop-count-test.true c.found_to.ensures c.if-not-found_to.false c.write_end-up.ensures (search (rules, start-not_end))

pub returns-in_default-2 : goal.returns-in_default-2
returns-in_default-2 c =
    let at = c.loop-count in
    ran-end ending at.id at.list at.count at.invariant c.loop-count-test.true c.found_to.ensures c.if-not-found_to.false c.write_end-up.ensures (search (rules, none-not))

pub loop-count-preserved : goal.loop-count-preserved
loop-count-preserved c =
    let at = c.loop-count in
    let g = gone-end at.id at.list at.count at.invariant c.loop-count-test.true c.found_to.ensures c.if-not-found_to.false c.write_end-up.ensures in
    grind (arith, common_steps)
