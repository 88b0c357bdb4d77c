-- The contract of `walk::run::Run::starts`.
use mathlib.Core.Path.{◌≡◌, ◌∙◌, sym, refl, ap}
use Prim.Native.Nat.{◌+◌, ◌<◌, ◌*◌, ℕ}
use native.Mathlib.Omega.{arith}
use borrow.Author.Rules.{rules}
use Rattle.std.proofs.lemmas.Grind.{common_steps}
use lib.ListN.{set, length-set}
use Rattle.link.specs.FoundLaws.{found_is}
use Rattle.walk.specs.Runs.{starting}
use Rattle.walk.specs.RunLaws.{lost_starting, gone-edge, gone-end, ran-edge, ran-end, ran-lost, end-not_start, none-not, after-leaf, after-child}
use Rattle.walk.specs.declared.edge.Edge.TheVariants.{Start, End}
use Rattle.walk.specs.declared.edge.Step.TheVariants as S
use Rattle.walk.proofs.run.Run.starts.Goals as goal

pub returns-then-not-found_to : goal.returns-then-not-found_to
returns-then-not-found_to c =
    let at = c.loop-count in
    ran-lost starting lost_starting (Start at.id) at.list at.count at.invariant c.loop-count-test.true refl c.found_to.ensures c.if-not-found_to.true

pub link_to-child-requires : goal.link_to-child-requires
link_to-child-requires c =
    let a = c.args in
    let at = c.loop-count in
    let f = found_is a.self.words.now a.self.used at.id (sym c.found_to.ensures ∙ c.if-not-found_to.false) in
    let e = c.end_of-end.ensures ∙ ap (λ (s : ℕ). s * 7) c.slot_of.ensures in
    (omega arith, omega arith, e, omega arith)

pub loop-count-preserved-then-child-ne0 : goal.loop-count-preserved-then-child-ne0
loop-count-preserved-then-child-ne0 c =
    let a = c.args in
    let at = c.loop-count in
    let h : at.count < a.self.budget = c.loop-count-test.true in
    gone-edge (Start at.id) at.list at.count at.invariant h refl c.found_to.ensures c.if-not-found_to.false refl
    (after-child a.self.words.now a.self.root at.id c.link_to-child.ensures c.if-child-ne0.true)

pub returns-then-count-self : goal.returns-then-count-self
returns-then-count-self c =
    let a = c.args in
    let at = c.loop-count in
    let h : at.count < a.self.budget = c.loop-count-test.true in
    let b = at.invariant.from in
    ran-edge starting (S.Edge (End at.id)) (set at.list at.count at.id) (at.count + 1) (λ id e. cc) (omega arith)
    (gone-edge (Start at.id) at.list at.count at.invariant h refl c.found_to.ensures c.if-not-found_to.false refl
    (after-leaf a.self.words.now a.self.root at.id c.link_to-child.ensures c.if-child-ne0.false))

pub write_end-leaf-requires : goal.write_end-leaf-requires
write_end-leaf-requires c =
    let a = c.args in
    let at = c.loop-count in
    let h : at.count < a.self.budget = c.loop-count-test.true in
    let n : at.count + 1 ≡ a.self.budget → ⊥ = c.if-count-self.false in
    let l = at.invariant.places in
    let s = length-set at.list at.count at.id in
    let f = found_is a.self.words.now a.self.used at.id (sym c.found_to.ensures ∙ c.if-not-found_to.false) in
    let e = c.end_of-end.ensures ∙ ap (λ (s : ℕ). s * 7) c.slot_of.ensures in
    (omega arith, omega arith, e, omega arith, omega arith, omega arith)

pub returns-in_default : goal.returns-in_default
returns-in_default c =
    let a = c.args in
    let at = c.loop-count in
    let h : at.count < a.self.budget = c.loop-count-test.true in
    let n : at.count + 1 ≡ a.self.budget → ⊥ = c.if-count-self.false in
    ran-end starting at.id (set at.list at.count at.id) (at.count + 1)
    (gone-edge (Start at.id) at.list at.count at.invariant h refl c.found_to.ensures c.if-not-found_to.false refl
    (after-leaf a.self.words.now a.self.root at.id c.link_to-child.ensures c.if-child-ne0.false))
    (omega arith) c.found_to.ensures c.if-not-found_to.false c.write_end-leaf.ensures (search (rules, end-not_start))

pub returns-in_default-2 : goal.returns-in_default-2
returns-in_default-2 c =
    let a = c.args in
    let at = c.loop-count in
    let h : at.count < a.self.budget = c.loop-count-test.true in
    let n : at.count + 1 ≡ a.self.budget → ⊥ = c.if-count-self.false in
    ran-end starting at.id (set at.list at.count at.id) (at.count + 1)
    (gone-edge (Start at.id) at.list at.count at.invariant h refl c.found_to.ensures c.if-not-found_to.false refl
    (after-leaf a.self.words.now a.self.root at.id c.link_to-child.ensures c.if-child-ne0.false))
    (omega arith) c.found_to.ensures c.if-not-found_to.false c.write_end-leaf.ensures (search (rules, none-not))

pub loop-count-preserved : goal.loop-count-preserved
loop-count-preserved c =
    let a = c.args in
    let at = c.loop-count in
    let h : at.count < a.self.budget = c.loop-count-test.true in
    let n : at.count + 1 ≡ a.self.budget → ⊥ = c.if-count-self.false in
    let g = gone-end at.id (set at.list at.count at.id) (at.count + 1)
    (gone-edge (Start at.id) at.list at.count at.invariant h refl c.found_to.ensures c.if-not-found_to.false refl
    (after-leaf a.self.words.now a.self.root at.id c.link_to-child.ensures c.if-child-ne0.false))
    (omega arith) c.found_to.ensures c.if-not-found_to.false c.write_end-leaf.ensures in
    grind (arith, common_steps)
