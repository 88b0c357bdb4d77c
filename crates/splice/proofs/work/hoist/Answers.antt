-- The contract of `splice::work::hoist`.
use mathlib.Core.Path.{sym, ◌∙◌}
use borrow.Author.Tests.{eq-eqb}
use Rattle.splice.specs.Hoist.{hoisted_in}
use Rattle.splice.specs.HoistLaws.{front-asks, back-asks, ends_by, tie-asks, tied-ok, tied-err, hoisted_in_by}
use Rattle.splice.proofs.work.hoist.Goals as goal

pub returns-then-first-eq0 : goal.returns-then-first-eq0
unfolding hoisted_in
returns-then-first-eq0 c = simp (eq-eqb c.args.children.first 0 c.if-first-eq0.true)

pub set_word-requires : goal.set_word-requires
set_word-requires c =
    let a = c.args in let p = c.requires in
    front-asks a.words.now a.id c.slot_of-slot.ensures p.0

pub set_word-requires-2 : goal.set_word-requires-2
set_word-requires-2 c =
    let a = c.args in let p = c.requires in let e = c.slot_of-slot.ensures in
    back-asks a.words.now a.id e p.0 c.set_word.ensures

pub tie_in-requires : goal.tie_in-requires
tie_in-requires c =
    let a = c.args in let p = c.requires in
    let out = ends_by a.words.now a.id c.slot_of-slot.ensures p.0 c.set_word.ensures c.set_word-2.ensures in
    tie-asks a.steps a.words.now a.id a.children.first a.children.last a.to.parent a.to.previous a.to.next c.if-first-eq0.false out c.rewrite_parents.ensures p.1 p.2

pub returns-then-is_ok : goal.returns-then-is_ok
returns-then-is_ok c =
    let a = c.args in let p = c.requires in
    let out = ends_by a.words.now a.id c.slot_of-slot.ensures p.0 c.set_word.ensures c.set_word-2.ensures in
    hoisted_in_by a.steps a.words.now a.id a.children.first a.children.last a.to.parent a.to.previous a.to.next c.if-first-eq0.false out c.rewrite_parents.ensures
    (c.tie_in.ensures ∙ sym (tied-ok _ _ _ _ _ _ _ (sym c.is_ok.ensures.value ∙ c.if-is_ok.true)))

pub returns-else-is_ok : goal.returns-else-is_ok
returns-else-is_ok c =
    let a = c.args in let p = c.requires in
    let out = ends_by a.words.now a.id c.slot_of-slot.ensures p.0 c.set_word.ensures c.set_word-2.ensures in
    hoisted_in_by a.steps a.words.now a.id a.children.first a.children.last a.to.parent a.to.previous a.to.next c.if-first-eq0.false out c.rewrite_parents.ensures
    (sym (tied-err _ _ _ _ _ _ _ (sym c.is_ok.ensures.value ∙ c.if-is_ok.false)))
