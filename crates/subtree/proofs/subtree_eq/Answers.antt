-- The contract of `subtree::subtree_eq`.
use mathlib.Core.Path.{◌∙◌, refl}
use mathlib.Core.Bool.{Bool, cond}
use Prim.Native.Nat.{ℕ}
use lib.ListN.{length}
use Rattle.sound.specs.GuardLaws.{capacity-fits}
use Rattle.sound.specs.GuardedLaws.{read-err, read-passed}
use Rattle.subtree.specs.CompareLaws.{subtrees-err, subtrees-then}
use Rattle.subtree.proofs.subtree_eq.Goals as goal

abbrev yes : Bool → ℕ
yes b = cond b 1 0

pub returns-in_err-guard : goal.returns-in_err-guard
returns-in_err-guard c =
    let a = c.args in
    let g = c.in_err-guard.ensures.outcome in
    subtrees-err a.words.now a.h a.id a.others.now a.other_h a.other_id a.scratch.now g.0 g.1 yes c.from_residual.result _ refl c.from_residual.ensures.1

pub returns-in_err-guard-2 : goal.returns-in_err-guard-2
returns-in_err-guard-2 c =
    let a = c.args in
    let g = c.in_ok-guard.ensures.outcome in
    let k = c.in_err-guard-2.ensures.outcome in
    read-err a.others.now a.other_h c.guard.new.scratch k.0 k.1 yes _ c.from_residual-in_err-guard-2.result _ refl c.from_residual-in_err-guard-2.ensures.1
    ∙ subtrees-then a.words.now a.h a.id a.others.now a.other_h a.other_id a.scratch.now g.0 g.1 refl

pub compare_nodes-requires : goal.compare_nodes-requires
compare_nodes-requires c =
    let a = c.args in
    (capacity-fits (length a.words.now) a.h.used (c.in_ok-guard.ensures.exact.0 refl).0).0

pub returns : goal.returns
returns c =
    let a = c.args in
    let g = c.in_ok-guard.ensures.outcome in
    let k = c.in_ok-guard-2.ensures.outcome in
    read-passed a.others.now a.other_h c.guard.new.scratch k.0 k.1 refl c.compare_nodes.ensures
    ∙ subtrees-then a.words.now a.h a.id a.others.now a.other_h a.other_id a.scratch.now g.0 g.1 refl
