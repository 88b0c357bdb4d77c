-- The contract of `lists::levels::list_levels`.
use mathlib.Core.Path.{◌∙◌, sym}
use native.Mathlib.Omega.{arith}
use Rattle.lists.specs.ListingLaws.{levels-removed, levels-room, levels-done}
use Rattle.lists.proofs.levels.list_levels.Goals as goal

pub returns-then-not-found : goal.returns-then-not-found
returns-then-not-found c =
    let a = c.args in
    levels-removed a.words.now a.used a.root a.list.now (sym c.found.ensures ∙ c.if-not-found.true)

pub returns-then-list-size : goal.returns-then-list-size
returns-then-list-size c =
    let a = c.args in
    levels-room a.words.now a.used a.root a.list.now c.count_listed-size.result c.count_listed-size.ensures (sym c.found.ensures ∙ c.if-not-found.false) (omega arith)

pub returns : goal.returns
returns c =
    let a = c.args in
    levels-done a.words.now a.used a.root a.list.now c.count_listed-size.result c.count_listed-size.ensures (sym c.found.ensures ∙ c.if-not-found.false) (omega arith) c.write_levels.ensures
