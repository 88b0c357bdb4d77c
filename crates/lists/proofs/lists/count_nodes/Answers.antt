-- The contract of `lists::lists::count_nodes`.
use mathlib.Core.Path.{◌∙◌, sym}
use Rattle.lists.specs.ListingLaws.{counted-done, counted-removed}
use Rattle.lists.proofs.lists.count_nodes.Goals as goal

pub returns-then-not-found : goal.returns-then-not-found
returns-then-not-found c =
    let a = c.args in
    counted-removed a.words.now a.used a.root (sym c.found.ensures ∙ c.if-not-found.true)

pub returns : goal.returns
returns c =
    let a = c.args in
    counted-done a.words.now a.used a.root (sym c.found.ensures ∙ c.if-not-found.false) c.count_listed.ensures
