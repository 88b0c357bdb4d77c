-- The contract of `lists::lists::write_listed`.
use mathlib.Core.Path.{◌∙◌, ap, sym}
use mathlib.Core.List.{List}
use Prim.Native.Nat.{ℕ}
use native.Mathlib.Omega.{arith}
use lib.ListN.{length}
use Rattle.lists.specs.Storing.{stored_at}
use Rattle.lists.specs.OrderLinks.{linked-ordered}
use Rattle.lists.proofs.lists.write_listed.Goals as goal

pub write_along-requires : goal.write_along-requires
write_along-requires c =
    let a = c.args in
    let e = ap length (linked-ordered a.words.now a.used a.order a.root (sym c.goes_down.ensures ∙ c.if-goes_down.false) c.near_link.ensures c.far_link.ensures c.first_of-first.ensures) in
    let p = c.requires in
    omega arith

pub returns : goal.returns
returns c =
    let a = c.args in
    c.write_along.ensures ∙ ap (λ (xs : List ℕ). stored_at xs a.list.now a.start) (linked-ordered a.words.now a.used a.order a.root (sym c.goes_down.ensures ∙ c.if-goes_down.false) c.near_link.ensures c.far_link.ensures c.first_of-first.ensures)
