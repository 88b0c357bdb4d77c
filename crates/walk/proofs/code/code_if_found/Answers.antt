-- The contract of `walk::code::code_if_found`.
use mathlib.Core.Path.{◌∙◌, sym}
use native.Mathlib.Omega.{arith}
use Rattle.link.specs.FoundLaws.{found_is}
use Rattle.walk.proofs.code.code_if_found.Goals as goal

pub code-requires : goal.code-requires
code-requires c =
    let f = found_is c.args.words.now c.args.used c.id.result (sym c.found.ensures ∙ c.if-found.true) in
    omega arith
