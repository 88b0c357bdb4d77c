-- The contract of `moves::value::value_node`.
use mathlib.Core.Path.{refl, sym, ◌∙◌}
use native.Mathlib.Omega.{arith}
use lib.ListN.{length}
use Rattle.sound.specs.GuardLaws.{capacity-fits}
use Rattle.moves.specs.ValueLaws.{value_made, value-err, value-removed}
use Rattle.moves.proofs.value.value_node.Goals as goal

pub returns-then-not-found : goal.returns-then-not-found
returns-then-not-found c = value-removed _ _ _ _ _ (sym c.found.ensures ∙ c.if-not-found.true)

pub returns-in_err-made : goal.returns-in_err-made
returns-in_err-made c = value-err _ _ _ _ _ _ _ (sym c.found.ensures ∙ c.if-not-found.false) c.in_err-made.ensures c.from_residual.ensures.1

pub overflow_add-h : goal.overflow_add-h
overflow_add-h c = let a = c.args in let w = capacity-fits (length a.words.now) a.h.used c.requires.1 in omega arith

pub returns : goal.returns
returns c = value_made _ _ _ _ _ (sym c.found.ensures ∙ c.if-not-found.false) c.in_ok-made.ensures refl c.put_new.ensures
