-- The contract of `moves::id::move_node`.
use mathlib.Core.Path.{refl}
use native.Mathlib.Omega.{arith}
use lib.ListN.{length}
use Rattle.sound.specs.GuardLaws.{capacity-fits}
use Rattle.moves.specs.MoveLaws.{moved-done, moved-err}
use Rattle.moves.proofs.id.move_node.Goals as goal

pub returns-in_err-move_number : goal.returns-in_err-move_number
returns-in_err-move_number c = moved-err _ _ _ _ _ _ _ c.in_err-move_number.ensures c.from_residual.ensures.1

pub overflow_add-h : goal.overflow_add-h
overflow_add-h c = let a = c.args in let w = (capacity-fits (length a.words.now) a.h.used c.requires).0 in omega arith

pub returns : goal.returns
returns c = moved-done _ _ _ _ _ c.in_ok-move_number.ensures refl c.move_words.ensures
