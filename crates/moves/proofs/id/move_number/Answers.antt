-- The contract of `moves::id::move_number`.
use native.Mathlib.Omega.{arith}
use lib.ListN.{length}
use Rattle.sound.specs.GuardLaws.{capacity-fits}
use Rattle.moves.proofs.id.move_number.Goals as goal

pub found_within-requires : goal.found_within-requires
found_within-requires c = let a = c.args in (capacity-fits (length a.words.now) a.h.used c.requires).1

pub found_within-requires-else-not-found_within : goal.found_within-requires-else-not-found_within
found_within-requires-else-not-found_within c = let a = c.args in (capacity-fits (length a.words.now) a.h.used c.requires).1

pub overflow_add-h : goal.overflow_add-h
overflow_add-h c = let a = c.args in let w = (capacity-fits (length a.words.now) a.h.used c.requires).0 in omega arith
