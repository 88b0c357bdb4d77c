-- After `clear` memory is ready, whatever its words, and nothing is found.
use Rattle.std.specs.Prelude.{List, ℕ}
use Rattle.std.proofs.Common.{arith}
use Rattle.link.specs.Found.{Found}
use Rattle.rules.specs.Sound.{Ready}
use Rattle.forest.specs.Vectors.{P7}
use Rattle.arena.specs.Reads.{cleared}

pub clear-ready : (m : List ℕ) → Ready m cleared
clear-ready m = P7 m

pub clear_none : (m : List ℕ) (x : ℕ) → Found m cleared.used x → ⊥
clear_none m x f = let a = f.from in let b = f.upto in omega arith
