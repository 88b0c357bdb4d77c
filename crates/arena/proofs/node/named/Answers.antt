-- The contract of `arena::node::named`.
use Rattle.std.proofs.Common.{arith, length}
use Rattle.sound.specs.GuardLaws.{capacity-fits}
use Rattle.arena.proofs.node.named.Goals as goal

pub found_within-requires : goal.found_within-requires
found_within-requires c = let a = c.args in (capacity-fits (length a.words.now) a.h.used (omega arith)).1
