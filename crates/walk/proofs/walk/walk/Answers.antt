-- The contract of `walk::walk::walk`.
use native.Mathlib.Omega.{arith}
use lib.ListN.{length}
use Rattle.sound.specs.GuardLaws.{capacity-fits}
use Rattle.walk.proofs.walk.walk.Goals as goal

pub walk_edges-requires : goal.walk_edges-requires
walk_edges-requires c =
    let a = c.args in
    let e = c.capacity.ensures in
    let within = capacity-fits (length a.words.now) a.h.used (omega arith) in
    (within.0, within.1, omega arith)
