-- The contract of `removal::id::remove`.
use Rattle.removal.specs.RemoveLaws.{hoist_freeable}
use Rattle.removal.proofs.id.remove.Goals as goal

pub free_node-requires : goal.free_node-requires
free_node-requires c = hoist_freeable c.args.words.now c.args.h c.args.id c.requires.0 _ _ _ _ _ _ c.detach.ensures c.hoist.ensures
