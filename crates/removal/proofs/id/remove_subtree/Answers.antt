-- The contract of `removal::id::remove_subtree`.
use Rattle.removal.specs.RemoveLaws.{out_freeable, below_freeable}
use Rattle.removal.proofs.id.remove_subtree.Goals as goal

pub remove_descendants-header-requires : goal.remove_descendants-header-requires
remove_descendants-header-requires c = (out_freeable c.args.words.now c.args.h c.args.id c.requires.0 _ c.detach.ensures, c.requires.1)

pub free_node-requires : goal.free_node-requires
free_node-requires c = below_freeable c.args.words.now c.args.h c.args.id c.requires.0 _ c.detach.ensures c.remove_descendants-header.ensures
