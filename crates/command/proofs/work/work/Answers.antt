-- The contract of `command::work::work`: each arm is one kind of work, whose own contract says what it does.
use lib.ListN.{length}
use Rattle.sound.specs.GuardLaws.{capacity-fits}
use Rattle.removal.specs.FreeableLaws.{last-used}
use Rattle.command.proofs.work.work.Goals as goal

pub detach_children_node-requires : goal.detach_children_node-requires
detach_children_node-requires c = let a = c.args in (capacity-fits (length a.words.now) a.h.used c.requires.1).0

pub remove_children_found-requires : goal.remove_children_found-requires
remove_children_found-requires c = let a = c.args in (c.requires.1, last-used a.words.now a.h c.requires.0)

pub count_live-requires : goal.count_live-requires
count_live-requires c = let a = c.args in (capacity-fits (length a.words.now) a.h.used c.requires.1).1
