-- The contract of `arena::census::count_census`.
use lib.ListN.{length}
use Rattle.sound.specs.GuardLaws.{capacity-fits}
use Rattle.arena.proofs.census.count_census.Goals as goal

pub count_live-requires : goal.count_live-requires
count_live-requires c = (capacity-fits (length c.args.words.now) c.args.h.used c.requires).1

pub count_stamps-requires : goal.count_stamps-requires
count_stamps-requires c = (capacity-fits (length c.args.words.now) c.args.h.used c.requires).1

pub count_stamps-requires-2 : goal.count_stamps-requires-2
count_stamps-requires-2 c = (capacity-fits (length c.args.words.now) c.args.h.used c.requires).1
