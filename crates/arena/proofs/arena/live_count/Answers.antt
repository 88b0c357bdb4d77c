-- The contract of `arena::arena::live_count`.
use Rattle.std.proofs.Common.{ap, refl, length}
use Rattle.rules.specs.Answers.{DONE, reply}
use Rattle.sound.specs.GuardLaws.{capacity-fits}
use Rattle.sound.specs.GuardedLaws.{read-passed, read-err}
use Rattle.arena.specs.Census.{live_call}
use Rattle.arena.proofs.arena.live_count.Goals as goal

pub returns-in_err-guard : goal.returns-in_err-guard
unfolding live_call
returns-in_err-guard c = read-err _ _ _ c.in_err-guard.ensures.outcome.0 c.in_err-guard.ensures.outcome.1 _ _ _ _ refl c.from_residual.ensures.1

pub count_live-requires : goal.count_live-requires
count_live-requires c = (capacity-fits (length c.args.words.now) c.args.h.used (c.in_ok-guard.ensures.exact.0 refl).0).1

pub returns : goal.returns
unfolding live_call
returns c = read-passed _ _ _ c.in_ok-guard.ensures.outcome.0 c.in_ok-guard.ensures.outcome.1 refl (ap (reply DONE) c.count_live.ensures)
