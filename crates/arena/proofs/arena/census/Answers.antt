-- The contract of `arena::arena::census`.
use Rattle.std.proofs.Common.{refl}
use Rattle.arena.specs.CensusCallLaws.{census-passed, census-err}
use Rattle.arena.proofs.arena.census.Goals as goal

pub returns-in_err-guard : goal.returns-in_err-guard
returns-in_err-guard c = census-err _ _ _ c.in_err-guard.ensures.outcome.0 c.in_err-guard.ensures.outcome.1 _ _ refl c.from_residual.ensures.1

pub count_census-requires : goal.count_census-requires
count_census-requires c = (c.in_ok-guard.ensures.exact.0 refl).0

pub returns : goal.returns
returns c = census-passed _ _ _ c.in_ok-guard.ensures.outcome.0 c.in_ok-guard.ensures.outcome.1 refl c.count_census.ensures
