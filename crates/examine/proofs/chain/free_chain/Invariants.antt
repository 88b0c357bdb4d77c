-- The contract of `examine::chain::free_chain`.
use mathlib.Core.Path.{◌≡◌}
use mathlib.Core.Bool.{false}
use Prim.Native.Nat.{◌+◌, ◌-◌}
use Rattle.examine.specs.Chain.{chain_run}
use Rattle.examine.proofs.chain.free_chain.Given as goal

abbrev pub invariant-loop : goal.invariant-loop
invariant-loop l = chain_run (l.used + 1 - l.counter) l.words l.used l.last l.spent l.before l.x ≡ chain_run (l.used + 1) l.words l.used l.last false 0 l.first
