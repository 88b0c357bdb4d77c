-- The contract of `arena::census::count_stamps`.
use mathlib.Core.Path.{◌≡◌}
use mathlib.Core.Bool.{Bool}
use Prim.Native.Nat.{ℕ, ◌-◌, ◌+◌}
use native.Mathlib.Omega.{arith}
use borrow.Author.Rules.{rules}
use Rattle.std.proofs.Common.{tests}
use Rattle.arena.specs.Census.{stamp_in}
use Rattle.arena.specs.CensusLaws.{count_none, count-last, count_most}
use Rattle.arena.proofs.census.count_stamps.Goals as goal

pub loop-i-init : goal.loop-i-init
loop-i-init c = omega arith

pub overflow_add-count : goal.overflow_add-count
overflow_add-count c =
    let a = c.args in
    let i = c.loop-i.i in
    let is : ℕ → Bool = stamp_in a.low a.high a.words.now in
    let e : c.contains.result ≡ is (i - 1 + 1) = search (rules, tests) in
    let one = count-last is i c.from-count.result c.contains.result (omega arith) e c.from-count.ensures in
    let most = count_most is a.used in
    omega (arith, c.loop-i.invariant)

pub loop-i-preserved : goal.loop-i-preserved
loop-i-preserved c =
    let a = c.args in
    let i = c.loop-i.i in
    let is : ℕ → Bool = stamp_in a.low a.high a.words.now in
    let e : c.contains.result ≡ is (i - 1 + 1) = search (rules, tests) in
    let one = count-last is i c.from-count.result c.contains.result (omega arith) e c.from-count.ensures in
    omega (arith, c.loop-i.invariant)

pub returns : goal.returns
returns c =
    let a = c.args in
    let none = count_none (stamp_in a.low a.high a.words.now) c.loop-i.i (omega arith) in
    omega (arith, c.loop-i.invariant)
