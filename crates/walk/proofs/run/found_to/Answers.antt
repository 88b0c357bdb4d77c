-- The contract of `walk::run::found_to`.
use mathlib.Core.Path.{◌≡◌}
use Prim.Native.Nat.{◌-◌, ◌+◌}
use native.Mathlib.Omega.{arith}
use Rattle.std.proofs.lemmas.Bool.Decides.{nat_tests}
use borrow.Author.Tests.{ne_eqb, le-ltb}
use Rattle.link.specs.Ids.{slot_of, stamp_of}
use Rattle.link.specs.Words.{STAMP}
use Rattle.link.specs.Found.{found_b}
use Rattle.walk.specs.RunLaws.{link-end}
use Rattle.walk.proofs.run.found_to.Goals as goal

pub returns-then-low-le32767 : goal.returns-then-low-le32767
unfolding found_b
returns-then-low-le32767 c =
    let a = c.args in
    let e = c.requires.2 in
    let l = c.requires.0 in
    let z : a.end - 7 + 0 ≡ a.end - 7 = omega arith in
    let same = link-end a.words.now a.id a.end STAMP e (omega arith) in
    simp (
      ne_eqb (slot_of a.id) 0 (λ (q : slot_of a.id ≡ 0). omega arith),
      le-ltb a.used (slot_of a.id) (omega arith),
      le-ltb 32767 (stamp_of a.id) (omega arith),
    ) (cc)

pub returns-else-low-le32767 : goal.returns-else-low-le32767
unfolding found_b
returns-else-low-le32767 c =
    let e = c.requires.2 in
    let l = c.requires.0 in
    grind (arith, nat_tests)
