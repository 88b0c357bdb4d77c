-- The contract of `examine::examine::examine`.
use native.Mathlib.Omega.{arith}
use Rattle.std.proofs.lemmas.Bool.Decides.{nat_tests}
use Rattle.examine.specs.Examination.{examined}
use Rattle.examine.specs.PassLaws.{links_is, links-within}
use Rattle.examine.proofs.examine.examine.Goals as goal

pub returns-then-sound : goal.returns-then-sound
unfolding examined
returns-then-sound c =
    let a = c.args in
    let kept = links-within a.words.now a.h.used a.scratch.now in
    let said = links_is a.words.now a.h.used a.scratch.now c.requires.0 c.requires.2 in
    (grind arith, grind (arith, nat_tests))

pub returns-else-sound : goal.returns-else-sound
unfolding examined
returns-else-sound c =
    let a = c.args in
    let kept = links-within a.words.now a.h.used a.scratch.now in
    let said = links_is a.words.now a.h.used a.scratch.now c.requires.0 c.requires.2 in
    (grind arith, grind (arith, nat_tests))
