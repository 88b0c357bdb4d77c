-- The contract of `sound::fit`.
use Prim.Native.Nat.{◌*◌}
use native.Mathlib.Omega.{arith}
use lib.ListN.{length}
use borrow.Author.Tests.{lt-ltb, le-ltb}
use Rattle.link.specs.Words.{capacity_of}
use Rattle.rules.specs.Answers.{refusal}
use Rattle.sound.specs.Guard.{fit_no}
use Rattle.sound.proofs.fit.Goals as goal

pub returns-then-capacity-used : goal.returns-then-capacity-used
unfolding fit_no refusal
returns-then-capacity-used c =
    let a = c.args in
    let e = c.capacity.ensures in
    simp (lt-ltb (capacity_of (length a.words.now)) a.used (omega arith))

pub returns-then-scratch-used : goal.returns-then-scratch-used
unfolding fit_no refusal
returns-then-scratch-used c =
    let a = c.args in
    let e = c.capacity.ensures in
    simp (le-ltb (capacity_of (length a.words.now)) a.used (omega arith), lt-ltb (length a.scratch.now) (2 * a.used) (omega arith))

pub returns : goal.returns
unfolding fit_no refusal
returns c =
    let a = c.args in
    let e = c.capacity.ensures in
    simp (le-ltb (capacity_of (length a.words.now)) a.used (omega arith), le-ltb (length a.scratch.now) (2 * a.used) (omega arith))
