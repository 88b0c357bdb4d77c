-- The contract of `batch::trace::command_at`.
use mathlib.Core.Path.{ap, ◌∙◌}
use Prim.Native.Nat.{ℕ, ◌/◌, ◌%◌, ◌<◌}
use native.Mathlib.Omega.{arith}
use lib.ListN.{length}
use Rattle.little_endian.specs.ByteLaws.{lowest, behind-lowest}
use Rattle.batch.specs.Trace.{command_at}
use Rattle.batch.proofs.trace.command_at.Goals as goal

pub returns : goal.returns
unfolding command_at
returns c =
    let a = c.args in
    let byte = (c.shared_slice_known-1.given a.at).fits in
    let p = c.requires in
    let inside : a.at < length a.trace.now = omega arith in
    let code = ap (λ (x : ℕ). x % 256) c.get_32-first.ensures ∙ lowest 3 a.trace.now a.at inside byte in
    let unused = ap (λ (x : ℕ). x / 256) c.get_32-first.ensures ∙ behind-lowest 3 a.trace.now a.at inside byte in
    simp (code, unused, c.get_32.ensures, c.get_32-2.ensures)
