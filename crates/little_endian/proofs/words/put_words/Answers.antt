-- The contract of `little_endian::words::put_words`.
use mathlib.Core.List.{List}
use mathlib.Core.Path.{◌∙◌, ap}
use Prim.Native.Nat.{◌+◌, ◌*◌, ℕ}
use native.Mathlib.Omega.{arith}
use lib.ListN.{get_or}
use Rattle.little_endian.specs.Bytes.{with_number}
use Rattle.little_endian.specs.RunLaws.{put_none, put-more}
use Rattle.little_endian.proofs.words.put_words.Goals as goal

pub loop-i-init : goal.loop-i-init
loop-i-init c = put_none 4 _ _ c.args.words.now

pub loop-i-preserved : goal.loop-i-preserved
loop-i-preserved c =
    let a = c.args in
    let i = c.loop-i.i in
    c.put_32.ensures
    ∙ ap (λ (b : List ℕ). with_number 4 b (a.at + 4 * i) (get_or a.words.now i 0)) c.loop-i.invariant
    ∙ put-more 4 a.bytes.now a.at a.words.now i (omega arith)
