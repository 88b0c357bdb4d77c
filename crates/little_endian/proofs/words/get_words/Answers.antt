-- The contract of `little_endian::words::get_words`.
use mathlib.Core.List.{List}
use mathlib.Core.Path.{◌∙◌, ap}
use Prim.Native.Nat.{◌+◌, ◌*◌, ℕ}
use lib.ListN.{set}
use Rattle.little_endian.specs.Bytes.{number_at}
use Rattle.little_endian.specs.RunLaws.{get_none, get-more}
use Rattle.little_endian.proofs.words.get_words.Goals as goal

pub loop-i-init : goal.loop-i-init
loop-i-init c = get_none 4 _ c.args.bytes.now c.args.at

pub loop-i-preserved : goal.loop-i-preserved
loop-i-preserved c =
    let a = c.args in
    let i = c.loop-i.i in
    ap (set c.loop-i.words i) c.get_32.ensures
    ∙ ap (λ (w : List ℕ). set w i (number_at 4 a.bytes.now (a.at + 4 * i))) c.loop-i.invariant
    ∙ get-more 4 a.words.now a.bytes.now a.at i
