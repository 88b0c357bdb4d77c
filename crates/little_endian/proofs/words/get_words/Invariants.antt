-- The contract of `little_endian::words::get_words`.
use mathlib.Core.Path.{◌≡◌}
use lib.Seq.{sets}
use Rattle.little_endian.specs.Bytes.{numbers_at}
use Rattle.little_endian.proofs.words.get_words.Given as goal

abbrev pub invariant-loop-i : goal.invariant-loop-i
invariant-loop-i l = l.words ≡ sets l.initial.words 0 (numbers_at 4 l.i l.bytes l.at)
