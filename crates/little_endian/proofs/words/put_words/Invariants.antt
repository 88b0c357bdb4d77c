-- The contract of `little_endian::words::put_words`.
use mathlib.Core.Path.{◌≡◌}
use lib.ListN.{take}
use lib.Seq.{sets}
use Rattle.little_endian.specs.Bytes.{bytes_of_each}
use Rattle.little_endian.proofs.words.put_words.Given as goal

abbrev pub invariant-loop-i : goal.invariant-loop-i
invariant-loop-i l = l.bytes ≡ sets l.initial.bytes l.at (bytes_of_each 4 (take l.i l.words))
