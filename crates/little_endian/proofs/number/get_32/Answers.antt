-- The contract of `little_endian::number::get_32`.
use native.Mathlib.Omega.{arith}
use Rattle.little_endian.specs.ByteLaws.{four-read}
use Rattle.little_endian.proofs.number.get_32.Goals as goal

pub returns : goal.returns
returns c =
    let a = c.args in
    let e = four-read a.bytes.now a.at (omega arith) in
    omega arith
