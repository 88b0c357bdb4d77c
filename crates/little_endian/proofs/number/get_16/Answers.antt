-- The contract of `little_endian::number::get_16`.
use native.Mathlib.Omega.{arith}
use Rattle.little_endian.specs.ByteLaws.{two-read}
use Rattle.little_endian.proofs.number.get_16.Goals as goal

pub returns : goal.returns
returns c =
    let a = c.args in
    let e = two-read a.bytes.now a.at (omega arith) in
    omega arith
