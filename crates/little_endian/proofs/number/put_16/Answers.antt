-- The contract of `little_endian::number::put_16`.
use Rattle.std.proofs.Common.{◌∙◌}
use Rattle.little_endian.specs.ByteLaws.{part-written, two-given}
use Rattle.little_endian.proofs.number.put_16.Goals as goal

pub returns : goal.returns
returns c =
    let a = c.args in
    part-written _ a.bytes.now a.at a.x _ c.requires (c.copy_from_slice.ensures.after ∙ c.to_le_bytes-two.ensures ∙ two-given a.x)
