-- The contract of `image::format::write_prefix`.
use Rattle.image.specs.ImageLaws.{prefix-calls}
use Rattle.image.proofs.format.write_prefix.Goals as goal

pub returns : goal.returns
returns c =
    let a = c.args in
    prefix-calls a.bytes.now a.h c.write_mark.ensures c.put_16.ensures c.put_16-2.ensures c.put_16-3.ensures c.put_16-4.ensures
