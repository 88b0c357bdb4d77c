-- The contract of `image::format::marked`.
use mathlib.Core.Path.{◌∙◌}
use Rattle.image.specs.ImageLaws.{starts-marked}
use Rattle.image.proofs.format.marked.Goals as goal

pub returns : goal.returns
returns c = c.starts_with.ensures.value ∙ starts-marked c.args.bytes.now c.requires
