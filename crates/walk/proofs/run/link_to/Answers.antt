-- The contract of `walk::run::link_to`.
use Rattle.walk.specs.RunLaws.{link-end}
use Rattle.walk.proofs.run.link_to.Goals as goal

pub returns : goal.returns
returns c =
    let a = c.args in
    let p = c.requires in
    link-end a.words.now a.id a.end a.k p.2 p.0
