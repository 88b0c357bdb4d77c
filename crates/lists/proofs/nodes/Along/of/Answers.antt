-- The contract of `lists::nodes::Along::of`.
use Rattle.lists.specs.OrderLinks.{linked-ordered}
use Rattle.lists.proofs.nodes.Along.of.Goals as goal

pub returns : goal.returns
returns c = λ d. linked-ordered c.args.words.now c.args.used c.args.order c.args.root d c.near_link.ensures c.far_link.ensures c.first_of.ensures
