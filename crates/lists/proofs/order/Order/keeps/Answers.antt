-- The contract of `lists::order::Order::keeps`.
use Rattle.lists.specs.Orders.{keep_b}
use Rattle.lists.specs.OrderLinks.{keeps-all}
use Rattle.lists.proofs.order.Order.keeps.Goals as goal

pub returns-in-Leaves : goal.returns-in-Leaves
unfolding keep_b
returns-in-Leaves c = rw c.in-Leaves.is (cc)

pub returns-in_default : goal.returns-in_default
returns-in_default c = keeps-all c.args.words.now c.args.self c.args.x c.in_default.not-Leaves
