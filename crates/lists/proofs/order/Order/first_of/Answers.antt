-- The contract of `lists::order::Order::first_of`.
use Rattle.lists.specs.Orders.{first_of}
use Rattle.lists.specs.OrderLinks.{first-itself}
use Rattle.lists.proofs.order.Order.first_of.Goals as goal

pub returns-in-Children : goal.returns-in-Children
unfolding first_of
returns-in-Children c = rw c.in-Children.is c.link_of.ensures

pub returns-in_default : goal.returns-in_default
returns-in_default c = first-itself c.args.words.now c.args.self c.args.x c.in_default.not-Children
