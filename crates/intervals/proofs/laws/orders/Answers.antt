use Rattle.intervals.proofs.Orders.{one_order}
use Rattle.intervals.proofs.NodeOrders.{orders, one_order_of}
use Rattle.intervals.proofs.laws.orders.Goals as goal

pub returns-clause-of_ends : goal.returns-clause-of_ends
returns-clause-of_ends c = one_order

pub returns-clause-of_nodes : goal.returns-clause-of_nodes
returns-clause-of_nodes c = orders

pub returns-clause-one : goal.returns-clause-one
returns-clause-one c = one_order_of
