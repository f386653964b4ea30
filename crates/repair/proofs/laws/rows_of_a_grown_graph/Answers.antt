use Rattle.repair.proofs.Growing.{rows_with_node, rows_with_arc}
use Rattle.repair.proofs.laws.rows_of_a_grown_graph.Goals as goal

pub returns-clause-node : goal.returns-clause-node
returns-clause-node c = rows_with_node

pub returns-clause-arc : goal.returns-clause-arc
returns-clause-arc c = rows_with_arc
