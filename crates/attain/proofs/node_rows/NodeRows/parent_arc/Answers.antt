use Rattle.attain.proofs.RowFacts.{known_node}
use Rattle.attain.proofs.node_rows.NodeRows.parent_arc.Goals as goal

pub cell-requires : goal.cell-requires
cell-requires c = known_node c.args.side c.args.self.now c.exact.ensures c.args.node c.requires.known
