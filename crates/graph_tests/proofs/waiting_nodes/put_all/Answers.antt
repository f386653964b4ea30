use Rattle.std.proofs.Common.{rules, pos}
use Rattle.graph_tests.proofs.waiting_nodes.put_all.Goals as goal

pub lower-requires : goal.lower-requires
lower-requires c = (pos 7, search rules, search rules)
