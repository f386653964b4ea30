use Rattle.std.proofs.Common.{sym, subst}
use Rattle.sync_graph.specs.Graph.{GraphLists}
use Rattle.problem_graph.specs.Standing.{HasNode}
use Rattle.problem_graph.proofs.OneMore.{is_there}
use Rattle.session_graph.proofs.pushes.number_of.Goals as goal

pub unwrap-requires : goal.unwrap-requires
unwrap-requires c = is_there c.graph.result.now c.args.n c.node_of.result (subst (λ (g : GraphLists). HasNode g c.args.n) (sym c.graph.ensures) c.requires) c.node_of.ensures.none
