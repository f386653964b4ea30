use Rattle.sync_graph.proofs.Degrees.{departing_all, reaching_all}
use Rattle.sync_graph.proofs.graph.Graph.degrees.Goals as goal

pub returns-clause-leaving : goal.returns-clause-leaving
returns-clause-leaving c = departing_all c.args.self.now c.exact.ensures

pub returns-clause-arriving : goal.returns-clause-arriving
returns-clause-arriving c = reaching_all c.args.self.now c.exact.ensures
