use Rattle.distances.proofs.Stopping.{near_in}
use Rattle.distances.proofs.near.find_within.Goals as goal

pub returns-clause-reach : goal.returns-clause-reach
returns-clause-reach g c = near_in c.args.around.now.graph.now c.exact.ensures c.args.p c.args.q c.requires.p c.requires.q c.find_fenced-found.result c.find_fenced-found.ensures.reach
