use Rattle.solver.proofs.Telling.{pair_told}
use Rattle.solver.proofs.pairs.pair_near.Goals as goal

pub returns-clause-pair : goal.returns-clause-pair
returns-clause-pair g c = pair_told c.args.around.now.graph.now c.args.p c.args.q c.in_ok-onward.onward c.in_ok-back.back c.requires.q c.in_ok-onward.ensures.reach c.in_ok-back.ensures.reach
