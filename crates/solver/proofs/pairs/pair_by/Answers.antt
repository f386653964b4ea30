use Rattle.solver.proofs.Telling.{pair_told, reach_up, reach_down}
use Rattle.solver.proofs.pairs.pair_by.Goals as goal

pub returns-clause-pair : goal.returns-clause-pair
returns-clause-pair g c =
    pair_told c.args.search.now.graph c.args.p c.args.q c.find_reach-up.result c.find_reach-down.result c.requires.q
    (reach_up c.args.search.now c.requires.outward _ _ _ c.find_reach-up.ensures.reach)
    (reach_down c.args.search.now c.requires.outward c.turned-back.result c.turned-back.ensures _ _ _ c.find_reach-down.ensures.reach)
