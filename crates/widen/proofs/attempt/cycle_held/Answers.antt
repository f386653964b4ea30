use Rattle.std.proofs.Common.{List, sym, subst}
use Rattle.sync_graph.specs.declared.arc.Arc.{Arc}
use Rattle.solver.proofs.Staying.{contradicted_now}
use Rattle.widen.specs.Found.{IsCycleFor}
use Rattle.widen.proofs.Ground.{holds_unwidened, cycle_found}
use Rattle.widen.proofs.attempt.cycle_held.Goals as goal

pub last_cycle-requires-clause-cycle : goal.last_cycle-requires-clause-cycle
last_cycle-requires-clause-cycle c =
    let p = c.args.p.now in
    let s = c.args.s.now in
    subst (λ (arcs : List Arc). IsCycleFor c.args.what p 0 arcs) (sym c.contradiction.ensures.value)
    (cycle_found c.args.what p 0 s.graph c.events.ensures.lawful c.requires.current.set_up.graph c.readings.result.now c.readings.ensures (holds_unwidened c.args.what p s.graph c.events.ensures.lawful c.requires.graph) s.contradiction
    (contradicted_now s c.requires.current c.requires.held).cycle)
