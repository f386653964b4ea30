use Rattle.std.proofs.Common.{List, sym, subst}
use Rattle.std.specs.Prelude.{ℤ}
use Rattle.sync_graph.specs.declared.arc.Arc.{Arc}
use Rattle.problem_solver.specs.declared.solution.GraphSolution.TheVariants.{Execution, Contradiction}
use Rattle.problem_solver.specs.GraphSolution.{IsGraphSolution}
use Rattle.widen.specs.Found.{IsRunAt, IsCycleFor}
use Rattle.widen.proofs.Solved.{values_small}
use Rattle.widen.proofs.Ground.{run_found, cycle_found}
use Rattle.widen.proofs.attempt.said_of_problem.Goals as goal

pub execution_of-requires-clause-solved : goal.execution_of-requires-clause-solved
execution_of-requires-clause-solved c =
    let found : IsGraphSolution c.args.g.now (Execution c.in-Execution.e) = subst (IsGraphSolution c.args.g.now) c.in-Execution.is c.requires.found in
    found.0

pub execution_of-requires-clause-small : goal.execution_of-requires-clause-small
execution_of-requires-clause-small c =
    let found : IsGraphSolution c.args.g.now (Execution c.in-Execution.e) = subst (IsGraphSolution c.args.g.now) c.in-Execution.is c.requires.found in
    values_small c.args.g.now c.exact.ensures c.in-Execution.e.values found.1

pub last_cycle-requires-clause-cycle : goal.last_cycle-requires-clause-cycle
last_cycle-requires-clause-cycle c =
    let found : IsGraphSolution c.args.g.now (Contradiction c.in-Contradiction.arcs) = subst (IsGraphSolution c.args.g.now) c.in-Contradiction.is c.requires.found in
    subst (λ (arcs : List Arc). IsCycleFor c.args.what c.args.p.now c.args.extra arcs) (sym c.deref.ensures.value)
    (cycle_found c.args.what c.args.p.now c.args.extra c.args.g.now c.events.ensures.lawful c.exact.ensures c.readings.result.now c.readings.ensures c.requires.graph c.in-Contradiction.arcs.items found.0)

pub returns-in_ok-execution-in-Execution : goal.returns-in_ok-execution-in-Execution
returns-in_ok-execution-in-Execution c =
    let found : IsGraphSolution c.args.g.now (Execution c.in-Execution.e) = subst (IsGraphSolution c.args.g.now) c.in-Execution.is c.requires.found in
    subst (λ (values : List ℤ). IsRunAt c.args.what c.args.p.now c.args.extra values) (sym c.in_ok-execution-in-Execution.ensures)
    (run_found c.args.what c.args.p.now c.args.extra c.args.g.now c.events.ensures.lawful c.exact.ensures c.readings.result.now c.readings.ensures c.requires.graph c.in-Execution.e.values found.1)
