use Rattle.std.proofs.Common.{length, sym, ◌∙◌, ap, subst}
use Rattle.std.specs.Prelude.{◌+◌, ℤ, List, All}
use Rattle.problem_model.specs.Numbers.{IsUpTo}
use Rattle.problem_model.specs.Limits.{path_bits}
use Rattle.sync_graph.specs.Graph.{GraphLists}
use Rattle.earliest.specs.Values.{Values}
use Rattle.solver.proofs.Staying.{solved_now}
use Rattle.widen.specs.Found.{IsRunAt}
use Rattle.widen.proofs.Solved.{values_small}
use Rattle.widen.proofs.Ground.{holds_unwidened, run_found}
use Rattle.widen.proofs.attempt.run_held.Goals as goal

pub execution_of-requires-clause-solved : goal.execution_of-requires-clause-solved
execution_of-requires-clause-solved c =
    ap (λ (e : Values). e.is_solved) c.earliest.ensures ∙ (solved_now c.args.s.now c.requires.current c.requires.solved).solved

pub execution_of-requires-clause-one_each : goal.execution_of-requires-clause-one_each
execution_of-requires-clause-one_each c =
    ap (λ (e : Values). length e.values) c.earliest.ensures ∙ c.requires.current.set_up.one_each ∙ ap (λ (h : GraphLists). length h.nodes) (sym c.graph-g.ensures) ∙ sym c.nodes.ensures

pub execution_of-requires-clause-small : goal.execution_of-requires-clause-small
execution_of-requires-clause-small c =
    let s = c.args.s.now in
    subst (λ (e : Values). All (IsUpTo (path_bits + 2)) e.values) (sym c.earliest.ensures)
    (values_small s.graph c.requires.current.set_up.graph s.earliest.values (solved_now s c.requires.current c.requires.solved).earliest)

pub returns : goal.returns
returns c =
    let p = c.args.p.now in
    let s = c.args.s.now in
    subst (λ (values : List ℤ). IsRunAt c.args.what p 0 values) (sym c.in_ok-execution.ensures)
    (subst (λ (e : Values). IsRunAt c.args.what p 0 e.values) (sym c.earliest.ensures)
    (run_found c.args.what p 0 s.graph c.events.ensures.lawful c.requires.current.set_up.graph c.readings.result.now c.readings.ensures (holds_unwidened c.args.what p s.graph c.events.ensures.lawful c.requires.graph) s.earliest.values
    (solved_now s c.requires.current c.requires.solved).earliest))
