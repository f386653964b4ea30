use Rattle.std.proofs.Common.{sym, ◌∙◌, ap}
use Rattle.problem.specs.Listing.{all_readings}
use Rattle.earliest.specs.Values.{Values}
use Rattle.problem.proofs.OwnReadings.{own_readings}
use Rattle.queries.proofs.Consistency.{consistent_by}
use Rattle.queries.proofs.consistent.is_consistent.Goals as goal

pub returns : goal.returns
returns c = λ l p solution.
    let s = c.args.solver.now in
    let rs = all_readings p.events in
    let are = own_readings p in
    consistent_by l p s solution c.solved.result (sym (c.solved.ensures ∙ ap (λ (e : Values). e.is_solved) c.earliest.ensures))
    (λ none. let some = c.executions.ensures.earliest l p rs s are solution none in (some.0, some.2.execution))
    (c.executions.ensures.solved s l p solution)
    (c.contradictions.ensures.held l p rs s are solution)
