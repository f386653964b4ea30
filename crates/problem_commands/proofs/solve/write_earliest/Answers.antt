use Rattle.std.proofs.Common.{◌<◌, sym, ◌∙◌, ap, subst}
use Rattle.std.specs.Prelude.{All, length}
use Rattle.problem_model.specs.Executions.{at}
use Rattle.cert.specs.Listed.{listed_run}
use Rattle.problem.specs.Listing.{listing_of, listed_nodes}
use Rattle.earliest.specs.Values.{Values}
use Rattle.problem_commands.specs.Solve.{IsEarliestText}
use Rattle.problem_commands.proofs.solve.write_earliest.Goals as goal

pub write_run-requires-clause-solved : goal.write_run-requires-clause-solved
write_run-requires-clause-solved g c =
    ap (λ (e : Values). e.is_solved) c.earliest.ensures ∙ c.executions.ensures.solved c.args.solver.now (listing_of c.args.p.now) c.args.p.now c.requires.solution c.requires.solved

pub write_run-requires-clause-one_each : goal.write_run-requires-clause-one_each
write_run-requires-clause-one_each g c =
    let p = c.args.p.now in
    subst (λ (e : Values). All (λ k. k < length e.values) (listed_nodes (listing_of p))) (sym c.earliest.ensures)
    (c.executions.ensures.one_each (listing_of p) p c.readings.result.now c.args.solver.now c.readings.ensures c.requires.solution)

pub returns : goal.returns
returns g c =
    let p = c.args.p.now in
    let some = c.executions.ensures.written (listing_of p) p c.readings.result.now c.args.solver.now c.readings.ensures c.requires.solution c.requires.solved in (
      listed_run (listing_of p) (at c.earliest.result.now.values),
      subst (λ (e : Values). IsEarliestText p (listed_run (listing_of p) (at e.values))) (sym c.earliest.ensures)
          (some.0, c.readings.result.now, some.1, c.readings.ensures, some.2),
      c.write_run.ensures,
    )
