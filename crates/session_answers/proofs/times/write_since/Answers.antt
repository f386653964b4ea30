use Rattle.std.proofs.Common.{inr, sym, ◌∙◌}
use Rattle.solver.proofs.Staying.{leaves_all}
use Rattle.queries.proofs.Hands.{some_held, nothing_held}
use Rattle.session_answers.proofs.times.write_since.Goals as goal

pub write_from-requires-clause-asked : goal.write_from-requires-clause-asked
write_from-requires-clause-asked g c = record {
  problem = c.requires.solution.0;
  solution = c.requires.solution.1;
  none = nothing_held c.args.solver.now c.contradiction-cycle.result.now c.contradiction-cycle.ensures.value (sym c.is_empty.ensures ∙ c.if-is_empty.true);
  place = c.requires.event.0;
  at = c.requires.event.1;
}

pub returns-else-is_empty-clause-writes : goal.returns-else-is_empty-clause-writes
returns-else-is_empty-clause-writes g c = λ p start solution at.
    let text = c.write_contradiction.ensures p (c.args.solver.now, solution, some_held c.args.solver.now c.contradiction-cycle.result.now c.contradiction-cycle.ensures.value (sym c.is_empty.ensures ∙ c.if-is_empty.false), sym c.contradiction-cycle.ensures.value) in
    (text.0, inr text.1, text.2)

pub returns-else-is_empty-clause-leaves : goal.returns-else-is_empty-clause-leaves
returns-else-is_empty-clause-leaves g c = leaves_all c.args.solver.now c.requires.solution.1.current
