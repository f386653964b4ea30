use Rattle.std.proofs.Common.{inr, sym, ◌∙◌}
use Rattle.queries.proofs.Hands.{some_held, nothing_held}
use Rattle.queries.proofs.time.write_time.Goals as goal

pub write_answer-requires : goal.write_answer-requires
write_answer-requires g c = record {
  problem = c.requires.solution.0;
  solution = c.requires.solution.1;
  none = nothing_held c.args.solver.now c.contradiction-cycle.result.now c.contradiction-cycle.ensures.value (sym c.is_empty.ensures ∙ c.if-is_empty.true);
  clock = c.requires.source.0;
  source = c.requires.source.1;
  place = c.requires.event.0;
  at = c.requires.event.1;
}

pub returns-else-is_empty : goal.returns-else-is_empty
returns-else-is_empty g c = λ p clock place solution keeps source at.
    let text = c.write_contradiction.ensures p (c.args.solver.now, solution, some_held c.args.solver.now c.contradiction-cycle.result.now c.contradiction-cycle.ensures.value (sym c.is_empty.ensures ∙ c.if-is_empty.false), sym c.contradiction-cycle.ensures.value) in
    (text.0, inr text.1, text.2)
