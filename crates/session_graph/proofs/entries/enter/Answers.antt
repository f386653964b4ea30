use Rattle.session_graph.proofs.Extending.{few_none}
use Rattle.session_graph.proofs.entries.enter.Goals as goal

pub returns-then-has_entered-clause-steps : goal.returns-then-has_entered-clause-steps
returns-then-has_entered-clause-steps g c = few_none c.args.solver.now c.args.steps.now
