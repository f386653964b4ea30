use Rattle.session_graph.proofs.Bringing.{brings_one}
use Rattle.session_graph.proofs.Extending.{few_by_arc}
use Rattle.session_graph.proofs.pushes.push_arc.Goals as goal

pub returns-clause-brings : goal.returns-clause-brings
returns-clause-brings g c =
    brings_one c.args.solver.now c.push_arc.new.self c.args.a c.requires.current c.in_ok-push_arc.ensures.graph c.in_ok-push_arc.ensures.slots.current c.in_ok-push_arc.ensures.slots

pub returns-clause-steps : goal.returns-clause-steps
returns-clause-steps g c =
    few_by_arc c.args.solver.now c.push_arc.new.self c.args.a c.args.steps.now c.push_arc.new.steps c.in_ok-push_arc.ensures.graph c.in_ok-push_arc.ensures.slots
    c.in_ok-push_arc.ensures.slots.current c.in_ok-push_arc.ensures.steps
