use Rattle.problem_solver.proofs.Bringing.{adds_one}
use Rattle.problem_solver.proofs.pushes.push_arc.Goals as goal

pub returns-clause-added : goal.returns-clause-added
returns-clause-added g c = λ p bound.
    adds_one p c.args.a c.args.s.now c.push_arc.new.self bound c.in_ok-push_arc.ensures.graph c.in_ok-push_arc.ensures.slots.current c.in_ok-push_arc.ensures.slots
