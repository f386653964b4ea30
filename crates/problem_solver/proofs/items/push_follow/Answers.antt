use Rattle.problem_solver.proofs.ItemSteps.{follow_none, follow_pushed}
use Rattle.problem_solver.specs.Items.{items_of}
use Rattle.problem_solver.proofs.items.push_follow.Goals as goal

pub returns-in_ok-push-in-Some : goal.returns-in_ok-push-in-Some
returns-in_ok-push-in-Some c = λ spans are.
    follow_pushed c.args.p.now c.args.readings.now spans c.args.place 0 0 c.args.items.now.items c.push.new.self.items _ are c.in_ok-push-in-Some.ensures.items c.requires.inside

pub returns-in-None : goal.returns-in-None
returns-in-None c = λ spans are.
    follow_none c.args.p.now c.args.readings.now spans c.args.place 0 0 (items_of c.args.items.now.items) are (c.in-None.ensures.bound c.args.readings.now c.requires.readings)
