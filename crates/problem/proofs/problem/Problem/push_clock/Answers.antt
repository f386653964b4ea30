use Rattle.problem.proofs.ReadingOrder.{readings_clock}
use Rattle.problem.proofs.problem.Problem.push_clock.Goals as goal

pub invariant_of-self-2 : goal.invariant_of-self-2
invariant_of-self-2 c = rw c.in_ok-add_clock.ensures.ok (readings_clock _ _ _ c.self.invariant)
