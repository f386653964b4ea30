use Rattle.problem.proofs.ReadingOrder.{readings_message}
use Rattle.problem.proofs.problem.Problem.push_message.Goals as goal

pub invariant_of-self-2 : goal.invariant_of-self-2
invariant_of-self-2 c = rw c.in_ok-add_message.ensures.ok (readings_message _ _ _ c.self.invariant)
