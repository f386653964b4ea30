use Rattle.problem.proofs.ReadingOrder.{readings_follow}
use Rattle.problem.proofs.problem.Problem.push_follow.Goals as goal

pub invariant_of-self-2 : goal.invariant_of-self-2
invariant_of-self-2 c = rw c.in_ok-add_follow.ensures.ok (readings_follow _ _ _ c.self.invariant)
