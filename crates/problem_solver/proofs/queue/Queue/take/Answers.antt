use Rattle.problem_solver.proofs.Counting.{left_less}
use Rattle.problem_solver.proofs.queue.Queue.take.Goals as goal

pub returns-clause-left : goal.returns-clause-left
returns-clause-left g c =
    let i = c.self.inside in
    rw (← c.self.view_is, c.in_ok-event.ensures.taken)
    (left_less i.times i.ready i.queued.items i.waiting.items c.self.invariant c.in_ok-event.event c.in_ok-event.field-0-1 c.in_ok-event.ensures.least.waits)
