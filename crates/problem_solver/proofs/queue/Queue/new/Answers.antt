use Rattle.std.proofs.Common.{◌≡◌, length, false, replicate, rules}
use Rattle.problem_solver.proofs.Counting.{all_left, starts}
use Rattle.problem_solver.proofs.queue.Queue.new.Goals as goal

pub returns-clause-left : goal.returns-clause-left
returns-clause-left c =
    let flags : c.in_ok-queued.queued.items ≡ replicate c.args.times false = search rules in
    rw (flags) (all_left c.args.times c.in_ok-ready.ready c.in_ok-ready.ensures.empty)

pub invariant_of-result : goal.invariant_of-result
invariant_of-result c =
    let flags : c.in_ok-queued.queued.items ≡ replicate c.args.times false = search rules in
    let room : length c.in_ok-ready.ready ≡ c.args.times = search rules in
    let counts : length c.in_ok-waiting.waiting.items ≡ c.args.times = search rules in
    rw (flags) (starts c.args.times c.in_ok-ready.ready c.in_ok-waiting.waiting.items c.in_ok-ready.ensures.empty room counts)
