use Rattle.std.proofs.Common.{◌≤◌}
use Rattle.problem.specs.Inside.{link_at}
use Rattle.problem.proofs.Renumbering.{IsUnderWay}
use Rattle.problem.proofs.chains.renumber_back.Given as goal

abbrev pub invariant-loop-follow : goal.invariant-loop-follow
invariant-loop-follow l = IsUnderWay l.fn.links l.links (link_at l.fn.links l.last).number l.number l.clock (λ k. k ≤ l.clock)

abbrev pub decreases-loop-follow : goal.decreases-loop-follow
decreases-loop-follow l = l.clock
