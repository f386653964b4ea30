use Rattle.std.proofs.Common.{◌-◌, ◌≤◌, length}
use Rattle.problem.specs.Inside.{link_at}
use Rattle.problem.proofs.Renumbering.{IsUnderWay}
use Rattle.problem.proofs.chains.renumber_onward.Given as goal

abbrev pub invariant-loop-follow : goal.invariant-loop-follow
invariant-loop-follow l = IsUnderWay l.fn.links l.links (link_at l.fn.links l.first).number l.number l.clock (λ k. l.clock ≤ k)

abbrev pub decreases-loop-follow : goal.decreases-loop-follow
decreases-loop-follow l = length l.links - l.clock
