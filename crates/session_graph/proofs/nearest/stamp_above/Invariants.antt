use Rattle.roster.specs.Groups.{group_at}
use Rattle.session_graph.proofs.Seeking.{GoesUp, left_above}
use Rattle.session_graph.proofs.nearest.stamp_above.Given as goal

abbrev pub invariant-loop-next : goal.invariant-loop-next
invariant-loop-next l = GoesUp (group_at l.roster.readings l.place) l.solver.graph l.place l.fn.stamp l.next

abbrev pub decreases-loop-next : goal.decreases-loop-next
decreases-loop-next l = left_above l.next
