use Rattle.roster.specs.Groups.{group_at}
use Rattle.session_graph.proofs.Seeking.{GoesDown, left_below}
use Rattle.session_graph.proofs.nearest.stamp_below.Given as goal

abbrev pub invariant-loop-last : goal.invariant-loop-last
invariant-loop-last l = GoesDown (group_at l.roster.readings l.place) l.solver.graph l.place l.fn.stamp l.last

abbrev pub decreases-loop-last : goal.decreases-loop-last
decreases-loop-last l = left_below l.last
