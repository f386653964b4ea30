use Rattle.roster.specs.Groups.{group_at}
use Rattle.session_graph.proofs.Seeking.{left_below}
use Rattle.session_graph.proofs.HostClocks.{ComesDown}
use Rattle.session_graph.proofs.follows.last_of.Given as goal

abbrev pub invariant-loop-last : goal.invariant-loop-last
invariant-loop-last l = ComesDown (group_at l.roster.readings l.clock) l.solver.graph l.clock l.last

abbrev pub decreases-loop-last : goal.decreases-loop-last
decreases-loop-last l = left_below l.last
