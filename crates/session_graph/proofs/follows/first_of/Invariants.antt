use Rattle.roster.specs.Groups.{group_at}
use Rattle.session_graph.proofs.Seeking.{left_above}
use Rattle.session_graph.proofs.HostClocks.{ComesUp}
use Rattle.session_graph.proofs.follows.first_of.Given as goal

abbrev pub invariant-loop-next : goal.invariant-loop-next
invariant-loop-next l = ComesUp (group_at l.roster.readings l.clock) l.solver.graph l.clock l.next

abbrev pub decreases-loop-next : goal.decreases-loop-next
decreases-loop-next l = left_above l.next
