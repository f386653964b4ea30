use Rattle.session_graph.proofs.HostClocks.{GoesBack}
use Rattle.session_graph.proofs.follows.before.Given as goal

abbrev pub invariant-loop-clock : goal.invariant-loop-clock
invariant-loop-clock l = GoesBack l.roster.declaration l.solver.graph l.fn.place l.clock

abbrev pub decreases-loop-clock : goal.decreases-loop-clock
decreases-loop-clock l = l.clock
