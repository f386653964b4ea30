use Rattle.std.proofs.Common.{◌-◌, length}
use Rattle.session_graph.proofs.HostClocks.{GoesOn}
use Rattle.session_graph.proofs.follows.after.Given as goal

abbrev pub invariant-loop-clock : goal.invariant-loop-clock
invariant-loop-clock l = GoesOn l.roster.declaration l.solver.graph l.fn.place l.clock

abbrev pub decreases-loop-clock : goal.decreases-loop-clock
decreases-loop-clock l = length l.roster.declaration.clocks - l.clock
