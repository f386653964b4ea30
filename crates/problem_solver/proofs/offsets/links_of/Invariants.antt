use Rattle.std.proofs.Common.{length}
use Rattle.problem_solver.specs.Offsets.{LeadToClocks}
use Rattle.problem_solver.proofs.offsets.links_of.Given as goal

abbrev pub invariant-loop-message : goal.invariant-loop-message
invariant-loop-message l = LeadToClocks (length l.p.clocks) l.links.items
