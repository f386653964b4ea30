use Rattle.std.proofs.Common.{length}
use Rattle.problem.proofs.Answering.{StandsAt}
use Rattle.problem.proofs.read.read_lines.Given as goal

abbrev pub invariant-loop-body : goal.invariant-loop-body
invariant-loop-body l = StandsAt l.version l.lines l.rest l.items l.line

abbrev pub decreases-loop-body : goal.decreases-loop-body
decreases-loop-body l = length l.rest
