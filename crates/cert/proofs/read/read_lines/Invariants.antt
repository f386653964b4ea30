use Rattle.std.proofs.Common.{◌++◌, ◌+◌, length}
use Rattle.line_format.specs.Words.{line_of}
use Rattle.line_format.proofs.Reading.{Stands}
use Rattle.problem_model.specs.ExecutionText.{execution_head}
use Rattle.cert.specs.ExecutionFormat.{execution_format}
use Rattle.cert.proofs.Forms.{line_lacks}
use Rattle.cert.proofs.read.read_lines.Given as goal

abbrev pub invariant-loop-body : goal.invariant-loop-body
invariant-loop-body l = Stands (execution_format l.nodes.problem l.nodes.readings) line_lacks (line_of execution_head ++ l.lines) l.rest l.values (length l.values + 2)

abbrev pub decreases-loop-body : goal.decreases-loop-body
decreases-loop-body l = length l.rest
