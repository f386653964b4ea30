-- The faults of lines and of texts by the causes below them.
use Rattle.std.specs.Prelude.{ℕ}
use Rattle.line_format.specs.declared.fault.FaultKind.{FaultKind}
use Rattle.line_format.specs.declared.fault.FaultKind.TheVariants as kinds
use Rattle.line_format.specs.declared.fault.LineError.{LineError}
use Rattle.line_format.specs.declared.fault.LineError.TheVariants.{Memory, Fault}
use Rattle.problem.specs.declared.errors.PushError.{PushError}
use Rattle.problem.specs.declared.errors.PushError.TheVariants as pushes
use Rattle.problem.specs.declared.errors.ProblemError.{ProblemError}
use Rattle.problem.specs.declared.errors.ProblemError.TheVariants as problems

-- the error of a push as that of its line: why a line is refused whose item was not added
abbrev pub line_error : PushError → LineError
line_error pushes.Name = Fault kinds.Name
line_error pushes.Limit = Fault kinds.Limit
line_error pushes.Memory = Memory

-- a fault of this kind at a line
abbrev pub fault_of_kind : FaultKind → ℕ → ProblemError
fault_of_kind kinds.Syntax n = problems.Syntax n
fault_of_kind kinds.Name n = problems.Name n
fault_of_kind kinds.Range n = problems.Range n
fault_of_kind kinds.Limit n = problems.Limit n

-- the error of a line as that of its text: why a text is refused whose line n is
abbrev pub text_fault : LineError → ℕ → ProblemError
text_fault Memory n = problems.Memory
text_fault (Fault kind) n = fault_of_kind kind n
