-- What reading an execution answers.
use Rattle.std.specs.Prelude.{◌≡◌, ℕ, ◌≤◌, ◌<◌, List, length, All, ℤ, Result, Ok, Err}
use Rattle.atto.specs.Number.{FitsUnits}
use Rattle.line_format.specs.Format.{Answers, most_text_bytes}
use Rattle.line_format.specs.Format.Answer.{Faulty}
use Rattle.line_format.specs.declared.fault.FaultKind.{FaultKind}
use Rattle.line_format.specs.declared.fault.FaultKind.TheVariants as kinds
use Rattle.line_format.specs.declared.fault.LineError.{LineError}
use Rattle.line_format.specs.declared.fault.LineError.TheVariants.{Memory, Fault}
use Rattle.problem_model.specs.Problem.{ProblemLists}
use Rattle.problem_model.specs.Nodes.{Reading, AreReadings, nodes_of}
use Rattle.problem_model.specs.ExecutionText.{execution_text}
use Rattle.cert.specs.ExecutionFormat.{execution_format}
use Rattle.cert.specs.declared.error.CertError.{CertError}
use Rattle.cert.specs.declared.error.CertError.TheVariants as errors

-- the fault of a line, as that of the text
abbrev pub line_fault_at : FaultKind → ℕ → CertError
line_fault_at kinds.Syntax line = errors.Syntax line
line_fault_at kinds.Name line = errors.Name line
line_fault_at kinds.Range line = errors.Range line
line_fault_at kinds.Limit line = errors.Limit line

-- an error of a line, as that of the text
abbrev pub error_at : LineError → ℕ → CertError
error_at Memory line = errors.Memory
error_at (Fault kind) line = line_fault_at kind line

module _ (p : ProblemLists) (readings : List Reading) where
  -- the text is that of these values: one for each node, each in range
  abbrev pub IsTextOf : List ℤ → List ℕ → Type 0
  IsTextOf values text = (length text ≤ most_text_bytes) × (length values ≡ length (nodes_of p readings)) × All FitsUnits values × (text ≡ execution_text p (nodes_of p readings) values)

  -- the values that the text spells, or its first fault
  abbrev pub ReadsOver : List ℕ → Result (List ℤ) CertError → Type 0
  ReadsOver text (Ok values) = IsTextOf values text
  ReadsOver text (Err (errors.Syntax line)) = Answers (execution_format p readings) text (Faulty kinds.Syntax line)
  ReadsOver text (Err (errors.Name line)) = Answers (execution_format p readings) text (Faulty kinds.Name line)
  ReadsOver text (Err (errors.Range line)) = Answers (execution_format p readings) text (Faulty kinds.Range line)
  ReadsOver text (Err (errors.Limit line)) = ⊥
  ReadsOver text (Err errors.Long) = most_text_bytes < length text
  ReadsOver text (Err errors.Memory) = Unit {0}

-- what `read_execution` answers for a text: as above, over the readings of p, of which there is one list
abbrev pub Reads : ProblemLists → List ℕ → Result (List ℤ) CertError → Type 0
Reads p text result = (readings : List Reading) → AreReadings p readings → ReadsOver p readings text result
