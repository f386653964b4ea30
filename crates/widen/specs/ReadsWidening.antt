-- What reading a widening answers.
use Rattle.std.specs.Prelude.{◌≡◌, ℕ, ◌<◌, ◌≤◌, ◌^◌, List, length, All, Option, Some, None, Result, Ok, Err}
use Rattle.atto.specs.Number.{FitsUnits}
use Rattle.line_format.specs.Format.{Answers, most_text_bytes}
use Rattle.line_format.specs.Format.Answer.{Faulty}
use Rattle.line_format.specs.declared.fault.FaultKind.TheVariants as kinds
use Rattle.problem_model.specs.Problem.{ProblemLists}
use Rattle.problem_model.specs.Nodes.{Reading, AreReadings, nodes_of}
use Rattle.cert.specs.declared.chain.Step.{Step}
use Rattle.cert.specs.declared.error.CertError.{CertError}
use Rattle.cert.specs.declared.error.CertError.TheVariants as errors
use Rattle.cert.specs.ReadsCert.{FitsSteps}
use Rattle.cert_check.specs.declared.what.What.{What}
use Rattle.widen.specs.declared.widening.Widening.{Widening}
use Rattle.widen.specs.declared.widening.StatedWidening.{StatedWidening}
use Rattle.widen.specs.declared.widening.Widening.TheVariants.{Least, Never}
use Rattle.widen.specs.Widening.{IsWideningOf}
use Rattle.widen.specs.Named.{NamesWhat}
use Rattle.widen.specs.WideningText.{widening_text}
use Rattle.widen.specs.WideningFormat.{widening_format}

-- the steps of a cycle, where there is one, are in range and not too many
abbrev pub FitsCycle : Option (List Step) → Type 0
FitsCycle None = Unit {0}
FitsCycle (Some cycle) = FitsSteps cycle

-- all numbers are in range
abbrev pub FitsWidening : Widening → Type 0
FitsWidening (Least extra execution cycle) = (extra < 2 ^ 62) × All FitsUnits execution × FitsCycle cycle
FitsWidening (Never cycle) = FitsSteps cycle

module _ (p : ProblemLists) (readings : List Reading) where
  -- the text is that of this widening of the problem, of what is named
  abbrev pub IsWideningTextOf : What → Widening → List ℕ → Type 0
  IsWideningTextOf what w text = (length text ≤ most_text_bytes) × IsWideningOf p w × FitsWidening w × (text ≡ widening_text p (nodes_of p readings) what w) × NamesWhat p what

  -- why the text is that of no widening: its first fault
  abbrev pub RefusesText : List ℕ → CertError → Type 0
  RefusesText text (errors.Syntax line) = Answers (widening_format p readings) text (Faulty kinds.Syntax line)
  RefusesText text (errors.Name line) = Answers (widening_format p readings) text (Faulty kinds.Name line)
  RefusesText text (errors.Range line) = Answers (widening_format p readings) text (Faulty kinds.Range line)
  RefusesText text (errors.Limit line) = Answers (widening_format p readings) text (Faulty kinds.Limit line)
  RefusesText text errors.Long = most_text_bytes < length text
  RefusesText text errors.Memory = Unit {0}

  -- the widening of this that the text spells, or why it spells none
  abbrev pub ReadsWideningOf : What → List ℕ → Result Widening CertError → Type 0
  ReadsWideningOf what text (Ok w) = IsWideningTextOf what w text
  ReadsWideningOf what text (Err e) = RefusesText text e

  -- the widening that the text spells, and of what, or why it spells none
  abbrev pub ReadsWideningOver : List ℕ → Result StatedWidening CertError → Type 0
  ReadsWideningOver text (Ok s) = IsWideningTextOf s.what s.widening text
  ReadsWideningOver text (Err e) = RefusesText text e

-- what reading a text answers: as above, over the readings of p, of which there is one list
abbrev pub ReadsWidening : ProblemLists → List ℕ → Result StatedWidening CertError → Type 0
ReadsWidening p text result = (readings : List Reading) → AreReadings p readings → ReadsWideningOver p readings text result
