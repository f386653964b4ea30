-- What the texts in the files that the words name say.
use Rattle.std.specs.Prelude.{◌≡◌, ◌⊎◌, ◌≤◌, length, map, ℕ, ℤ, List, Some, None, All, codes}
use Rattle.atto.specs.Number.{FitsUnits}
use Rattle.ports.specs.Content.{Rose}
use Rattle.ports.specs.Files.{Content, FilesTold, HasBytes, IsAbsent, RaisesNoFault, Keeps}
use Rattle.line_format.specs.Format.{Answers, most_text_bytes}
use Rattle.problem_model.specs.Problem.{ProblemLists, IsProblem}
use Rattle.problem_model.specs.Bounds.{Times}
use Rattle.problem_model.specs.Nodes.{Reading, AreReadings, nodes_of}
use Rattle.problem_model.specs.ProblemText.{problem_text}
use Rattle.problem_model.specs.ExecutionText.{execution_text}
use Rattle.problem.specs.Reading.{AnswersProblem}
use Rattle.cert.specs.declared.certificate.Cert.{Cert}
use Rattle.cert.specs.CertificateFormat.{certificate_format}
use Rattle.cert.specs.ExecutionFormat.{execution_format}
use Rattle.cert.specs.ReadsCert.{IsCertTextOf}
use Rattle.problem_commands.specs.Refusal.{refused_answer, refused_text_line}
use Rattle.problem_commands.specs.declared.refusal.Refusal.{Refusal}

-- ---- texts
-- the text is that of the problem p
abbrev pub SpellsProblem : ProblemLists → List ℕ → Type 0
SpellsProblem p text = (length text ≤ most_text_bytes) × IsProblem p × (text ≡ problem_text p)

-- the text is that of the real times x of the nodes of p
pub record SpellsExecution (p : ProblemLists) (x : Times) (text : List ℕ) : Type 0 where
  pub short : length text ≤ most_text_bytes
  pub readings : List Reading
  pub values : List ℤ
  pub are_readings : AreReadings p readings
  pub fit : All FitsUnits values
  pub values_are : values ≡ map x (nodes_of p readings)
  pub is : text ≡ execution_text p (nodes_of p readings) values

-- the text is that of this certificate of the problem
abbrev pub SpellsCert : ProblemLists → Cert → List ℕ → Type 0
SpellsCert p c text = (readings : List Reading) × AreReadings p readings × IsCertTextOf p readings c text

-- the text is no problem text, for this cause
abbrev pub RefusesProblem : List ℕ → Refusal → Type 0
RefusesProblem text refusal = AnswersProblem text (refused_answer refusal)

-- the text is no execution text of p, for this cause
abbrev pub RefusesExecution : ProblemLists → List ℕ → Refusal → Type 0
RefusesExecution p text refusal = (readings : List Reading) × AreReadings p readings × Answers (execution_format p readings) text (refused_answer refusal)

-- the text is no certificate text of p, for this cause
abbrev pub RefusesCert : ProblemLists → List ℕ → Refusal → Type 0
RefusesCert p text refusal = (readings : List Reading) × AreReadings p readings × Answers (certificate_format p readings) text (refused_answer refusal)

-- ---- one file
-- the file at the path was not read: a read failed, or it is not there, which is no fault where the files tell it
pub record IsMissed (path : List ℕ) (old new : FilesTold) : Type 0 where
  pub cause : Rose old.faults new.faults ⊎ (Rose old.absences new.absences × IsAbsent old.content path)
  pub no_fault : RaisesNoFault path old new

-- the file at the path is no problem text, and the line says why
abbrev pub IsBadProblem : List ℕ → Content → List ℕ → Type 0
IsBadProblem path files line = (refusal : Refusal) × HasBytes files path (λ text. RefusesProblem text refusal) × (line ≡ refused_text_line (codes "problem") refusal)

-- ---- two files, the second of which is read behind the first
-- both are there, where the files tell it, with these bytes
abbrev pub BothHave : Content → List ℕ → List ℕ → (List ℕ → List ℕ → Type 0) → Type 0
BothHave None problem other P = Unit {0}
BothHave (Some files) problem other P = (text : List ℕ) × (more : List ℕ) × (files problem ≡ Some text) × (files other ≡ Some more) × P text more

-- the first was not read; or it has the text of a problem, and then the second was not read
abbrev pub MissesOne : List ℕ → List ℕ → FilesTold → FilesTold → Type 0
MissesOne problem other old new = IsMissed problem old new
    ⊎ ((p : ProblemLists) × HasBytes old.content problem (SpellsProblem p) × ((mid : FilesTold) × Keeps old mid × IsMissed other mid new))
