-- What `solve` prints and answers.
use Rattle.std.specs.Prelude.{◌≡◌, ◌⊎◌, ℕ, List, map}
use Rattle.ports.specs.Files.{FilesTold}
use Rattle.problem_model.specs.Problem.{ProblemLists}
use Rattle.problem_model.specs.Bounds.{Times}
use Rattle.problem_model.specs.Nodes.{Reading, AreReadings, nodes_of}
use Rattle.problem_model.specs.Solutions.{IsEarliestExecution}
use Rattle.cert.specs.declared.certificate.Cert.TheVariants.{Run}
use Rattle.cert.specs.CertificateText.{certificate_text}
use Rattle.queries.specs.Replies.{IsContradictionText}
use Rattle.problem_commands.specs.ForProblem.{ForProblem}
use Rattle.problem_commands.specs.declared.status.Status.{Status}
use Rattle.problem_commands.specs.declared.status.Status.TheVariants.{Done}

-- the text is the certificate of the earliest execution
abbrev pub IsEarliestText : ProblemLists → List ℕ → Type 0
IsEarliestText p text = (x : Times) × (readings : List Reading) × IsEarliestExecution p x × AreReadings p readings
    × (text ≡ certificate_text p (nodes_of p readings) (Run (map x (nodes_of p readings))))

-- the earliest execution where there is one, else a contradiction
abbrev pub IsSolutionText : ProblemLists → List ℕ → Type 0
IsSolutionText p text = IsEarliestText p text ⊎ IsContradictionText p text

-- what is printed of a problem
abbrev pub TellsSolution : ProblemLists → Status → List ℕ → Type 0
TellsSolution p status text = (status ≡ Done) × IsSolutionText p text

-- what `solve` prints, with which status, and when
abbrev pub Solved : List ℕ → FilesTold → FilesTold → Status → List ℕ → Type 0
Solved = ForProblem TellsSolution
