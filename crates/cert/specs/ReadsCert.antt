-- What reading a certificate answers.
use Rattle.std.specs.Prelude.{◌≡◌, ℕ, ◌≤◌, ◌<◌, List, length, All, Result, Ok, Err}
use Rattle.atto.specs.Number.{FitsUnits}
use Rattle.line_format.specs.Format.{Answers, most_text_bytes}
use Rattle.line_format.specs.Format.Answer.{Faulty}
use Rattle.line_format.specs.declared.fault.FaultKind.TheVariants as kinds
use Rattle.problem_model.specs.Problem.{ProblemLists}
use Rattle.problem_model.specs.Nodes.{Reading, AreReadings, nodes_of}
use Rattle.problem_model.specs.Limits.{most_steps}
use Rattle.cert.specs.declared.chain.Step.{Step}
use Rattle.cert.specs.declared.certificate.EndProof.{EndProof}
use Rattle.cert.specs.declared.certificate.Cert.{Cert}
use Rattle.cert.specs.declared.certificate.Cert.TheVariants.{Cycle, Run, Ends}
use Rattle.cert.specs.declared.error.CertError.{CertError}
use Rattle.cert.specs.declared.error.CertError.TheVariants as errors
use Rattle.cert.specs.EndLists.{EndLists, Limited, Unlimited, end_lists}
use Rattle.cert.specs.CertificateFormat.{certificate_format}
use Rattle.cert.specs.CertificateText.{IsCertOf, certificate_text}

-- the weights are in range, and the steps not too many
abbrev pub FitsSteps : List Step → Type 0
FitsSteps steps = All (λ s. FitsUnits s.weight) steps × (length steps ≤ most_steps)

-- the limit and the real times are in range
abbrev pub FitsEndLists : EndLists → Type 0
FitsEndLists (Limited value path execution) = FitsUnits value × FitsSteps path × All FitsUnits execution
FitsEndLists (Unlimited inside execution) = All FitsUnits execution

abbrev pub FitsEndProof : EndProof → Type 0
FitsEndProof end = FitsEndLists (end_lists end)

-- all numbers are in range
abbrev pub FitsCert : Cert → Type 0
FitsCert (Cycle steps) = FitsSteps steps
FitsCert (Run execution) = All FitsUnits execution
FitsCert (Ends p q upper lower) = FitsEndProof upper × FitsEndProof lower

module _ (p : ProblemLists) (readings : List Reading) where
  -- the text is that of this certificate of the problem
  abbrev pub IsCertTextOf : Cert → List ℕ → Type 0
  IsCertTextOf c text = (length text ≤ most_text_bytes) × IsCertOf p c × FitsCert c × (text ≡ certificate_text p (nodes_of p readings) c)

  -- the certificate that the text spells, or its first fault
  abbrev pub ReadsCertOver : List ℕ → Result Cert CertError → Type 0
  ReadsCertOver text (Ok c) = IsCertTextOf c text
  ReadsCertOver text (Err (errors.Syntax line)) = Answers (certificate_format p readings) text (Faulty kinds.Syntax line)
  ReadsCertOver text (Err (errors.Name line)) = Answers (certificate_format p readings) text (Faulty kinds.Name line)
  ReadsCertOver text (Err (errors.Range line)) = Answers (certificate_format p readings) text (Faulty kinds.Range line)
  ReadsCertOver text (Err (errors.Limit line)) = Answers (certificate_format p readings) text (Faulty kinds.Limit line)
  ReadsCertOver text (Err errors.Long) = most_text_bytes < length text
  ReadsCertOver text (Err errors.Memory) = Unit {0}

-- what `read_cert` answers for a text: as above, over the readings of p, of which there is one list
abbrev pub ReadsCert : ProblemLists → List ℕ → Result Cert CertError → Type 0
ReadsCert p text result = (readings : List Reading) → AreReadings p readings → ReadsCertOver p readings text result
