-- What a text that is written is read as.
use Rattle.std.specs.Prelude.{◌≡◌, ℕ, List, Result, Ok, Err}
use Rattle.problem_model.specs.Problem.{ProblemLists}
use Rattle.problem_model.specs.Nodes.{Reading}
use Rattle.cert.specs.declared.certificate.Cert.{Cert}
use Rattle.cert.specs.declared.error.CertError.{CertError}
use Rattle.cert.specs.declared.error.CertError.TheVariants.{Memory}
use Rattle.cert.specs.CertificateFormat.{Said, said}
use Rattle.cert.specs.ReadsCert.{ReadsCertOver}
use Rattle.cert.specs.Shows.{Shows}

-- a certificate that says this, or a refusal for want of memory
abbrev pub SaysOrMemory : Said → Result Cert CertError → Type 0
SaysOrMemory state (Ok d) = said d ≡ state
SaysOrMemory state (Err e) = e ≡ Memory

-- whatever reading the text answers is a certificate that says this, or it is refused for want of memory
abbrev pub IsReadAsCert : ProblemLists → List Reading → List ℕ → Said → Type 0
IsReadAsCert p readings text state = (result : Result Cert CertError) → ReadsCertOver p readings text result → SaysOrMemory state result

-- a certificate that shows what it should, or a refusal for want of memory
abbrev pub ShowsOrMemory : ProblemLists → Result Cert CertError → Type 0
ShowsOrMemory p (Ok d) = Shows p d
ShowsOrMemory p (Err e) = e ≡ Memory

-- whatever reading the text answers is a certificate that shows what it should, or it is refused for want of memory
abbrev pub IsAccepted : ProblemLists → List Reading → List ℕ → Type 0
IsAccepted p readings text = (result : Result Cert CertError) → ReadsCertOver p readings text result → ShowsOrMemory p result
