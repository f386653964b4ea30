-- What reading and checking a certificate's text at once answers.
use Rattle.std.specs.Prelude.{◌≡◌, ℕ, List, Result, Ok, Err}
use Rattle.problem_model.specs.Problem.{ProblemLists}
use Rattle.cert.specs.declared.certificate.Cert.{Cert}
use Rattle.cert.specs.declared.error.CertError.{CertError}
use Rattle.cert.specs.ReadsCert.{ReadsCert}
use Rattle.cert.specs.Shows.{Shows}
use Rattle.cert_check.specs.Reasons.{IsAnswer}
use Rattle.cert_check.specs.declared.answer.Answer.{Answer}
use Rattle.cert_check.specs.declared.answer.Answer.TheVariants.{Yes}

-- this is what checking the certificate answers: yes where it shows what it should, and there alone
pub record IsCheckOf (p : ProblemLists) (c : Cert) (answer : Answer) : Type 0 where
  pub is_answer : IsAnswer p c answer
  pub exact : Shows p c → answer ≡ Yes

-- what checking the certificate answers that the text spells, or why the text spells none
abbrev pub ChecksText : ProblemLists → List ℕ → Result Answer CertError → Type 0
ChecksText p text (Ok answer) = (c : Cert) × ReadsCert p text (Ok c) × IsCheckOf p c answer
ChecksText p text (Err e) = ReadsCert p text (Err e)
