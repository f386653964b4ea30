-- What reading and judging a widening's text at once answers.
use Rattle.std.specs.Prelude.{◌≡◌, ◌↔◌, ℕ, List, Result, Ok, Err}
use Rattle.problem_model.specs.Problem.{ProblemLists}
use Rattle.cert.specs.declared.error.CertError.{CertError}
use Rattle.cert_check.specs.declared.answer.Answer.{Answer}
use Rattle.cert_check.specs.declared.answer.Answer.TheVariants.{Yes}
use Rattle.cert_check.specs.declared.what.What.{What}
use Rattle.widen.specs.declared.widening.Widening.{Widening}
use Rattle.widen.specs.declared.widening.StatedWidening.{StatedWidening}
use Rattle.widen.specs.Widening.{ShowsWidening, IsJudged}
use Rattle.widen.specs.ReadsWidening.{ReadsWidening}

-- this is what judging the widening answers: yes exactly where it shows what it should
pub record IsJudgedAs (what : What) (p : ProblemLists) (w : Widening) (answer : Answer) : Type 0 where
  pub judged : IsJudged what p w answer
  pub exact : ShowsWidening what p w ↔ (answer ≡ Yes)

-- what judging the widening answers that the text spells, of what it names, or why the text spells none
abbrev pub JudgesText : ProblemLists → List ℕ → Result Answer CertError → Type 0
JudgesText p text (Ok answer) = (s : StatedWidening) × ReadsWidening p text (Ok s) × IsJudgedAs s.what p s.widening answer
JudgesText p text (Err e) = ReadsWidening p text (Err e)
