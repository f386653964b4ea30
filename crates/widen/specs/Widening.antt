-- What a widening shows of a problem, and what judging it answers.
use Rattle.std.specs.Prelude.{◌≡◌, ◌≢◌, ℕ, ◌<◌, ◌-◌, ◌⊎◌, List, Option, Some, None, All}
use Rattle.problem_model.specs.Problem.{ProblemLists}
use Rattle.problem_model.specs.Solutions.{IsContradictionOf}
use Rattle.cert.specs.declared.chain.Step.{Step}
use Rattle.cert.specs.declared.certificate.Cert.TheVariants as certs
use Rattle.cert.specs.CertificateText.{IsStepOf, HasOneEach}
use Rattle.cert.specs.Shows.{weighed_bounds, IsExecutionOf}
use Rattle.cert_check.specs.declared.answer.Answer.{Answer}
use Rattle.cert_check.specs.declared.answer.Answer.TheVariants.{Yes}
use Rattle.cert_check.specs.Reasons.{IsAnswer}
use Rattle.cert_check.specs.declared.what.What.{What}
use Rattle.cert_check.specs.Widened.{widened}
use Rattle.widen.specs.declared.widening.Widening.{Widening}
use Rattle.widen.specs.declared.widening.Widening.TheVariants.{Least, Never}
use Rattle.widen.specs.Least.{most_extra}

-- ---- widenings of a problem
-- there is a cycle, of bounds of the problem with whatever weights, exactly where the widening is above 0
abbrev pub HasCycle : ProblemLists → ℕ → Option (List Step) → Type 0
HasCycle p extra None = extra ≡ 0
HasCycle p extra (Some cycle) = (0 < extra) × All (IsStepOf p) cycle

-- there is one value per node, and bounds are those of the problem
abbrev pub IsWideningOf : ProblemLists → Widening → Type 0
IsWideningOf p (Least extra execution cycle) = HasOneEach p execution × HasCycle p extra cycle
IsWideningOf p (Never cycle) = All (IsStepOf p) cycle

-- ---- what a widening shows
-- a cycle is a contradiction of the problem that is widened by 1 less, with the weights that it has there
abbrev pub ShowsBelow : What → ProblemLists → ℕ → Option (List Step) → Type 0
ShowsBelow what p extra None = Unit {0}
ShowsBelow what p extra (Some cycle) = IsContradictionOf (widened what p (extra - 1)) (weighed_bounds cycle)

-- the execution is one of the widened what problem, and the cycle shows that less does not heal; or that nothing does: it is
-- a contradiction where the problem is widened as far as can be
abbrev pub ShowsWidening : What → ProblemLists → Widening → Type 0
ShowsWidening what p (Least extra execution cycle) = IsExecutionOf (widened what p extra) execution × ShowsBelow what p extra cycle
ShowsWidening what p (Never cycle) = IsContradictionOf (widened what p most_extra) (weighed_bounds cycle)

-- ---- what judging a widening answers
-- of the cycle: what checking it by the problem that is widened by 1 less answers
abbrev pub IsAnswerBelow : What → ProblemLists → ℕ → Option (List Step) → Answer → Type 0
IsAnswerBelow what p extra None answer = answer ≡ Yes
IsAnswerBelow what p extra (Some cycle) answer = IsAnswer (widened what p (extra - 1)) (certs.Cycle cycle) answer

-- what is wrong with the execution first; where nothing is, what is answered of the cycle
abbrev pub IsJudged : What → ProblemLists → Widening → Answer → Type 0
IsJudged what p (Least extra execution cycle) answer =
    (IsAnswer (widened what p extra) (certs.Run execution) answer × (answer ≢ Yes)) ⊎ (IsExecutionOf (widened what p extra) execution × IsAnswerBelow what p extra cycle answer)
IsJudged what p (Never cycle) answer = IsAnswer (widened what p most_extra) (certs.Cycle cycle) answer
