-- What reading the text of a problem answers.
use Rattle.std.specs.Prelude.{◌≡◌, ℕ, ◌≤◌, List, ◌++◌, length, Result, Ok, Err}
use Rattle.line_format.specs.Words.{line_of}
use Rattle.line_format.specs.Format.{Answer, Answers, most_text_bytes}
use Rattle.line_format.specs.Format.Answer.{Faulty, Long}
use Rattle.line_format.specs.declared.fault.FaultKind.TheVariants.{Syntax, Name, Range, Limit}
use Rattle.problem_model.specs.Problem.{ProblemLists, IsProblem}
use Rattle.problem_model.specs.ProblemText.{followed_head, own_head, problem_text}
use Rattle.problem.specs.Line.{problem_format}
use Rattle.problem.specs.declared.version.Version.TheVariants.{First, Second, Third}
use Rattle.problem.specs.declared.errors.ProblemError.{ProblemError}
use Rattle.problem.specs.declared.errors.ProblemError.TheVariants as errors

-- the text has the head of the second version
abbrev pub IsSecond : List ℕ → Type 0
IsSecond text = (lines : List ℕ) × (text ≡ line_of followed_head ++ lines)

-- the text has the head of the third version
abbrev pub IsThird : List ℕ → Type 0
IsThird text = (lines : List ℕ) × (text ≡ line_of own_head ++ lines)

-- what reading a text answers: by the format of the second or the third version where it has that head, and by that of
-- the first elsewhere
pub record AnswersProblem (text : List ℕ) (answer : Answer ProblemLists) : Type 0 where
  pub second : IsSecond text → Answers (problem_format Second) text answer
  pub third : IsThird text → Answers (problem_format Third) text answer
  pub first : (IsSecond text → ⊥) → (IsThird text → ⊥) → Answers (problem_format First) text answer

-- what `read_problem` answers: the lawful problem of this text, its first fault, or that it is too long; want of memory
-- says nothing
abbrev pub Reads : List ℕ → Result ProblemLists ProblemError → Type 0
Reads text (Ok p) = (length text ≤ most_text_bytes) × IsProblem p × (text ≡ problem_text p)
Reads text (Err (errors.Syntax n)) = AnswersProblem text (Faulty Syntax n)
Reads text (Err (errors.Name n)) = AnswersProblem text (Faulty Name n)
Reads text (Err (errors.Range n)) = AnswersProblem text (Faulty Range n)
Reads text (Err (errors.Limit n)) = AnswersProblem text (Faulty Limit n)
Reads text (Err errors.Long) = AnswersProblem text Long
Reads text (Err errors.Memory) = Unit {0}
