-- The text of a problem is read as this problem.
use Rattle.std.proofs.Common.{◌≡◌, ℕ, List, Ok, Err, refl}
use Rattle.line_format.specs.Format.Answer.{Found, Faulty, Long}
use Rattle.line_format.specs.declared.fault.FaultKind.{FaultKind}
use Rattle.line_format.specs.declared.fault.FaultKind.TheVariants as kinds
use Rattle.problem_model.specs.Problem.{ProblemLists, IsProblem}
use Rattle.problem_model.specs.ProblemText.{problem_text}
use Rattle.problem.specs.Reading.{AnswersProblem}
use Rattle.problem.specs.declared.errors.ProblemError.TheVariants as errors
use Rattle.problem.proofs.Answering.{reads_found}
use Rattle.problem.proofs.Steps.{problem_answers_one}
use Rattle.problem_text.specs.ReadAgain.{IsReadAs}
use Rattle.problem_text.proofs.Lengths.{text_short}

found_one : (q p : ProblemLists) → Found q ≡ Found p → q ≡ p
found_one q p same = cc

not_found : (kind : FaultKind) (n : ℕ) (p : ProblemLists) → Faulty kind n ≡ Found p → ⊥
not_found kind n p same = absurd cc

not_long : (p : ProblemLists) → Long ≡ Found p → ⊥
not_long p same = absurd cc

module _ (p : ProblemLists) (text : List ℕ) (found : AnswersProblem text (Found p)) where
  faults : (kind : FaultKind) (n : ℕ) → AnswersProblem text (Faulty kind n) → ⊥
  faults kind n fault = not_found kind n p (problem_answers_one text (Faulty kind n) (Found p) fault found)

  read_as : IsReadAs text p
  read_as (Ok q) reads = found_one q p (problem_answers_one text (Found q) (Found p) (reads_found text q reads) found)
  read_as (Err (errors.Syntax n)) reads = absurd (faults kinds.Syntax n reads)
  read_as (Err (errors.Name n)) reads = absurd (faults kinds.Name n reads)
  read_as (Err (errors.Range n)) reads = absurd (faults kinds.Range n reads)
  read_as (Err (errors.Limit n)) reads = absurd (faults kinds.Limit n reads)
  read_as (Err errors.Long) reads = absurd (not_long p (problem_answers_one text Long (Found p) reads found))
  read_as (Err errors.Memory) reads = refl

pub read_same : (p : ProblemLists) → IsProblem p → IsReadAs (problem_text p) p
read_same p lawful = read_as p (problem_text p) (reads_found (problem_text p) p (text_short p lawful, lawful, refl))
