-- What looking for the first fault of one part answers.
use Rattle.std.specs.Prelude.{◌≡◌, ℕ, List, Option, Some, None, All}
use Rattle.problem_model.specs.declared.items.Node.TheVariants as nodes
use Rattle.problem_model.specs.declared.items.Bound.{Bound}
use Rattle.problem_model.specs.Problem.{ProblemLists}
use Rattle.problem_model.specs.Bounds.{Constraint, Declares}
use Rattle.problem_model.specs.Solutions.{weight_of}
use Rattle.cert.specs.declared.certificate.EndProof.{EndProof}
use Rattle.cert.specs.declared.certificate.EndProof.TheVariants.{At, Unbounded}
use Rattle.cert.specs.Shows.{weighed_bounds, IsInside, IsExecutionOf, Attains, Parts}
use Rattle.cert_check.specs.Walks.{Goes}
use Rattle.cert_check.specs.Reasons.{sum_for, home_of, away_of, IsFirstLeavingOf, IsNoLater}
use Rattle.cert_check.specs.declared.answer.Part.{Part}
use Rattle.cert_check.specs.declared.answer.Reason.{Reason}
use Rattle.cert_check.specs.declared.answer.Answer.{Answer}
use Rattle.cert_check.specs.declared.answer.Answer.TheVariants.{Yes, No}

-- this is wrong with a part, and nothing that is wrong with it comes before
pub record IsFirstWrong (part : Part) (So : Reason → Type 0) (reason : Reason) : Type 0 where
  pub is_so : So reason
  pub first : (other : Reason) → So other → IsNoLater part reason part other

-- the part shows what it should, or this is the first reason why it does not
abbrev pub FindsFault : Part → (Reason → Type 0) → Type 0 → Option Reason → Type 0
FindsFault part So Shown None = Shown
FindsFault part So Shown (Some reason) = IsFirstWrong part So reason

-- what one end of the interval from the first event to the second should show, with its path as a walk
abbrev pub ShowsEnd : ProblemLists → Part → ℕ → ℕ → EndProof → Type 0
ShowsEnd p part first second (At value path execution) = Goes p part (nodes.Event second) (weighed_bounds path) (nodes.Event first)
    × (weight_of (weighed_bounds path) ≡ sum_for part value) × Attains p first second value execution
ShowsEnd p part first second (Unbounded inside execution) =
    Parts p inside.items (home_of part first second) (away_of part first second) × IsExecutionOf p execution

-- where the bound leads from a clock inside, it leads to one inside
abbrev pub StaysInside : ProblemLists → List ℕ → Bound → Type 0
StaysInside p inside b = (c : Constraint) → Declares p b c → IsInside p inside c.from → IsInside p inside c.to

-- all bounds of a list stay inside, or this is the first that leaves
abbrev pub FindsLeaving : ProblemLists → List ℕ → List Bound → Option Bound → Type 0
FindsLeaving p inside bounds None = All (StaysInside p inside) bounds
FindsLeaving p inside bounds (Some b) = IsFirstLeavingOf p inside bounds b

-- the answer where this is the first fault, found in that part, or there is none
abbrev pub verdict_at : Part → Option Reason → Answer
verdict_at part None = Yes
verdict_at part (Some reason) = No part reason
