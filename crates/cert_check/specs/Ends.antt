-- What the ends of an interval say of all executions.
use Rattle.std.specs.Prelude.{ℕ, neg_ℤ}
use Rattle.problem_model.specs.declared.items.Node.TheVariants as nodes
use Rattle.problem_model.specs.Problem.{ProblemLists}
use Rattle.problem_model.specs.ProblemArcs.{IsGreatestOf, IsUnboundedOf}
use Rattle.cert.specs.declared.certificate.EndProof.{EndProof}
use Rattle.cert.specs.declared.certificate.EndProof.TheVariants.{At, Unbounded}

-- the upper end is the greatest difference from the first event to the second over all executions, or there is none
abbrev pub IsUpperOfAll : ProblemLists → ℕ → ℕ → EndProof → Type 0
IsUpperOfAll p first second (At value path execution) = IsGreatestOf p (nodes.Event first) (nodes.Event second) value
IsUpperOfAll p first second (Unbounded inside execution) = IsUnboundedOf p (nodes.Event first) (nodes.Event second)

-- the lower end is the least over all executions, which is the negative of the greatest from the second to the first,
-- or there is none
abbrev pub IsLowerOfAll : ProblemLists → ℕ → ℕ → EndProof → Type 0
IsLowerOfAll p first second (At value path execution) = IsGreatestOf p (nodes.Event second) (nodes.Event first) (neg_ℤ value)
IsLowerOfAll p first second (Unbounded inside execution) = IsUnboundedOf p (nodes.Event second) (nodes.Event first)
