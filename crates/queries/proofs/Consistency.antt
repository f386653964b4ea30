-- Whether a problem has an execution is what its engine says.
use Rattle.std.proofs.Common.{◌≡◌, Bool, true, false, []}
use Rattle.problem_model.specs.Problem.{ProblemLists}
use Rattle.problem_model.specs.Bounds.{Times, IsExecution}
use Rattle.problem.specs.Listing.{Listed}
use Rattle.solver.specs.Solver.{SolverLists}
use Rattle.queries.specs.Contradiction.{HasContradictionBy}
use Rattle.solver.specs.Solution.{IsSolutionBy}
use Rattle.queries.specs.Consistent.{IsConsistent}
use Rattle.queries.proofs.Solutions.{none_held}

module _ (l : Listed) (p : ProblemLists) (s : SolverLists) (solution : IsSolutionBy l p s) where
  pub consistent_by : (b : Bool) → s.earliest.is_solved ≡ b → (s.contradiction ≡ [] → (x : Times) × IsExecution p x) → (s.contradiction ≡ [] → s.earliest.is_solved ≡ true)
      → ((s.contradiction ≡ [] → ⊥) → HasContradictionBy l p s.contradiction) → IsConsistent p b
  consistent_by true is executes solved held = executes (none_held l p s solution is)
  consistent_by false is executes solved held = (held (λ none. let yes : s.earliest.is_solved ≡ true = solved none in let z : ⊥ = cc in z)).no_execution
