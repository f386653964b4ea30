-- Lists of arcs that stand for a problem, and greatest differences over the executions of a problem.
use Rattle.std.specs.Prelude.{◌≡◌, ℕ, ℤ, ◌-ℤ◌, ◌≤ℤ◌, ◌<ℤ◌, List, slice_get, Some, All, Contains}
use Rattle.problem_model.specs.declared.items.Node.{Node}
use Rattle.problem_model.specs.declared.items.Bound.{Bound}
use Rattle.problem_model.specs.Problem.{ProblemLists, IsChained}
use Rattle.problem_model.specs.Bounds.{Constraint, Declares, Times, IsExecution}
use Rattle.problem_model.specs.Nodes.{Reading, nodes_of}
use Rattle.problem_model.specs.ShortList.{short_list}
use Rattle.problem_model.specs.Executions.{Arc}

-- a node has the number of its place
abbrev pub IsNodeAt : ProblemLists → List Reading → ℕ → Node → Type 0
IsNodeAt p readings place node = slice_get (nodes_of p readings) place ≡ Some node

-- the arc is this constraint, between the numbers of its nodes
pub record IsArcOf (p : ProblemLists) (readings : List Reading) (c : Constraint) (a : Arc) : Type 0 where
  pub tail : IsNodeAt p readings a.from c.from
  pub head : IsNodeAt p readings a.to c.to
  pub weighs : a.weight ≡ c.weight

-- follows make chains, each arc is a declared bound, and each bound of the short list is one of the arcs
pub record StandsFor (p : ProblemLists) (readings : List Reading) (arcs : List Arc) : Type 0 where
  pub chained : IsChained p
  pub each : All (λ a. (b : Bound) × (c : Constraint) × Declares p b c × IsArcOf p readings c a) arcs
  pub every : All (λ b. (c : Constraint) → Declares p b c → (a : Arc) × Contains arcs a × IsArcOf p readings c a) (short_list p readings)

-- h is the greatest difference from one node to another over all executions of the problem
pub record IsGreatestOf (p : ProblemLists) (from to : Node) (h : ℤ) : Type 0 where
  pub attained : (x : Times) × IsExecution p x × ((x to -ℤ x from) ≡ h)
  pub most : (x : Times) → IsExecution p x → (x to -ℤ x from) ≤ℤ h

-- executions of the problem pass every number
abbrev pub IsUnboundedOf : ProblemLists → Node → Node → Type 0
IsUnboundedOf p from to = (h : ℤ) → (x : Times) × IsExecution p x × (h <ℤ (x to -ℤ x from))
