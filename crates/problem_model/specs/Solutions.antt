-- The earliest execution of a problem, and the contradictions for which it has none.
use Rattle.std.specs.Prelude.{◌≡◌, ◌<◌, ℤ, pos, ◌+ℤ◌, ◌≤ℤ◌, ◌<ℤ◌, List, [], ◌∷◌, length}
use Rattle.problem_model.specs.declared.items.Node.{Node}
use Rattle.problem_model.specs.declared.items.Node.TheVariants as nodes
use Rattle.problem_model.specs.declared.items.Bound.{Bound}
use Rattle.problem_model.specs.Problem.{ProblemLists}
use Rattle.problem_model.specs.Bounds.{Constraint, Declares, IsReading, Times, IsExecution}
use Rattle.problem_model.specs.Nodes.{Reading}
use Rattle.problem_model.specs.Executions.{Arc}
use Rattle.problem_model.specs.ProblemArcs.{IsArcOf}

-- an event or a reading of the problem
abbrev pub IsNodeOf : ProblemLists → Node → Type 0
IsNodeOf p (nodes.Event e) = e < length p.events
IsNodeOf p (nodes.Reading clock stamp) = IsReading p clock stamp

-- no node comes before 0
abbrev pub IsFromZero : ProblemLists → Times → Type 0
IsFromZero p x = (n : Node) → IsNodeOf p n → pos 0 ≤ℤ x n

-- of the executions that begin at 0 or later, the one that is no later than any other at any node
pub record IsEarliestExecution (p : ProblemLists) (x : Times) : Type 0 where
  pub execution : IsExecution p x
  pub from_zero : IsFromZero p x
  pub least : (y : Times) → IsExecution p y → IsFromZero p y → (n : Node) → IsNodeOf p n → x n ≤ℤ y n

-- a bound by its name, and its weight
abbrev pub WeighedBound : Type 0
WeighedBound = Bound × ℤ

-- the problem declares the bounds with these weights, and each begins where the one before ended, from m to n
abbrev pub Leads : ProblemLists → Node → List WeighedBound → Node → Type 0
Leads p m [] n = m ≡ n
Leads p m (s ∷ steps) n = (c : Constraint) × Declares p s.0 c × (c.weight ≡ s.1) × (c.from ≡ m) × Leads p c.to steps n

-- the sum of the weights
abbrev pub weight_of : List WeighedBound → ℤ
weight_of [] = pos 0
weight_of (s ∷ steps) = s.1 +ℤ weight_of steps

-- a closed chain of declared bounds whose weights have a negative sum (so it has one or more bounds)
pub record IsContradictionOf (p : ProblemLists) (steps : List WeighedBound) : Type 0 where
  pub closed : (n : Node) × Leads p n steps n
  pub negative : weight_of steps <ℤ pos 0

-- an arc with the name of the bound that it is
abbrev pub NamedArc : Type 0
NamedArc = Bound × Arc

-- the arc is the bound of this name
abbrev pub IsBoundArc : ProblemLists → List Reading → NamedArc → Type 0
IsBoundArc p readings a = (c : Constraint) × Declares p a.0 c × IsArcOf p readings c a.1

-- the name and the weight of an arc
abbrev pub weighed : NamedArc → WeighedBound
weighed a = (a.0, a.1.weight)
