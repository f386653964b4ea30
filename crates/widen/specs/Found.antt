-- What is found of a problem: the least widening, and what shows it from both sides.
use Rattle.std.specs.Prelude.{◌+◌, ◌≡◌, ℕ, ◌-◌, ◌<◌, ◌≤◌, ◌^◌, List, length, All, Option, Some, None, ℤ}
use Rattle.problem_model.specs.Problem.{ProblemLists}
use Rattle.problem_model.specs.Bounds.{Times}
use Rattle.problem_model.specs.Nodes.{Reading, AreReadings, Lists, nodes_of}
use Rattle.problem_model.specs.Solutions.{IsEarliestExecution, IsContradictionOf}
use Rattle.problem_model.specs.Limits.{path_bits}
use Rattle.sync_graph.specs.declared.arc.Arc.{Arc}
use Rattle.cert.specs.declared.chain.Step.{Step}
use Rattle.cert.specs.Shows.{weighed_bounds}
use Rattle.attain.specs.Tight.{IsUnder}
use Rattle.cert_check.specs.declared.what.What.{What}
use Rattle.cert_check.specs.Widened.{widened}
use Rattle.widen.specs.declared.widening.Widening.{Widening}
use Rattle.widen.specs.declared.widening.Widening.TheVariants.{Least, Never}
use Rattle.widen.specs.Least.{most_extra}
use Rattle.widen.specs.Weighed.{weighed_arcs}

-- the values, one for each node, are the earliest execution of the problem
abbrev pub AreEarliestOf : ProblemLists → List ℤ → Type 0
AreEarliestOf p values = (x : Times) × Lists p x values × IsEarliestExecution p x

-- the earliest execution of the problem that is widened by e, below 2^119 units at each node
pub record IsRunAt (what : What) (p : ProblemLists) (e : ℕ) (execution : List ℤ) : Type 0 where
  pub earliest : AreEarliestOf (widened what p e) execution
  pub small : All (IsUnder (path_bits + 1)) execution

-- a contradiction of the problem that is widened by e, with the weights that it has there, below 2^93 units, of at most as many steps as there are nodes
pub record IsCycleAt (what : What) (p : ProblemLists) (e : ℕ) (cycle : List Step) : Type 0 where
  pub contradiction : IsContradictionOf (widened what p e) (weighed_bounds cycle)
  pub short : (readings : List Reading) → AreReadings p readings → length cycle ≤ length (nodes_of p readings)
  pub small : All (λ s. IsUnder 93 s.weight) cycle

-- arcs that are such a contradiction
pub record IsCycleFor (what : What) (p : ProblemLists) (e : ℕ) (arcs : List Arc) : Type 0 where
  pub contradiction : IsContradictionOf (widened what p e) (weighed_arcs arcs)
  pub short : (readings : List Reading) → AreReadings p readings → length arcs ≤ length (nodes_of p readings)
  pub small : All (λ a. IsUnder 93 a.weight) arcs

-- that nothing below heals: there is nothing below, or else the cycle is there where it is widened by 1 less
abbrev pub IsFoundBelow : What → ProblemLists → ℕ → Option (List Step) → Type 0
IsFoundBelow what p extra None = extra ≡ 0
IsFoundBelow what p extra (Some cycle) = (0 < extra) × IsCycleAt what p (extra - 1) cycle

-- the earliest execution where it is widened by so much, and what shows that less does not heal; or that nothing does
abbrev pub FindsWidening : What → ProblemLists → Widening → Type 0
FindsWidening what p (Least extra execution cycle) = (extra < 2 ^ 62) × IsRunAt what p extra execution × IsFoundBelow what p extra cycle
FindsWidening what p (Never cycle) = IsCycleAt what p most_extra cycle
