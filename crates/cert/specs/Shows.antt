-- What a certificate shows of a problem.
use Rattle.std.specs.Prelude.{◌≡◌, ℕ, List, [], ◌∷◌, map, Contains, ℤ, neg_ℤ, ◌-ℤ◌}
use Rattle.problem_model.specs.declared.items.Event.{Event}
use Rattle.problem_model.specs.declared.items.Node.{Node}
use Rattle.problem_model.specs.declared.items.Node.TheVariants as nodes
use Rattle.problem_model.specs.declared.items.Bound.{Bound}
use Rattle.problem_model.specs.Problem.{ProblemLists}
use Rattle.problem_model.specs.Bounds.{Constraint, Declares, EventAt, Times, IsExecution}
use Rattle.problem_model.specs.Nodes as lists
use Rattle.problem_model.specs.Solutions.{WeighedBound, Leads, weight_of, IsContradictionOf}
use Rattle.cert.specs.declared.chain.Step.{Step}
use Rattle.cert.specs.declared.certificate.EndProof.{EndProof}
use Rattle.cert.specs.declared.certificate.Cert.{Cert}
use Rattle.cert.specs.declared.certificate.Cert.TheVariants.{Cycle, Run, Ends}
use Rattle.cert.specs.EndLists.{EndLists, Limited, Unlimited, end_lists}

-- ---- executions
-- the values, one for each node, are real times that obey every declared bound
abbrev pub IsExecutionOf : ProblemLists → List ℤ → Type 0
IsExecutionOf p values = (x : Times) × lists.Lists p x values × IsExecution p x

-- in this execution the second event is so much later than the first
abbrev pub Attains : ProblemLists → ℕ → ℕ → ℤ → List ℤ → Type 0
Attains p from to value values = (x : Times) × lists.Lists p x values × IsExecution p x × ((x (nodes.Event to) -ℤ x (nodes.Event from)) ≡ value)

-- ---- paths
-- the bounds of steps, with the weights that the steps give them
abbrev pub weighed_bounds : List Step → List WeighedBound
weighed_bounds steps = map (λ s. (s.bound, s.weight)) steps

-- declared bounds with these weights lead from m to n against their direction: the first leads to m, each next one to
-- where the one before it comes from, and the last comes from n
abbrev pub LeadsAgainst : ProblemLists → Node → List WeighedBound → Node → Type 0
LeadsAgainst p m [] n = m ≡ n
LeadsAgainst p m (s ∷ steps) n = (c : Constraint) × Declares p s.0 c × (c.weight ≡ s.1) × (c.to ≡ m) × LeadsAgainst p c.from steps n

-- ---- cuts
-- the node is on the clock at this place
abbrev pub IsOnClock : ProblemLists → Node → ℕ → Type 0
IsOnClock p (nodes.Event e) clock = (v : Event) × EventAt p e v × (v.clock ≡ clock)
IsOnClock p (nodes.Reading place stamp) clock = place ≡ clock

-- the node is on one of these clocks
abbrev pub IsInside : ProblemLists → List ℕ → Node → Type 0
IsInside p inside n = (clock : ℕ) × IsOnClock p n clock × Contains inside clock

-- no declared bound leads from a node on one of these clocks to a node on none of them
abbrev pub IsCutOf : ProblemLists → List ℕ → Type 0
IsCutOf p inside = (b : Bound) (c : Constraint) → Declares p b c → IsInside p inside c.from → IsInside p inside c.to

-- such clocks, with that of the first event and without that of the second
pub record Parts (p : ProblemLists) (inside : List ℕ) (from to : ℕ) : Type 0 where
  pub home : IsInside p inside (nodes.Event from)
  pub away : IsInside p inside (nodes.Event to) → ⊥
  pub cut : IsCutOf p inside

-- ---- certificates
-- where the greatest difference from p to q is: a path from p to q, walked back from q, with this sum and an execution
-- with this difference; or that there is none: a cut with p inside and q outside, and an execution
abbrev pub IsUpperEnd : ProblemLists → ℕ → ℕ → EndLists → Type 0
IsUpperEnd problem p q (Limited value path execution) = LeadsAgainst problem (nodes.Event q) (weighed_bounds path) (nodes.Event p)
    × (weight_of (weighed_bounds path) ≡ value) × Attains problem p q value execution
IsUpperEnd problem p q (Unlimited inside execution) = Parts problem inside p q × IsExecutionOf problem execution

-- where the least difference from p to q is: a path from q to p with the negative as its sum, and an execution with
-- this difference; or that there is none: a cut with q inside and p outside, and an execution
abbrev pub IsLowerEnd : ProblemLists → ℕ → ℕ → EndLists → Type 0
IsLowerEnd problem p q (Limited value path execution) = Leads problem (nodes.Event q) (weighed_bounds path) (nodes.Event p)
    × (weight_of (weighed_bounds path) ≡ neg_ℤ value) × Attains problem p q value execution
IsLowerEnd problem p q (Unlimited inside execution) = Parts problem inside q p × IsExecutionOf problem execution

-- an upper end as the code holds it shows where the greatest difference is, or that there is none
abbrev pub ShowsUpper : ProblemLists → ℕ → ℕ → EndProof → Type 0
ShowsUpper problem p q end = IsUpperEnd problem p q (end_lists end)

-- a lower end as the code holds it shows where the least difference is, or that there is none
abbrev pub ShowsLower : ProblemLists → ℕ → ℕ → EndProof → Type 0
ShowsLower problem p q end = IsLowerEnd problem p q (end_lists end)

-- a cycle is a contradiction, a run an execution, and ends have both their parts
abbrev pub Shows : ProblemLists → Cert → Type 0
Shows problem (Cycle steps) = IsContradictionOf problem (weighed_bounds steps)
Shows problem (Run execution) = IsExecutionOf problem execution
Shows problem (Ends p q upper lower) = ShowsUpper problem p q upper × ShowsLower problem p q lower
