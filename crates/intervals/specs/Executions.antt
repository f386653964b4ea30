-- Greatest differences, intervals and orders over all executions of a problem.
use Rattle.std.specs.Prelude.{◌≡◌, ℕ, ◌*◌, ℤ, pos, ◌+ℤ◌, ◌-ℤ◌, ◌≤ℤ◌, ◌<ℤ◌}
use Rattle.problem_model.specs.declared.items.Node.{Node}
use Rattle.problem_model.specs.declared.items.Node.TheVariants.{Reading}
use Rattle.problem_model.specs.Problem.{ProblemLists}
use Rattle.problem_model.specs.Bounds.{Times, IsExecution}
use Rattle.problem_model.specs.ProblemArcs.{IsGreatestOf, IsUnboundedOf}
use Rattle.row_pool.specs.declared.cell.Reach.{Reach}
use Rattle.row_pool.specs.declared.cell.Reach.TheVariants as reaches
use Rattle.row_pool.specs.declared.cell.Pair.{Pair}
use Rattle.intervals.specs.declared.ends.End.{End}
use Rattle.intervals.specs.declared.ends.End.TheVariants.{At, Unbounded}
use Rattle.intervals.specs.declared.ends.Ends.{Ends}
use Rattle.intervals.specs.declared.order.Order.{Order}
use Rattle.intervals.specs.declared.order.Order.TheVariants.{Before, After, Same, Undecided}

-- the greatest difference from one node to another over all executions, or that they pass every number
abbrev pub IsReachOf : ProblemLists → Node → Node → Reach → Type 0
IsReachOf p from to (reaches.At h) = IsGreatestOf p from to h
IsReachOf p from to reaches.Never = IsUnboundedOf p from to

-- the greatest differences of two nodes in both directions
pub record IsPairOf (p : ProblemLists) (from to : Node) (pair : Pair) : Type 0 where
  pub there : IsReachOf p from to pair.up
  pub back : IsReachOf p to from pair.down

-- how much later the second node is than the first
abbrev pub time_difference : Node → Node → Times → ℤ
time_difference from to x = x to -ℤ x from

-- the time at a node by the clock's reading of this stamp: the stamp, in units, and the real time from the reading to the node
abbrev pub time_by : ℕ → ℕ → Node → Times → ℤ
time_by clock stamp node x = pos (stamp * 1000000000) +ℤ time_difference (Reading clock stamp) node x

-- a time has the value h in some execution, and no more in any
pub record IsGreatestTime (p : ProblemLists) (time : Times → ℤ) (h : ℤ) : Type 0 where
  pub attained : (x : Times) × IsExecution p x × (time x ≡ h)
  pub most : (x : Times) → IsExecution p x → time x ≤ℤ h

-- a time has the value h in some execution, and no less in any
pub record IsLeastTime (p : ProblemLists) (time : Times → ℤ) (h : ℤ) : Type 0 where
  pub attained : (x : Times) × IsExecution p x × (time x ≡ h)
  pub least : (x : Times) → IsExecution p x → h ≤ℤ time x

-- executions rise above every number
abbrev pub RisesPast : ProblemLists → (Times → ℤ) → Type 0
RisesPast p time = (h : ℤ) → (x : Times) × IsExecution p x × (h <ℤ time x)

-- executions fall below every number
abbrev pub FallsPast : ProblemLists → (Times → ℤ) → Type 0
FallsPast p time = (h : ℤ) → (x : Times) × IsExecution p x × (time x <ℤ h)

-- the greatest value of a time over all executions, or that they rise above every number
abbrev pub IsGreatestEnd : ProblemLists → (Times → ℤ) → End → Type 0
IsGreatestEnd p time (At h) = IsGreatestTime p time h
IsGreatestEnd p time Unbounded = RisesPast p time

-- the least value of a time over all executions, or that they fall below every number
abbrev pub IsLeastEnd : ProblemLists → (Times → ℤ) → End → Type 0
IsLeastEnd p time (At h) = IsLeastTime p time h
IsLeastEnd p time Unbounded = FallsPast p time

-- the ends of the values of a time over all executions
pub record AreEndsOf (p : ProblemLists) (time : Times → ℤ) (e : Ends) : Type 0 where
  pub below : IsLeastEnd p time e.least
  pub above : IsGreatestEnd p time e.greatest

-- the first node comes before the second in every execution
abbrev pub AlwaysComesBefore : ProblemLists → Node → Node → Type 0
AlwaysComesBefore p from to = (x : Times) → IsExecution p x → x from <ℤ x to

-- both nodes come at the same time in every execution
abbrev pub ComeTogether : ProblemLists → Node → Node → Type 0
ComeTogether p from to = (x : Times) → IsExecution p x → x from ≡ x to

-- the order of two nodes in every execution; not decided where none of the three is so in every one
abbrev pub IsOrderOf : ProblemLists → Node → Node → Order → Type 0
IsOrderOf p from to Before = AlwaysComesBefore p from to
IsOrderOf p from to After = AlwaysComesBefore p to from
IsOrderOf p from to Same = ComeTogether p from to
IsOrderOf p from to Undecided = (AlwaysComesBefore p from to → ⊥) × (AlwaysComesBefore p to from → ⊥) × (ComeTogether p from to → ⊥)
