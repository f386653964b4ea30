-- How many steps an arc more may take, and how many arcs that go.
use Rattle.std.specs.Prelude.{◌≡◌, ℕ, ◌+◌, ◌*◌, ◌≤◌, Bool, true, if◌then◌else◌, List, length, sum_by, All}
use Rattle.sync_graph.specs.declared.arc.Arc.{Arc}
use Rattle.sync_graph.specs.Graph.{reaching, arcs_in_force}
use Rattle.earliest.specs.Steps.{differing_sum}
use Rattle.earliest.specs.Withdrawn.{IsAffectedBy}
use Rattle.repair.specs.Slots.{all_slots}
use Rattle.repair.specs.Renewals.{insertion_steps}
use Rattle.repair.specs.Withdrawals.{MarksAffected, steps_of_marked, withdrawal_steps}
use Rattle.solver.specs.Solver.{SolverLists}

-- where there is an execution before and after: two, two and the arcs in force that reach it for each node whose value
-- differs, and what each kept node's two rows may take
abbrev pub repair_steps : SolverLists → SolverLists → ℕ
repair_steps old new =
    differing_sum (length new.graph.nodes) (λ k. reaching new.graph k + 2) old.earliest.values new.earliest.values + 2
    + sum_by (insertion_steps new.graph old.pool new.pool) (all_slots old.kept)

-- what an arc more may take: none where there was no execution; where there is none any more, two, two for each node,
-- and the arcs in force; else what repairing takes
abbrev pub pushing_steps : SolverLists → SolverLists → ℕ
pushing_steps old new =
    if old.earliest.is_solved
    then (if new.earliest.is_solved then repair_steps old new else arcs_in_force new.graph + 2 * length new.graph.nodes + 2)
    else 0

-- the flags mark each node at which a chain of arcs starts that the values before meet exactly, with a removed one as the last; and for
-- each row those whose path by parents there has a removed arc
pub record MarksAll (old new : SolverLists) (removed : List Arc) (marked : ℕ → Bool) (marks : ℕ → ℕ → Bool) : Type 0 where
  pub values : (k : ℕ) → IsAffectedBy new.graph removed old.earliest.values k → marked k ≡ true
  pub rows : All (MarksAffected new.graph removed old.pool marks) (all_slots old.kept)

-- two for the values and for each row, and for each marked node five and two for each arc in force that reaches or leaves it
abbrev pub withdrawing_steps : SolverLists → SolverLists → (ℕ → Bool) → (ℕ → ℕ → Bool) → ℕ
withdrawing_steps old new marked marks = steps_of_marked new.graph marked + sum_by (withdrawal_steps new.graph marks) (all_slots old.kept)

-- a withdrawal takes no more: the steps before and after are that far apart at most, whichever flags mark the affected
-- nodes
abbrev pub TakesFewToWithdrawAll : SolverLists → SolverLists → List Arc → ℕ → ℕ → Type 0
TakesFewToWithdrawAll old new removed before after =
    (marked : ℕ → Bool) (marks : ℕ → ℕ → Bool) → MarksAll old new removed marked marks → after ≤ (before + withdrawing_steps old new marked marks)
