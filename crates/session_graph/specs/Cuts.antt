-- Room that is made, and then arcs that go, and the steps that it takes.
use Rattle.std.specs.Prelude.{◌≡◌, ℕ, List, [], true, All}
use Rattle.row_pool.specs.Pool.{grown}
use Rattle.repair.specs.Slots.{with_room}
use Rattle.solver.specs.Solver.{SolverLists}
use Rattle.solver.specs.Changes.{KeepsAnswer, withdrawn}
use Rattle.solver.specs.Costs.{TakesFewToWithdrawAll}
use Rattle.solver.specs.Withdrawn.{arcs_numbered}
use Rattle.roster.specs.Once.{IsOn}

-- the same graph, with what is known of it, and room for more
pub record IsRoomier (old new : SolverLists) : Type 0 where
  pub answer : KeepsAnswer old new
  pub rows : ℕ
  pub nodes : ℕ
  pub room : ℕ
  pub pool : new.pool ≡ grown old.pool rows nodes
  pub kept : new.kept ≡ with_room old.kept room

-- arcs of these numbers were taken out of force, and all else of the graph and the kept nodes are as before; where there was an execution
-- there is one still, and it took no more steps than their withdrawal may take, and none where no arc went
pub record CutsInFewSteps (old new : SolverLists) (first last : ℕ) : Type 0 where
  pub numbers : List ℕ
  pub were : All (IsOn old.graph) numbers
  pub nodes : new.graph.nodes ≡ old.graph.nodes
  pub arcs : new.graph.arcs ≡ old.graph.arcs
  pub in_force : new.graph.in_force ≡ withdrawn old.graph.in_force numbers
  pub slots : new.kept.slots ≡ old.kept.slots
  pub source : new.kept.source ≡ old.kept.source
  pub solved : old.earliest.is_solved ≡ true → new.earliest.is_solved ≡ true
  pub few : old.earliest.is_solved ≡ true → TakesFewToWithdrawAll old new (arcs_numbered old.graph numbers) first last
  pub none : numbers ≡ [] → last ≡ first
