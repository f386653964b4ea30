-- The greatest difference of two nodes, as the executions of a graph have it and as what obeys a table has it.
use Rattle.std.specs.Prelude.{◌≡◌, ℕ, ℤ, ◌-ℤ◌, ◌≤ℤ◌, ◌<ℤ◌, length}
use Rattle.problem_model.specs.Differences.{IsGreatest, IsUnbounded}
use Rattle.problem_model.specs.Tables.{ArcTable, ObeysAll}
use Rattle.sync_graph.specs.Graph.{GraphLists}
use Rattle.sync_graph.specs.InForce.{arcs_of}
use Rattle.row_pool.specs.declared.cell.Reach.{Reach}
use Rattle.row_pool.specs.declared.cell.Reach.TheVariants.{At, Never}
use Rattle.distances.specs.declared.side.Side.{Side}
use Rattle.distances.specs.declared.side.Side.TheVariants.{From, Towards}

-- the greatest difference from one node to the other over all executions of the graph, or that they pass every number
abbrev pub IsReachIn : GraphLists → ℕ → ℕ → Reach → Type 0
IsReachIn g p q (At h) = IsGreatest (length g.nodes) (arcs_of g) p q h
IsReachIn g p q Never = IsUnbounded (length g.nodes) (arcs_of g) p q

-- the same from p to q, or from q to p for a search towards p
abbrev pub IsReachBy : Side → GraphLists → ℕ → ℕ → Reach → Type 0
IsReachBy From g p q reach = IsReachIn g p q reach
IsReachBy Towards g p q reach = IsReachIn g q p reach

-- nothing that obeys the table has more between the nodes, and something has as much
pub record IsMostOver (table : ArcTable) (p q : ℕ) (h : ℤ) : Type 0 where
  pub most : (x : ℕ → ℤ) → ObeysAll table x → (x q -ℤ x p) ≤ℤ h
  pub attained : (x : ℕ → ℤ) × ObeysAll table x × (x q -ℤ x p ≡ h)

-- the greatest difference over all that obeys the table, or that it passes every number
abbrev pub IsReachOver : ArcTable → ℕ → ℕ → Reach → Type 0
IsReachOver table p q (At h) = IsMostOver table p q h
IsReachOver table p q Never = (h : ℤ) → (x : ℕ → ℤ) × ObeysAll table x × (h <ℤ (x q -ℤ x p))
