-- What is read of a solver that has an execution.
use Rattle.std.proofs.Common.{◌≡◌, ℕ, List, [], length, Option, Some, None, subst, arith, All}
use Rattle.std.specs.Prelude.{ℤ, MatchOption}
use Rattle.problem_model.specs.Executions.{IsExecution}
use Rattle.problem_model.specs.Parents.{IsRow}
use Rattle.problem_model.specs.Tables.{reversed_table}
use Rattle.sync_graph.specs.Graph.{GraphLists, IsGraph, table_of}
use Rattle.sync_graph.specs.InForce.{arcs_of}
use Rattle.row_pool.specs.Row.{cells_of}
use Rattle.row_pool.specs.Pool.{row_of}
use Rattle.row_pool.specs.declared.cell.Pair.{Pair}
use Rattle.repair.specs.declared.slot.Slot.{Slot}
use Rattle.repair.specs.Slots.{slot_of, behind, HasRows, IsRowsOf, AreRowsOf}
use Rattle.distances.specs.Ends.{AreRowsAround}
use Rattle.repair.specs.Pairs.{IsPairIn}
use Rattle.repair.proofs.Found.{found, of_events}
use Rattle.solver.specs.Solver.{SolverLists}
use Rattle.solver.specs.Current.{IsCurrent, IsSolvedNow}
use Rattle.solver.proofs.Staying.{solved_now}

-- what holds of all slots holds of the source's
of_source : (P : Slot → Type 0) (source : Option Slot) (slots : List Slot) (slot : Slot) → source ≡ Some slot → All P (behind source slots) → P slot
of_source P None slots slot e h = absurd (let z : ⊥ = cc in z)
of_source P (Some x) slots slot e h = let same : x ≡ slot = cc in subst P same (h 0 x (omega arith))

module _ (s : SolverLists) (current : IsCurrent s) (none : s.contradiction ≡ []) where
  now : IsSolvedNow s
  now = solved_now s current none

  -- what holds for every graph with an execution and these rows holds for this one
  pub of_this : (P : GraphLists → Type 0) → ((g : GraphLists) (xs : List ℤ) → IsGraph g → IsExecution (length g.nodes) (arcs_of g) xs → AreRowsOf g s.kept s.pool → P g) → P s.graph
  of_this P of_all = of_all s.graph s.earliest.values current.set_up.graph now.earliest.execution now.rows

  pub source_told : (q : ℕ) (r : Option Pair)
      → MatchOption r (s.kept.source ≡ None) (λ pair. (slot : Slot) × (s.kept.source ≡ Some slot)
      × ((g : GraphLists) (xs : List ℤ) → IsGraph g → IsExecution (length g.nodes) (arcs_of g) xs → AreRowsOf g s.kept s.pool → IsPairIn g slot.node q pair))
      → MatchOption r (s.kept.source ≡ None) (λ pair. (slot : Slot) × (s.kept.source ≡ Some slot) × IsPairIn s.graph slot.node q pair)
  source_told q None told = told
  source_told q (Some pair) told = (told.0, told.1, of_this (λ g. IsPairIn g told.0.node q pair) told.2)

  -- the rows of a slot
  module _ (p : ℕ) (slot : Slot) (is : slot_of s.kept p ≡ Some slot) where
    pub slot_has : HasRows s.pool slot
    slot_has = (found (HasRows s.pool) p s.kept.slots slot is (of_events (HasRows s.pool) s.kept.source s.kept.slots current.set_up.own.taken)).0

    its : IsRowsOf (length s.graph.nodes) (table_of s.graph) s.pool slot × (slot.node ≡ p)
    its = found (IsRowsOf (length s.graph.nodes) (table_of s.graph) s.pool) p s.kept.slots slot is
        (of_events (IsRowsOf (length s.graph.nodes) (table_of s.graph) s.pool) s.kept.source s.kept.slots now.rows)

    pub from_is : IsRow (length s.graph.nodes) (table_of s.graph) p (cells_of (row_of s.pool slot.from))
    from_is = subst (λ (n : ℕ). IsRow (length s.graph.nodes) (table_of s.graph) n (cells_of (row_of s.pool slot.from))) its.1 its.0.from

    pub to_is : IsRow (length s.graph.nodes) (reversed_table (table_of s.graph)) p (cells_of (row_of s.pool slot.to))
    to_is = subst (λ (n : ℕ). IsRow (length s.graph.nodes) (reversed_table (table_of s.graph)) n (cells_of (row_of s.pool slot.to))) its.1 its.0.to

  -- the rows of the source's slot
  module _ (slot : Slot) (is : s.kept.source ≡ Some slot) where
    pub source_has : HasRows s.pool slot
    source_has = of_source (HasRows s.pool) s.kept.source s.kept.slots slot is current.set_up.own.taken

    its_rows : IsRowsOf (length s.graph.nodes) (table_of s.graph) s.pool slot
    its_rows = of_source (IsRowsOf (length s.graph.nodes) (table_of s.graph) s.pool) s.kept.source s.kept.slots slot is now.rows

    pub source_rows : AreRowsAround s.graph (row_of s.pool slot.from) (row_of s.pool slot.to)
    source_rows = (slot.node, its_rows.from, its_rows.to)
