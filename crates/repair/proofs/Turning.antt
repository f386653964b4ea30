-- A search that goes from nodes, and the same the other way round.
use Rattle.std.proofs.Common.{◌≡◌, ℕ, ◌+◌, ◌*◌, ◌≤◌, Bool, false, true, List, length, sym, ap, subst, ◌∙◌, arith}
use Rattle.problem_model.specs.Parents.{IsRow}
use Rattle.problem_model.specs.Tables.{ArcTable, reversed_table, without}
use Rattle.withdrawals.specs.Withdrawals.{flagged_sum, flagged_count, LeavesFrom}
use Rattle.withdrawals.specs.Regrowths.{IsAffectedIn}
use Rattle.sync_graph.specs.declared.arc.Arc.{Arc}
use Rattle.sync_graph.specs.Graph.{GraphLists, table_of, reaching, departing}
use Rattle.row_pool.specs.declared.cell.Cell.{Cell}
use Rattle.row_pool.specs.Row.{cell_at, cells_of}
use Rattle.row_pool.specs.Pool.{Pool}
use Rattle.distances.specs.declared.side.Side.{Side}
use Rattle.distances.specs.declared.side.Side.TheVariants.{From, Towards}
use Rattle.distances.specs.Facing.{opposite, facing, followed}
use Rattle.distances.specs.Searched.{Searched, nodes, table, lists}
use Rattle.distances.specs.Changes.{steps_of_changes}
use Rattle.repair.specs.RowWithdrawals.{AreWithdrawn, IsRemoved}
use Rattle.repair.specs.Renewals.{CanRenew}

-- a pool of the same width and a queue with as much room will do as well
pub can_still : (s : Searched) (pool pool' : Pool) (room room' : ℕ) → CanRenew s pool room → pool'.width ≡ pool.width → room' ≡ room → CanRenew s pool' room'
can_still s pool pool' room room' can wide long = record {
  outward = can.outward;
  rows = (let rows : nodes s ≤ pool.width = can.rows in omega (arith, rows, wide));
  queue = (let queue : nodes s ≤ room = can.queue in omega (arith, queue, long));
}

-- the steps of a withdrawal from a row
abbrev pub TakesFewFor : ArcTable → GraphLists → List Arc → ℕ → List Cell → ℕ → ℕ → Type 0
TakesFewFor arcs g removed p row before after =
    (affected : ℕ → Bool) → ((k : ℕ) → IsAffectedIn arcs (IsRemoved g removed) p (cells_of row) k → affected k ≡ true)
    → after ≤ before + flagged_sum (length g.nodes) (λ k. 2 * (reaching g k + departing g k) + 5) affected + 2

-- the places that it writes
abbrev pub WritesFewFor : ArcTable → GraphLists → List Arc → ℕ → List Cell → List ℕ → List ℕ → Type 0
WritesFewFor arcs g removed p row found found' =
    (affected : ℕ → Bool) → ((k : ℕ) → IsAffectedIn arcs (IsRemoved g removed) p (cells_of row) k → affected k ≡ true)
    → LeavesFrom (flagged_count (length g.nodes) affected) found found'

-- the cells that it leaves
abbrev pub LeavesFor : ArcTable → GraphLists → List Arc → ℕ → List Cell → List Cell → Type 0
LeavesFor arcs g removed p row row' =
    (affected : ℕ → Bool) → ((k : ℕ) → IsAffectedIn arcs (IsRemoved g removed) p (cells_of row) k → affected k ≡ true)
    → (k : ℕ) → affected k ≡ false → cell_at row' k ≡ cell_at row k

module _ (s : Searched) (outward : s.side ≡ From) where
  from_table : table s ≡ table_of s.graph
  from_table = ap (λ (d : Side). facing d s.graph) outward

  pub from_row : (p : ℕ) (cells : List Cell) → IsRow (nodes s) (table s) p (cells_of cells) → IsRow (length s.graph.nodes) (table_of s.graph) p (cells_of cells)
  from_row p cells r = subst (λ (x : ArcTable). IsRow (nodes s) x p (cells_of cells)) from_table r

  pub from_before : (arc p : ℕ) (cells : List Cell) → IsRow (length s.graph.nodes) (without (table_of s.graph) arc) p (cells_of cells) → IsRow (nodes s) (without (table s) arc) p (cells_of cells)
  from_before arc p cells r = subst (λ (x : ArcTable). IsRow (nodes s) (without x arc) p (cells_of cells)) (sym from_table) r

  pub from_cost : (a b : ℕ) (was cells : List Cell) → b ≤ a + steps_of_changes (lists s) was cells + 1 → b ≤ a + steps_of_changes s.graph.leaving was cells + 1
  from_cost a b was cells h = subst (λ (ls : List (List ℕ)). b ≤ a + steps_of_changes ls was cells + 1) (ap (λ (d : Side). followed d s.graph) outward) h

  pub from_few : (removed : List Arc) (p : ℕ) (row : List Cell) (before after : ℕ) → TakesFewFor (table s) s.graph removed p row before after → TakesFewFor (table_of s.graph) s.graph removed p row before after
  from_few removed p row before after h = subst (λ (x : ArcTable). TakesFewFor x s.graph removed p row before after) from_table h

  pub from_places : (removed : List Arc) (p : ℕ) (row : List Cell) (found found' : List ℕ) → WritesFewFor (table s) s.graph removed p row found found' → WritesFewFor (table_of s.graph) s.graph removed p row found found'
  from_places removed p row found found' h = subst (λ (x : ArcTable). WritesFewFor x s.graph removed p row found found') from_table h

  pub from_cells : (removed : List Arc) (p : ℕ) (row row' : List Cell) → LeavesFor (table s) s.graph removed p row row' → LeavesFor (table_of s.graph) s.graph removed p row row'
  from_cells removed p row row' h = subst (λ (x : ArcTable). LeavesFor x s.graph removed p row row') from_table h

  -- the other way round
  module _ (t : Searched) (is : t ≡ record { graph = s.graph; values = s.values; side = opposite s.side }) where
    pub back_nodes : nodes t ≡ nodes s
    back_nodes = ap nodes is

    back_graph : t.graph ≡ s.graph
    back_graph = ap (λ (x : Searched). x.graph) is

    pub back_side : t.side ≡ Towards
    back_side = ap (λ (x : Searched). x.side) is ∙ ap opposite outward

    back_table : table t ≡ reversed_table (table_of s.graph)
    back_table = ap table is ∙ ap (λ (d : Side). facing (opposite d) s.graph) outward

    pub back_row : (p : ℕ) (cells : List Cell) → IsRow (nodes t) (table t) p (cells_of cells) → IsRow (length s.graph.nodes) (reversed_table (table_of s.graph)) p (cells_of cells)
    back_row p cells r = subst (λ (n : ℕ). IsRow n (reversed_table (table_of s.graph)) p (cells_of cells)) back_nodes (subst (λ (x : ArcTable). IsRow (nodes t) x p (cells_of cells)) back_table r)

    pub back_before : (arc p : ℕ) (cells : List Cell) → IsRow (length s.graph.nodes) (reversed_table (without (table_of s.graph) arc)) p (cells_of cells) → IsRow (nodes t) (without (table t) arc) p (cells_of cells)
    back_before arc p cells r =
        subst (λ (x : ArcTable). IsRow (nodes t) (without x arc) p (cells_of cells)) (sym back_table)
        (subst (λ (n : ℕ). IsRow n (reversed_table (without (table_of s.graph) arc)) p (cells_of cells)) (sym back_nodes) r)

    pub back_force : (arc : ℕ) → (table s).in_force arc ≡ true → (table t).in_force arc ≡ true
    back_force arc f =
        let forced : (table_of s.graph).in_force arc ≡ true = subst (λ (x : ArcTable). x.in_force arc ≡ true) from_table f in
        subst (λ (x : ArcTable). x.in_force arc ≡ true) (sym back_table) forced

    pub back_cost : (a b : ℕ) (was cells : List Cell) → b ≤ a + steps_of_changes (lists t) was cells + 1 → b ≤ a + steps_of_changes s.graph.arriving was cells + 1
    back_cost a b was cells h =
        subst (λ (ls : List (List ℕ)). b ≤ a + steps_of_changes ls was cells + 1) (ap lists is ∙ ap (λ (d : Side). followed (opposite d) s.graph) outward) h

    pub back_withdrawn : (before : GraphLists) (removed removed' : List Arc) → removed' ≡ removed → AreWithdrawn before removed s.graph → AreWithdrawn before removed' t.graph
    back_withdrawn before removed removed' same w =
        subst (λ (rs : List Arc). AreWithdrawn before rs t.graph) (sym same) (subst (λ (h : GraphLists). AreWithdrawn before removed h) (sym back_graph) w)

    pub back_few : (removed removed' : List Arc) (p : ℕ) (row : List Cell) (before after : ℕ) → removed' ≡ removed → TakesFewFor (table t) t.graph removed' p row before after
        → TakesFewFor (reversed_table (table_of s.graph)) s.graph removed p row before after
    back_few removed removed' p row before after same h =
        subst (λ (rs : List Arc). TakesFewFor (reversed_table (table_of s.graph)) s.graph rs p row before after) same
        (subst (λ (g : GraphLists). TakesFewFor (reversed_table (table_of s.graph)) g removed' p row before after) back_graph
        (subst (λ (x : ArcTable). TakesFewFor x t.graph removed' p row before after) back_table h))

    pub back_places : (removed removed' : List Arc) (p : ℕ) (row : List Cell) (found found' : List ℕ) → removed' ≡ removed → WritesFewFor (table t) t.graph removed' p row found found'
        → WritesFewFor (reversed_table (table_of s.graph)) s.graph removed p row found found'
    back_places removed removed' p row found found' same h =
        subst (λ (rs : List Arc). WritesFewFor (reversed_table (table_of s.graph)) s.graph rs p row found found') same
        (subst (λ (g : GraphLists). WritesFewFor (reversed_table (table_of s.graph)) g removed' p row found found') back_graph
        (subst (λ (x : ArcTable). WritesFewFor x t.graph removed' p row found found') back_table h))

    pub back_cells : (removed removed' : List Arc) (p : ℕ) (row row' : List Cell) → removed' ≡ removed → LeavesFor (table t) t.graph removed' p row row'
        → LeavesFor (reversed_table (table_of s.graph)) s.graph removed p row row'
    back_cells removed removed' p row row' same h =
        subst (λ (rs : List Arc). LeavesFor (reversed_table (table_of s.graph)) s.graph rs p row row') same
        (subst (λ (g : GraphLists). LeavesFor (reversed_table (table_of s.graph)) g removed' p row row') back_graph
        (subst (λ (x : ArcTable). LeavesFor x t.graph removed' p row row') back_table h))
