-- Kept rows of a graph or in a pool that has grown.
use Rattle.std.proofs.Common.{◌≡◌, ℕ, ◌+◌, ◌-◌, ◌<◌, List, [], ◌∷◌, ◌++◌, length, max, replicate, get_or, inl, inr, refl, sym, ap, subst, ◌∙◌, arith}
use Rattle.std.proofs.lemmas.Bool.{cases_lt}
use Rattle.std.proofs.lemmas.List.{length_push, get_or_append_left, get_or_past, get_or-append_right, get_or-replicate, length-replicate}
use Rattle.std.proofs.lemmas.List.Elements.{All-weaker}
use Rattle.problem_model.specs.declared.items.Node.{Node}
use Rattle.problem_model.specs.Parents.{Cells, IsRow}
use Rattle.problem_model.specs.Tables.{ArcTable, reversed_table, without}
use Rattle.problem_model.proofs.Parents.{row_grown}
use Rattle.sync_graph.specs.declared.arc.Arc.{Arc}
use Rattle.sync_graph.specs.Graph.{GraphLists, IsGraph, table_of, with_node, with_arc}
use Rattle.row_pool.specs.declared.cell.Cell.{Cell}
use Rattle.row_pool.specs.Row.{unknown, cell_at, cells_of}
use Rattle.row_pool.specs.Pool.{PoolRow, Pool, row_of, grown}
use Rattle.row_pool.proofs.Pools.{below_rows, grown_row, grown_taken}
use Rattle.distances.specs.Changes.{AreBlank}
use Rattle.distances.proofs.Pushed.{row_from_pushed, row_to_pushed}
use Rattle.repair.specs.declared.slot.Slot.{Slot}
use Rattle.repair.specs.Slots.{KeptRows, all_slots, HasRows, AreOwnRows, IsRowsOf, AreRowsOf, AreRowsBut}

pub rows_with_node : (g : GraphLists) (n : Node) (kept : KeptRows) (pool : Pool) → AreRowsOf g kept pool → AreRowsOf (with_node g n) kept pool
rows_with_node g n kept pool rows =
    let longer : length g.nodes + 1 ≡ length (g.nodes ++ n ∷ []) = sym (length_push g.nodes n) in
    All-weaker (IsRowsOf (length g.nodes) (table_of g) pool) (IsRowsOf (length (g.nodes ++ n ∷ [])) (table_of g) pool)
    (λ slot is. record {
      from = subst (λ (m : ℕ). IsRow m (table_of g) slot.node (cells_of (row_of pool slot.from))) longer (row_grown (length g.nodes) (table_of g) slot.node (cells_of (row_of pool slot.from)) is.from);
      to = subst (λ (m : ℕ). IsRow m (reversed_table (table_of g)) slot.node (cells_of (row_of pool slot.to))) longer
          (row_grown (length g.nodes) (reversed_table (table_of g)) slot.node (cells_of (row_of pool slot.to)) is.to);
      blank_from = is.blank_from;
      blank_to = is.blank_to;
    }) (all_slots kept) rows

pub rows_with_arc : (g : GraphLists) (a : Arc) (kept : KeptRows) (pool : Pool) → IsGraph g → AreRowsOf g kept pool → AreRowsBut (with_arc g a) (length g.arcs) kept pool
rows_with_arc g a kept pool is rows =
    All-weaker (IsRowsOf (length g.nodes) (table_of g) pool) (IsRowsOf (length g.nodes) (without (table_of (with_arc g a)) (length g.arcs)) pool)
    (λ slot r. record {
      from = row_from_pushed g (with_arc g a) a (length g.arcs) slot.node (cells_of (row_of pool slot.from)) is.flags refl refl r.from;
      to = row_to_pushed g (with_arc g a) a (length g.arcs) slot.node (cells_of (row_of pool slot.to)) is.flags refl refl r.to;
      blank_from = r.blank_from;
      blank_to = r.blank_to;
    }) (all_slots kept) rows

-- unknown cells behind a row change nothing that it says
cell_still : (row : List Cell) (n k : ℕ) → cell_at (row ++ replicate n unknown) k ≡ cell_at row k
cell_still row n k = elim (cases_lt k (length row)) [
  | inl below ↦ get_or_append_left row (replicate n unknown) unknown k below
  | inr beyond ↦
      get_or-append_right row (replicate n unknown) (length row) k unknown refl beyond
      ∙ blank (k - length row) ∙ sym (get_or_past row k unknown beyond)
]
  where
    blank : (j : ℕ) → get_or (replicate n unknown) j unknown ≡ unknown
    blank j = elim (cases_lt j n) [
      | inl below ↦ get_or-replicate n j unknown unknown below
      | inr beyond ↦ get_or_past (replicate n unknown) j unknown (let long : length (replicate n unknown) ≡ n = length-replicate n unknown in omega arith)
    ]

-- what a row says of all nodes
cells_still : (row : List Cell) (n : ℕ) → cells_of (row ++ replicate n unknown) ≡ cells_of row
cells_still row n = λ i. record { known = λ k. (cell_still row n k i).known; value = λ k. (cell_still row n k i).value; parent = λ k. (cell_still row n k i).parent }

blank_still : (row : List Cell) (n : ℕ) → AreBlank row → AreBlank (row ++ replicate n unknown)
blank_still row n blank k known = cell_still row n k ∙ blank k (ap (λ (c : Cell). c.known) (sym (cell_still row n k)) ∙ known)

pub own_in_grown : (kept : KeptRows) (pool : Pool) (count nodes : ℕ) → AreOwnRows kept pool → AreOwnRows kept (grown pool count nodes)
own_in_grown kept pool count nodes own = record {
  taken = All-weaker (HasRows pool) (HasRows (grown pool count nodes))
      (λ slot has. record { from = grown_taken pool count nodes slot.from has.from; to = grown_taken pool count nodes slot.to has.to; two = has.two }) (all_slots kept) own.taken;
  apart = own.apart;
}

row_in_grown : (pool : Pool) (count nodes number : ℕ) → number < length pool.rows
    → row_of (grown pool count nodes) number ≡ row_of pool number ++ replicate (max pool.width nodes - length (row_of pool number)) unknown
row_in_grown pool count nodes number below = ap (λ (r : PoolRow). r.cells) (grown_row pool count nodes number below)

is_in_grown : (n : ℕ) (table : ArcTable) (pool : Pool) (count nodes : ℕ) (slot : Slot) → HasRows pool slot → IsRowsOf n table pool slot → IsRowsOf n table (grown pool count nodes) slot
is_in_grown n table pool count nodes slot has is =
    let from : List Cell = row_of pool slot.from in
    let to : List Cell = row_of pool slot.to in
    let m : ℕ = max pool.width nodes - length from in
    let l : ℕ = max pool.width nodes - length to in
    let from_is : row_of (grown pool count nodes) slot.from ≡ from ++ replicate m unknown = row_in_grown pool count nodes slot.from (below_rows pool slot.from has.from) in
    let to_is : row_of (grown pool count nodes) slot.to ≡ to ++ replicate l unknown = row_in_grown pool count nodes slot.to (below_rows pool slot.to has.to) in
    record {
      from = subst (λ (c : Cells). IsRow n table slot.node c) (sym (ap cells_of from_is ∙ cells_still from m)) is.from;
      to = subst (λ (c : Cells). IsRow n (reversed_table table) slot.node c) (sym (ap cells_of to_is ∙ cells_still to l)) is.to;
      blank_from = subst AreBlank (sym from_is) (blank_still from m is.blank_from);
      blank_to = subst AreBlank (sym to_is) (blank_still to l is.blank_to);
    }

pub rows_in_grown : (g : GraphLists) (kept : KeptRows) (pool : Pool) (count nodes : ℕ) → AreOwnRows kept pool → AreRowsOf g kept pool → AreRowsOf g kept (grown pool count nodes)
rows_in_grown g kept pool count nodes own rows k d below =
    is_in_grown (length g.nodes) (table_of g) pool count nodes (get_or (all_slots kept) k d) (own.taken k d below) (rows k d below)
