-- Two rows that are lent, and rows that are given back.
use Rattle.std.proofs.Common.{◌≡◌, ◌≢◌, ◌<◌, ℕ, false, List, [], length, get_or, All, refl, sym, ap, subst, ◌∙◌, arith, length-set}
use Rattle.std.proofs.lemmas.List.Elements.{All-tail}
use Rattle.problem_model.specs.Parents.{IsRow}
use Rattle.problem_model.specs.Tables.{ArcTable, reversed_table}
use Rattle.sync_graph.specs.Graph.{table_of}
use Rattle.distances.specs.Changes.{AreBlank}
use Rattle.row_pool.specs.declared.cell.Cell.{Cell}
use Rattle.row_pool.specs.Row.{cells_of}
use Rattle.row_pool.specs.Pool.{PoolRow, Pool, row_of, IsTakenRow, marked}
use Rattle.row_pool.proofs.Pools.{below_rows}
use Rattle.repair.specs.declared.slot.Slot.{Slot}
use Rattle.repair.specs.Slots.{all_slots, HasRows, HaveOwnRows, AreOwn, IsRowsOf}
use Rattle.repair.specs.Keeping.{TakesRows}
use Rattle.repair.proofs.Slotting.{own_first, rows_first}
use Rattle.repair.proofs.Taking.{apart_of, marked_other}
use Rattle.solver.specs.declared.loan.Lent.{Lent}
use Rattle.solver.specs.Solver.{SolverLists}
use Rattle.solver.specs.Current.{IsCurrent}
use Rattle.solver.specs.Lending.{IsLent}
use Rattle.solver.proofs.Staying.{with_rows, current_with_rows, rows_now}

-- ---- lent
module _ (s : SolverLists) (current : IsCurrent s) (pool : Pool) (front : ℕ) (slot : Slot) (takes : TakesRows s.pool pool slot) where
  pub lent_is : IsLent (record { from = slot.from; to = slot.to }) (with_rows s pool s.kept front)
  lent_is = record {
    from = takes.has.from;
    to = takes.has.to;
    two = takes.has.two;
    apart_from = λ k d below. (
        let apart : HaveOwnRows (get_or (all_slots s.kept) k d) slot = apart_of s.pool pool slot takes (get_or (all_slots s.kept) k d) (current.set_up.own.taken k d below) in
        (apart.from_from, apart.to_from));
    apart_to = λ k d below. (
        let apart : HaveOwnRows (get_or (all_slots s.kept) k d) slot = apart_of s.pool pool slot takes (get_or (all_slots s.kept) k d) (current.set_up.own.taken k d below) in
        (apart.from_to, apart.to_to));
  }

  pub lent_current : IsRowsOf (length s.graph.nodes) (table_of s.graph) pool slot → front ≡ s.front → IsCurrent (with_rows s pool s.kept front)
  lent_current made long =
      current_with_rows s current pool s.kept front
      (record { taken = All-tail (HasRows pool) slot (all_slots s.kept) (own_first s.pool pool slot takes (all_slots s.kept) current.set_up.own).taken; apart = current.set_up.own.apart })
      current.set_up.nodes refl
      (λ solved. All-tail (IsRowsOf (length s.graph.nodes) (table_of s.graph) pool) slot (all_slots s.kept)
      (rows_first s.pool pool slot takes (all_slots s.kept) current.set_up.own (length s.graph.nodes) (table_of s.graph) (rows_now s current solved) made))
      (omega (arith, takes.width)) (omega arith) (omega (arith, long))

-- ---- given back
abbrev none : PoolRow
none = record { taken = false; cells = [] }

module _ (pool : Pool) (k : ℕ) where
  abbrev given : Pool
  given = marked pool k false

  -- rows of slots that have no such row are as they were
  module _ (slots : List Slot) (apart : All (λ (slot : Slot). (slot.from ≢ k) × (slot.to ≢ k)) slots) where
    pub own_given : AreOwn pool slots → AreOwn given slots
    own_given own = record {
      taken = λ i d below. (
          let slot : Slot = get_or slots i d in
          let has : HasRows pool slot = own.taken i d below in
          record {
            from = ap (λ (r : PoolRow). r.taken) (marked_other pool k slot.from false (apart i d below).0) ∙ has.from;
            to = ap (λ (r : PoolRow). r.taken) (marked_other pool k slot.to false (apart i d below).1) ∙ has.to;
            two = has.two;
          });
      apart = own.apart;
    }

    pub rows_given : (nodes : ℕ) (table : ArcTable) → All (IsRowsOf nodes table pool) slots → All (IsRowsOf nodes table given) slots
    rows_given nodes table rows i d below =
        let slot : Slot = get_or slots i d in
        let is : IsRowsOf nodes table pool slot = rows i d below in
        let from : row_of given slot.from ≡ row_of pool slot.from = ap (λ (r : PoolRow). r.cells) (marked_other pool k slot.from false (apart i d below).0) in
        let to : row_of given slot.to ≡ row_of pool slot.to = ap (λ (r : PoolRow). r.cells) (marked_other pool k slot.to false (apart i d below).1) in
        record {
          from = subst (λ (cs : List Cell). IsRow nodes table slot.node (cells_of cs)) (sym from) is.from;
          to = subst (λ (cs : List Cell). IsRow nodes (reversed_table table) slot.node (cells_of cs)) (sym to) is.to;
          blank_from = subst AreBlank (sym from) is.blank_from;
          blank_to = subst AreBlank (sym to) is.blank_to;
        }

  -- one row more is free
  module _ (taken : IsTakenRow pool k) where
    below : k < length pool.rows
    below = below_rows pool k taken

    as_long : length given.rows ≡ length pool.rows
    as_long = length-set pool.rows k (record { taken = false; cells = row_of pool k })

module _ (s : SolverLists) (current : IsCurrent s) (lent : Lent) (is : IsLent lent s) where
  abbrev first : Pool
  first = marked s.pool lent.from false

  abbrev back : Pool
  back = marked first lent.to false

  pub back_current : IsCurrent (with_rows s back s.kept s.front)
  back_current =
      current_with_rows s current back s.kept s.front
      (own_given first lent.to (all_slots s.kept) is.apart_to (own_given s.pool lent.from (all_slots s.kept) is.apart_from current.set_up.own))
      current.set_up.nodes refl
      (λ solved. rows_given first lent.to (all_slots s.kept) is.apart_to (length s.graph.nodes) (table_of s.graph)
      (rows_given s.pool lent.from (all_slots s.kept) is.apart_from (length s.graph.nodes) (table_of s.graph) (rows_now s current solved)))
      (omega arith) (omega arith) (omega arith)
