-- The two rows of a slot that are written one after the other.
use Rattle.std.proofs.Common.{◌≡◌, ◌≢◌, ℕ, ◌+◌, ◌<◌, ◌≤◌, arith, Bool, false, List, [], ◌∷◌, length, refl, sym, ap, subst, inl, inr, ◌∙◌, length-set, get_or-set_same}
use Rattle.std.proofs.lemmas.List.Elements.{All-head}
use Rattle.row_pool.specs.declared.cell.Cell.{Cell}
use Rattle.row_pool.specs.Pool.{PoolRow, Pool, IsPool, row_at, row_of, IsTakenRow, written_pool, with_cells}
use Rattle.row_pool.proofs.Pools.{written_row, with_cells_lawful, own_cells, other_cells, below_rows}
use Rattle.repair.specs.declared.slot.Slot.{Slot}
use Rattle.repair.specs.Slots.{HasRows, IsRowsOf, ChangesRowsOf}
use Rattle.repair.specs.Renewals.{insertion_steps}
use Rattle.repair.specs.Withdrawals.{LeavesCells}
use Rattle.problem_model.specs.Parents.{IsRow}
use Rattle.problem_model.specs.Tables.{ArcTable, reversed_table}
use Rattle.sync_graph.specs.Graph.{GraphLists}
use Rattle.row_pool.specs.Row.{cell_at, cells_of}
use Rattle.distances.specs.Changes.{AreBlank, steps_of_changes}
use Rattle.std.proofs.lemmas.Bool.{cases_eq}

few_more : (before between after a b x y : ℕ) → between ≤ before + a + 1 → after ≤ between + b + 1 → a ≡ x → b ≡ y → after ≤ before + (x + y + 4)
few_more before between after a b x y h k p q = omega arith

-- whether a row is taken is not changed
with_cells_taken : (pool : Pool) (number k : ℕ) (cells : List Cell) → number < length pool.rows → (row_at (with_cells pool number cells) k).taken ≡ (row_at pool k).taken
with_cells_taken pool number k cells below =
    let new : PoolRow = record { taken = (row_at pool number).taken; cells = cells } in
    let none : PoolRow = record { taken = false; cells = [] } in
    elim (cases_eq k number) [
      | inl same ↦
          ap (λ (j : ℕ). (row_at (with_cells pool number cells) j).taken) same
          ∙ ap (λ (r : PoolRow). r.taken) (get_or-set_same pool.rows number new none below)
          ∙ ap (λ (j : ℕ). (row_at pool j).taken) (sym same)
      | inr differ ↦ ap (λ (r : PoolRow). r.taken) (other_cells pool number k cells differ)
    ]

module _ (pool : Pool) (slot : Slot) (lawful : IsPool pool) (has : HasRows pool slot) (one : List Cell) (wide : length one ≡ pool.width) where
  abbrev first : Pool
  first = written_pool pool slot.from one

  below_from : slot.from < length pool.rows
  below_from = below_rows pool slot.from has.from

  is_first : first ≡ with_cells pool slot.from one
  is_first = written_row pool slot.from one lawful below_from wide

  lawful_first : IsPool first
  lawful_first = subst IsPool (sym is_first) (with_cells_lawful pool slot.from one lawful wide)

  pub taken_still : IsTakenRow first slot.to
  taken_still = ap (λ (x : Pool). (row_at x slot.to).taken) is_first ∙ ap (λ (r : PoolRow). r.taken) (other_cells pool slot.from slot.to one (λ e. has.two (sym e))) ∙ has.to

  pub other_still : row_of first slot.to ≡ row_of pool slot.to
  other_still = ap (λ (x : Pool). row_of x slot.to) is_first ∙ ap (λ (r : PoolRow). r.cells) (other_cells pool slot.from slot.to one (λ e. has.two (sym e)))

  module _ (two : List Cell) (wide' : length two ≡ pool.width) where
    in_between : slot.to < length (with_cells pool slot.from one).rows
    in_between = subst (λ (n : ℕ). slot.to < n) (sym (length-set pool.rows slot.from (record { taken = (row_at pool slot.from).taken; cells = one }))) (below_rows pool slot.to has.to)

    abbrev last : Pool
    last = written_pool first slot.to two

    below_to : slot.to < length first.rows
    below_to = below_rows first slot.to taken_still

    is_last : last ≡ with_cells (with_cells pool slot.from one) slot.to two
    is_last = written_row first slot.to two lawful_first below_to wide' ∙ ap (λ (x : Pool). with_cells x slot.to two) is_first

    pub from_is : row_of last slot.from ≡ one
    from_is =
        ap (λ (x : Pool). row_of x slot.from) is_last
        ∙ ap (λ (r : PoolRow). r.cells) (other_cells (with_cells pool slot.from one) slot.to slot.from two has.two)
        ∙ own_cells pool slot.from one below_from

    pub to_is : row_of last slot.to ≡ two
    to_is =
        ap (λ (x : Pool). row_of x slot.to) is_last
        ∙ own_cells (with_cells pool slot.from one) slot.to two in_between

    pub changes_both : ChangesRowsOf (slot ∷ []) pool last
    changes_both = record {
      width = refl;
      count = ap (λ (x : Pool). length x.rows) is_last ∙ length-set (with_cells pool slot.from one).rows slot.to _ ∙ length-set pool.rows slot.from _;
      taken = λ k. ap (λ (x : Pool). (row_at x k).taken) is_last
          ∙ with_cells_taken (with_cells pool slot.from one) slot.to k two in_between
          ∙ with_cells_taken pool slot.from k one below_from;
      others = λ k misses.
          let m = All-head (λ (s : Slot). (s.from ≢ k) × (s.to ≢ k)) slot [] misses in
          ap (λ (x : Pool). row_of x k) is_last
          ∙ ap (λ (r : PoolRow). r.cells) (other_cells (with_cells pool slot.from one) slot.to k two (λ e. m.1 (sym e)) ∙ other_cells pool slot.from k one (λ e. m.0 (sym e)));
    }

    -- what was written are the rows of the slot
    pub made_rows : (nodes : ℕ) (table : ArcTable) → IsRow nodes table slot.node (cells_of one) → AreBlank one → IsRow nodes (reversed_table table) slot.node (cells_of two) → AreBlank two → IsRowsOf nodes table last slot
    made_rows nodes table r b r' b' = record {
      from = subst (λ (cs : List Cell). IsRow nodes table slot.node (cells_of cs)) (sym from_is) r;
      to = subst (λ (cs : List Cell). IsRow nodes (reversed_table table) slot.node (cells_of cs)) (sym to_is) r';
      blank_from = subst AreBlank (sym from_is) b;
      blank_to = subst AreBlank (sym to_is) b';
    }

    -- the cells that neither changes
    pub leaves_both : (marks : ℕ → ℕ → Bool) (was was' : List Cell) → was ≡ row_of pool slot.from → was' ≡ row_of pool slot.to
        → ((k : ℕ) → marks slot.from k ≡ false → cell_at one k ≡ cell_at was k) → ((k : ℕ) → marks slot.to k ≡ false → cell_at two k ≡ cell_at was' k)
        → LeavesCells marks pool last slot
    leaves_both marks was was' e e' h h' = record {
      from = λ k free. ap (λ (cs : List Cell). cell_at cs k) from_is ∙ h k free ∙ ap (λ (cs : List Cell). cell_at cs k) e;
      to = λ k free. ap (λ (cs : List Cell). cell_at cs k) to_is ∙ h' k free ∙ ap (λ (cs : List Cell). cell_at cs k) e';
    }

    -- the steps of both rows
    pub few_steps : (g : GraphLists) (before between after : ℕ) (was was' : List Cell) → was ≡ row_of pool slot.from → was' ≡ row_of first slot.to
        → between ≤ before + steps_of_changes g.leaving was one + 1 → after ≤ between + steps_of_changes g.arriving was' two + 1
        → after ≤ before + insertion_steps g pool last slot
    few_steps g before between after was was' e e' h h' =
        let a : steps_of_changes g.leaving was one ≡ steps_of_changes g.leaving (row_of pool slot.from) (row_of last slot.from) =
        ap (λ (cs : List Cell). steps_of_changes g.leaving cs one) e ∙ ap (steps_of_changes g.leaving (row_of pool slot.from)) (sym from_is) in
        let b : steps_of_changes g.arriving was' two ≡ steps_of_changes g.arriving (row_of pool slot.to) (row_of last slot.to) =
        ap (λ (cs : List Cell). steps_of_changes g.arriving cs two) (e' ∙ other_still) ∙ ap (steps_of_changes g.arriving (row_of pool slot.to)) (sym to_is) in
        few_more before between after _ _ _ _ h h' a b
