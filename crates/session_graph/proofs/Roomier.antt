-- An addition for which room was made first.
use Rattle.std.proofs.Common.{◌≡◌, ◌≤◌, ◌+◌, ◌-◌, ◌*◌, ℕ, Bool, List, ◌++◌, length, get_or, replicate, max, All, refl, sym, ◌∙◌, ap, subst, arith, inl, inr}
use Rattle.std.specs.Prelude.{sum_by, Contains}
use Rattle.std.proofs.lemmas.Bool.{cases_lt}
use Rattle.std.proofs.lemmas.List.{get_or_append_left, get_or-append_right, get_or-replicate, get_or_past, length-replicate}
use Rattle.problem_model.specs.Parents.{Cells}
use Rattle.problem_model.specs.Tables.{reversed_table}
use Rattle.withdrawals.specs.Regrowths.{IsAffectedIn}
use Rattle.sync_graph.specs.declared.arc.Arc.{Arc}
use Rattle.sync_graph.specs.Graph.{GraphLists, table_of, arc_at}
use Rattle.earliest.specs.Values.{Values}
use Rattle.earliest.specs.Withdrawn.{IsAffectedBy}
use Rattle.row_pool.specs.declared.cell.Cell.{Cell}
use Rattle.row_pool.specs.Row.{unknown, cell_at, cells_of}
use Rattle.row_pool.specs.Pool.{Pool, PoolRow, row_of, IsTakenRow}
use Rattle.row_pool.proofs.Pools.{below_rows, grown_row}
use Rattle.repair.specs.RowWithdrawals.{IsRemoved}
use Rattle.repair.specs.declared.slot.Slot.{Slot}
use Rattle.repair.specs.Slots.{KeptRows, all_slots, HasRows, AreOwnRows}
use Rattle.repair.specs.Withdrawals.{MarksAffected, steps_of_marked, withdrawal_steps}
use Rattle.solver.specs.Solver.{SolverLists}
use Rattle.roster.specs.Once.{IsOn}
use Rattle.session_graph.specs.Steps.{IsBetween, IsSumOfMarked, IsWithdrawingPart, TakesFewToAdd}
use Rattle.session_graph.specs.Cuts.{IsRoomier}

-- unknown cells behind a row say nothing
cell_still : (row : List Cell) (n k : ℕ) → cell_at (row ++ replicate n unknown) k ≡ cell_at row k
cell_still row n k = elim (cases_lt k (length row)) [
  | inl inside ↦ get_or_append_left row (replicate n unknown) unknown k inside
  | inr past ↦ get_or-append_right row (replicate n unknown) (length row) k unknown refl past ∙ behind (k - length row) ∙ sym (get_or_past row k unknown past)
]
  where
    behind : (i : ℕ) → get_or (replicate n unknown) i unknown ≡ unknown
    behind i = elim (cases_lt i n) [
      | inl inside ↦ get_or-replicate n i unknown unknown inside
      | inr past ↦ get_or_past (replicate n unknown) i unknown (omega (arith, past, length-replicate n unknown))
    ]

cells_still : (row : List Cell) (n : ℕ) → cells_of (row ++ replicate n unknown) ≡ cells_of row
cells_still row n = λ i. record { known = λ k. (cell_still row n k i).known; value = λ k. (cell_still row n k i).value; parent = λ k. (cell_still row n k i).parent }

module _ (before start : SolverLists) (own : AreOwnRows before.kept before.pool) (more : IsRoomier before start) where
  slots_kept : all_slots start.kept ≡ all_slots before.kept
  slots_kept = ap all_slots more.kept

  cells_kept : (number : ℕ) → IsTakenRow before.pool number → cells_of (row_of start.pool number) ≡ cells_of (row_of before.pool number)
  cells_kept number taken =
      ap (λ (p : Pool). cells_of (row_of p number)) more.pool
      ∙ ap (λ (r : PoolRow). cells_of r.cells) (grown_row before.pool more.rows more.nodes number (below_rows before.pool number taken))
      ∙ cells_still (row_of before.pool number) (max before.pool.width more.nodes - length (row_of before.pool number))

  module _ (after between : SolverLists) where
    slot_kept : (removed : List Arc) (marks : ℕ → ℕ → Bool) (slot : Slot) → HasRows before.pool slot → MarksAffected between.graph removed before.pool marks slot → MarksAffected between.graph removed start.pool marks slot
    slot_kept removed marks slot has m = record {
      from = λ k affected. m.from k (subst (λ (c : Cells). IsAffectedIn (table_of between.graph) (IsRemoved between.graph removed) slot.node c k) (cells_kept slot.from has.from) affected);
      to = λ k affected. m.to k (subst (λ (c : Cells). IsAffectedIn (reversed_table (table_of between.graph)) (IsRemoved between.graph removed) slot.node c k) (cells_kept slot.to has.to) affected);
    }

    sum_kept : (part : ℕ) → IsSumOfMarked before after between part → IsSumOfMarked start after between part
    sum_kept part is = record {
      removed = is.removed;
      marked = is.marked;
      marks = is.marks;
      gone = record {
        gone = λ a among. subst (λ (g : GraphLists). (k : ℕ) × IsOn g k × (IsOn after.graph k → ⊥) × (arc_at g.arcs k ≡ a)) (sym more.answer.graph) (is.gone.gone a among);
        all = subst (λ (g : GraphLists). (k : ℕ) → IsOn g k → (IsOn after.graph k → ⊥) → Contains is.removed (arc_at g.arcs k)) (sym more.answer.graph) is.gone.all;
      };
      all = record {
        values = λ k affected. is.all.values k (subst (λ (v : Values). IsAffectedBy between.graph is.removed v.values k) more.answer.earliest affected);
        rows = subst (All (MarksAffected between.graph is.removed start.pool is.marks)) (sym slots_kept)
            (λ k d inside. slot_kept is.removed is.marks (get_or (all_slots before.kept) k d) (own.taken k d inside) (is.all.rows k d inside));
      };
      sum = is.sum ∙ ap (λ (slots : List Slot). steps_of_marked between.graph is.marked + sum_by (withdrawal_steps between.graph is.marks) slots) (sym slots_kept);
    }

    part_kept : (part : ℕ) → IsWithdrawingPart before after between part → IsWithdrawingPart start after between part
    part_kept part is = elim is [
      | inl none ↦ inl (subst (λ (g : GraphLists). (k : ℕ) → IsOn g k → IsOn after.graph k) (sym more.answer.graph) none.0, none.1)
      | inr sum ↦ inr (sum_kept part sum)
    ]

    between_kept : IsBetween before after between → IsBetween start after between
    between_kept is = record {
      solved = is.solved;
      nodes = is.nodes ∙ ap (λ (g : GraphLists). g.nodes) (sym more.answer.graph);
      arcs = is.arcs ∙ ap (λ (g : GraphLists). g.arcs) (sym more.answer.graph);
      in_force = subst (λ (g : GraphLists). (k : ℕ) → IsOn between.graph k → IsOn g k × IsOn after.graph k) (sym more.answer.graph) is.in_force;
      all = subst (λ (g : GraphLists). (k : ℕ) → IsOn g k → IsOn after.graph k → IsOn between.graph k) (sym more.answer.graph) is.all;
      slots = is.slots ∙ ap (λ (k : KeptRows). k.slots) (sym more.kept);
      source = is.source ∙ ap (λ (k : KeptRows). k.source) (sym more.kept);
    }

    between_back : IsBetween start after between → IsBetween before after between
    between_back is = record {
      solved = is.solved;
      nodes = is.nodes ∙ ap (λ (g : GraphLists). g.nodes) more.answer.graph;
      arcs = is.arcs ∙ ap (λ (g : GraphLists). g.arcs) more.answer.graph;
      in_force = subst (λ (g : GraphLists). (k : ℕ) → IsOn between.graph k → IsOn g k × IsOn after.graph k) more.answer.graph is.in_force;
      all = subst (λ (g : GraphLists). (k : ℕ) → IsOn g k → IsOn after.graph k → IsOn between.graph k) more.answer.graph is.all;
      slots = is.slots ∙ ap (λ (k : KeptRows). k.slots) more.kept;
      source = is.source ∙ ap (λ (k : KeptRows). k.source) more.kept;
    }

  pub roomier_between : (after : SolverLists) → ((between : SolverLists) × IsBetween start after between) → (between : SolverLists) × IsBetween before after between
  roomier_between after (between, is) = (between, between_back after between is)

  pub roomier_add : (events : ℕ) (after : SolverLists) (first last : ℕ) → TakesFewToAdd events start after first last → TakesFewToAdd events before after first last
  roomier_add events after first last few = λ solved_before solved_after source.
      let adds = few (ap (λ (v : Values). v.is_solved) more.answer.earliest ∙ solved_before) solved_after (source ∙ ap (λ (k : KeptRows). k.source) (sym more.kept)) in
      record {
        start = adds.start;
        is_between = between_back after adds.start adds.is_between;
        stages = adds.stages;
        lead = adds.lead;
        arcs = subst (λ (g : GraphLists). length after.graph.arcs ≤ length g.arcs + 8 * events) more.answer.graph adds.arcs;
        few = λ between part is is_part. adds.few between part (between_kept after between is) (part_kept after between part is_part);
      }
