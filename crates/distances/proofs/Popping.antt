-- A node is taken, and the end.
use Rattle.std.proofs.Common.{◌≡◌, ℕ, ◌+◌, ◌-◌, ◌*◌, ◌^◌, ◌<◌, ◌≤◌, Bool, true, false, List, length, set, length-set, ap, sym, ◌∙◌, arith, inl, inr}
use Rattle.std.specs.Prelude.{ℤ, pos, ◌-ℤ◌, ◌≤ℤ◌, ◌≢◌, Option, None}
use Rattle.std.proofs.lemmas.Int.{ints}
use Rattle.std.proofs.lemmas.Bool.{cases_lt}
use Rattle.row_pool.specs.declared.cell.Cell.{Cell}
use Rattle.problem_model.specs.Numbers.{IsUpTo}
use Rattle.problem_model.specs.Parents.{Cells, LeadsBack, IsRow}
use Rattle.problem_model.specs.RowPops.{IsRowStep, IsUnderWay}
use Rattle.problem_model.specs.Sums.{done_sum, changed_sum}
use Rattle.problem_model.specs.Tables.{ArcTable}
use Rattle.problem_model.specs.Limits.{path_bits}
use Rattle.problem_model.proofs.RowsUnderWay.{under_way_step, under_way_cost, under_way_fewer, under_way_row, under_way_paid, under_way_bounds}
use Rattle.frontier.specs.Keys.{Waits, IsEmpty, IsLeastEntry}
use Rattle.problem_model.proofs.Heights.{height_low}
use Rattle.row_pool.specs.Row.{cell_at, cells_of}
use Rattle.distances.specs.Searched.{Searched, IsSearch, IsOpenRow, nodes, table, height}
use Rattle.distances.specs.Relaxed.{waits_of, AreKeyed}
use Rattle.distances.specs.Changes.{AreBlank}
use Rattle.distances.proofs.Directions.{facing_within, facing_light, potential_small}
use Rattle.distances.proofs.Searching.{search_small, search_obeyed}
use Rattle.distances.proofs.Puts.{waits_true, none_waits, least_reduced, taken_others, taken_keyed}

-- a step over what waits without the node is one over what waited with it
with_node : (table : ArcTable) (node : ℕ) (c c' : Cells) (waits waits1 waits' : ℕ → Bool)
    → IsRowStep table node c c' waits1 waits' → ((k : ℕ) → k ≢ node → waits1 k ≡ waits k)
    → IsRowStep table node c c' waits waits'
with_node table node c c' waits waits1 waits' s w = record {
  each = λ k. elim (s.each k) [
    | inl q ↦ inl (record { known = q.known; value = q.value; parent = q.parent; waiting = elim q.waiting [ inl v ↦ inl v | inr v ↦ inr (v.0, v.1 ∙ w k v.0) ] })
    | inr n ↦ inr n
  ];
  met = s.met;
}

between_small : (v a b : ℤ) (n : ℕ) → IsUpTo path_bits a → IsUpTo path_bits b → (a -ℤ b) ≤ℤ v → v ≤ℤ pos (2 ^ (path_bits + 2) + n) → n ≤ 2 ^ path_bits → IsUpTo (path_bits + 3) v
between_small v a b n ua ub l h m = (omega (arith, ints, ua.0, ub.1), omega (arith, ints))

-- a cell is its three parts
made : ℤ → ℕ → Bool → Cell
made v p k = record { value = v; parent = p; known = k }

cell_same : (a b : Cell) → a.value ≡ b.value → a.parent ≡ b.parent → a.known ≡ b.known → a ≡ b
unfolding made
cell_same a b ev ep ek = ap (λ v. made v a.parent a.known) ev ∙ ap (λ p. made b.value p a.known) ep ∙ ap (λ k. made b.value b.parent k) ek

-- where a node is taken out, the others wait as before
pub taken_open : (s : Searched) (row : List Cell) (front front' : List (Option ℤ)) (node : ℕ) (key : ℤ)
    → Waits front node key → front' ≡ set front node None → IsOpenRow s row front → IsOpenRow s row front'
taken_open s row front front' node key was e o = record {
  cells = o.cells;
  room = (let l : length front' ≡ length front = ap length e ∙ length-set front node None in omega (arith, o.room));
  keyed = taken_keyed front front' node key was e (height s) row o.keyed;
}

module _ (s : Searched) (ok : IsSearch s) (p : ℕ) (old row : List Cell) (front : List (Option ℤ)) (node : ℕ) (key : ℤ)
    (u : IsUnderWay (nodes s) (table s) p (height s) (2 ^ (path_bits + 2)) (2 ^ 93) (cells_of old) (cells_of row) (waits_of front))
    (keyed : AreKeyed (height s) front row)
    (least : IsLeastEntry front node key)
  where
    popped_known : (cell_at row node).known ≡ true
    popped_known = (keyed node key least.waits).0

    pub popped_within : node < nodes s
    popped_within = elim (cases_lt node (nodes s)) [
      | inl l ↦ l
      | inr l ↦ absurd (let t : (cell_at row node).known ≡ true = popped_known in let f : (cell_at row node).known ≡ false = u.past node l in let z : ⊥ = cc in z)
    ]

    pub popped_small : IsUpTo (path_bits + 3) (cell_at row node).value
    popped_small =
        let b : ((height s node -ℤ height s p) ≤ℤ (cell_at row node).value) × ((cell_at row node).value ≤ℤ pos (2 ^ (path_bits + 2) + nodes s * 2 ^ 93)) =
        under_way_bounds (nodes s) (table s) p (height s) (2 ^ (path_bits + 2)) (2 ^ 93) (cells_of old) (cells_of row) (waits_of front) u (search_obeyed s ok) node popped_known in
        between_small (cell_at row node).value (height s node) (height s p) (nodes s * 2 ^ 93)
        (potential_small s.side s.values (search_small s ok) node) (potential_small s.side s.values (search_small s ok) p) b.0 b.1 (height_low (nodes s) ok.graph.node_limit)

    module _ (front1 : List (Option ℤ)) (row2 : List Cell) (front2 : List (Option ℤ))
        (taken : front1 ≡ set front node None)
        (step : IsRowStep (table s) node (cells_of row) (cells_of row2) (waits_of front1) (waits_of front2))
      where
        stepped : IsRowStep (table s) node (cells_of row) (cells_of row2) (waits_of front) (waits_of front2)
        stepped = with_node (table s) node (cells_of row) (cells_of row2) (waits_of front) (waits_of front1) (waits_of front2) step
            (taken_others front front1 node key least.waits taken)

        pub under_way_more : IsUnderWay (nodes s) (table s) p (height s) (2 ^ (path_bits + 2)) (2 ^ 93) (cells_of old) (cells_of row2) (waits_of front2)
        under_way_more = under_way_step (nodes s) (table s) p (height s) (2 ^ (path_bits + 2)) (2 ^ 93) (cells_of old) (cells_of row) (cells_of row2) (waits_of front) (waits_of front2) node
            u (search_obeyed s ok) (facing_light s.side s.graph ok.graph) (facing_within s.side s.graph ok.graph) (waits_true front node key least.waits) (least_reduced (height s) row front node key keyed least) stepped popped_within

        pub fewer_left : (nodes s - done_sum (nodes s) (λ _. 1) (cells_of old) (cells_of row2) (waits_of front2)) < (nodes s - done_sum (nodes s) (λ _. 1) (cells_of old) (cells_of row) (waits_of front))
        fewer_left = under_way_fewer (nodes s) (table s) p (height s) (2 ^ (path_bits + 2)) (2 ^ 93) (cells_of old) (cells_of row) (cells_of row2) (waits_of front) (waits_of front2) node
            u (search_obeyed s ok) (facing_light s.side s.graph ok.graph) (facing_within s.side s.graph ok.graph) (waits_true front node key least.waits) (least_reduced (height s) row front node key keyed least) stepped popped_within

        pub paid_more : (each : ℕ → ℕ) → done_sum (nodes s) each (cells_of old) (cells_of row2) (waits_of front2) ≡ done_sum (nodes s) each (cells_of old) (cells_of row) (waits_of front) + each node
        paid_more = under_way_cost (nodes s) (table s) p (height s) (2 ^ (path_bits + 2)) (2 ^ 93) (cells_of old) (cells_of row) (cells_of row2) (waits_of front) (waits_of front2) node
            u (search_obeyed s ok) (facing_light s.side s.graph ok.graph) (facing_within s.side s.graph ok.graph) (waits_true front node key least.waits) (least_reduced (height s) row front node key keyed least) stepped popped_within

-- where none waits the cells are the row, and all changed nodes are paid
module _ (nodes : ℕ) (table : ArcTable) (p : ℕ) (e : ℕ → ℤ) (old row : List Cell) (front : List (Option ℤ))
    (u : IsUnderWay nodes table p e (2 ^ (path_bits + 2)) (2 ^ 93) (cells_of old) (cells_of row) (waits_of front))
  where
    pub none_left : ((k : ℕ) → (cell_at old k).known ≡ true → (n : ℕ) × LeadsBack table p (cells_of old) n k) → IsEmpty front → IsRow nodes table p (cells_of row)
    none_left chains none = under_way_row nodes table p e (2 ^ (path_bits + 2)) (2 ^ 93) (cells_of old) (cells_of row) (waits_of front) u (none_waits front none) chains

    -- cells that are not known are as they were
    pub blank_kept : AreBlank old → AreBlank row
    blank_kept b k f = elim (u.relaxing.each k) [
      | inl t ↦ cell_same (cell_at row k) (cell_at old k) t.value t.parent t.known ∙ b k (sym t.known ∙ f)
      | inr t ↦ absurd (let y : (cell_at row k).known ≡ true = t.known in let z : ⊥ = cc in z)
    ]

pub all_paid : (nodes : ℕ) (each : ℕ → ℕ) (old row : List Cell) (front : List (Option ℤ)) → IsEmpty front
    → done_sum nodes each (cells_of old) (cells_of row) (waits_of front) ≡ changed_sum nodes each (cells_of old) (cells_of row)
all_paid nodes each old row front none = under_way_paid nodes each (cells_of old) (cells_of row) (waits_of front) (none_waits front none)
