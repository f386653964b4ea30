-- A row once arcs are withdrawn: the graph before, the cells that are left, and what the repair costs.
use Rattle.std.proofs.Common.{◌≡◌, ℕ, ◌+◌, ◌*◌, ◌^◌, ◌<◌, ◌≤◌, Bool, true, false, List, [], ◌∷◌, ◌++◌, length, get_or, set, refl, ap, sym, ◌∙◌, subst, arith, inl, inr, ◌⊎◌, length-set}
use Rattle.std.specs.Prelude.{ℤ, pos, ◌-ℤ◌, ◌≤ℤ◌, ◌<ℤ◌, ◌≢◌, Option, All, Contains}
use Rattle.std.proofs.lemmas.Int.{ints}
use Rattle.std.proofs.lemmas.Bool.{cases_Bool, cases_eq, cases_lt}
use Rattle.std.proofs.lemmas.List.{get_or-set_same, get_or-set_other, get_or_past}
use Rattle.std.proofs.lemmas.List.Elements.{Contains-append_left, Contains-push}
use Rattle.row_pool.specs.declared.cell.Cell.{Cell}
use Rattle.row_pool.specs.Row.{cell_at, cells_of}
use Rattle.problem_model.specs.Numbers.{IsUpTo}
use Rattle.problem_model.specs.Parents.{Cells, IsRow}
use Rattle.problem_model.specs.Reversal.{reversed}
use Rattle.problem_model.specs.RowPops.{IsUnderWay}
use Rattle.problem_model.specs.Sums.{changed_sum, sum_to}
use Rattle.problem_model.specs.Tables.{ObeysAll, reversed_table}
use Rattle.problem_model.specs.Limits.{path_bits}
use Rattle.problem_model.proofs.Heights.{height_low}
use Rattle.problem_model.proofs.Parents.{row_high}
use Rattle.withdrawals.specs.Withdrawals.{flagged_sum}
use Rattle.withdrawals.proofs.Sums.{flagged_below}
use Rattle.frontier.specs.Keys.{IsEmpty}
use Rattle.sync_graph.specs.declared.arc.Arc.{Arc}
use Rattle.sync_graph.specs.Graph.{GraphLists, IsGraph, IsSound, arc_at, unnamed, table_of, reaching, departing}
use Rattle.earliest.specs.Withdrawn.{found_at}
use Rattle.earliest.proofs.Bounds.{no_arc}
use Rattle.withdrawals.specs.Regrowths.{earlier, IsSameAs, IsAffectedIn, AreMarksIn, IsRemnant}
use Rattle.withdrawals.proofs.Marks.{are_marks_in}
use Rattle.withdrawals.proofs.Remnants.{remnant, open_marked_in, unmarked_in}
use Rattle.withdrawals.proofs.Bounds.{changed_within, unmarked_same, regrowth_cost}
use Rattle.distances.specs.Changes.{steps_at, steps_of_changes}
use Rattle.distances.specs.declared.side.Side.{Side}
use Rattle.distances.specs.declared.side.Side.TheVariants.{From, Towards}
use Rattle.distances.specs.Facing.{opposite, facing, followed, potential}
use Rattle.distances.specs.Relaxed.{waits_of}
use Rattle.distances.proofs.Directions.{facing_weight, facing_listed, potential_small}
use Rattle.distances.proofs.Puts.{none_waits}
use Rattle.repair.specs.RowWithdrawals.{AreWithdrawn, IsRemoved}
use Rattle.repair.specs.Clearings.{IsRowBefore, IsMarkingOf}
use Rattle.repair.specs.Pulling.{onward}

-- ---- the graph before
module _ (before g : GraphLists) (removed : List Arc) (w : AreWithdrawn before removed g) where
  gone_now : (j : ℕ) → get_or before.in_force j false ≡ true → (get_or g.in_force j false ≡ true) ⊎ IsRemoved g removed j
  gone_now j t = elim (w.gone j t) [ inl f ↦ inl f | inr c ↦ inr (subst (λ arcs. Contains removed (arc_at arcs j)) (sym w.arcs) c) ]

  was_below : (j : ℕ) → get_or before.in_force j false ≡ true → j < length g.arcs
  was_below j t = elim (cases_lt j (length g.arcs)) [
    | inl l ↦ l
    | inr l ↦ absurd (let f : get_or before.in_force j false ≡ false = get_or_past before.in_force j false (omega (arith, w.flags, ap length w.arcs)) in let z : ⊥ = cc in z)
  ]

  before_from : (p : ℕ) (c : Cells) → IsRow (length before.nodes) (table_of before) p c → IsRowBefore g From (λ j. get_or before.in_force j false) removed p c
  before_from p c r = record {
    shrunk = record { left = w.left; gone = gone_now };
    below = was_below;
    row = subst (λ nodes. IsRow (length nodes) (record { arc = λ k. unnamed (arc_at g.arcs k); in_force = λ j. get_or before.in_force j false }) p c) (sym w.nodes)
        (subst (λ arcs. IsRow (length before.nodes) (record { arc = λ k. unnamed (arc_at arcs k); in_force = λ j. get_or before.in_force j false }) p c) (sym w.arcs) r);
  }

  before_to : (p : ℕ) (c : Cells) → IsRow (length before.nodes) (reversed_table (table_of before)) p c → IsRowBefore g Towards (λ j. get_or before.in_force j false) removed p c
  before_to p c r = record {
    shrunk = record { left = w.left; gone = gone_now };
    below = was_below;
    row = subst (λ nodes. IsRow (length nodes) (record { arc = λ k. reversed (unnamed (arc_at g.arcs k)); in_force = λ j. get_or before.in_force j false }) p c) (sym w.nodes)
        (subst (λ arcs. IsRow (length before.nodes) (record { arc = λ k. reversed (unnamed (arc_at arcs k)); in_force = λ j. get_or before.in_force j false }) p c) (sym w.arcs) r);
  }

  pub before_of : (side : Side) (p : ℕ) (c : Cells) → IsRow (length before.nodes) (facing side before) p c → (was : ℕ → Bool) × IsRowBefore g side was removed p c
  before_of From p c r = ((λ j. get_or before.in_force j false), before_from p c r)
  before_of Towards p c r = ((λ j. get_or before.in_force j false), before_to p c r)

-- nothing is withdrawn yet
pub none_withdrawn : (g : GraphLists) → IsGraph g → AreWithdrawn g [] g
none_withdrawn g is = record { nodes = refl; arcs = refl; flags = is.flags; left = λ j f. f; gone = λ j f. inl f }

-- one more arc is
pub one_withdrawn : (before g h : GraphLists) (removed : List Arc) (k : ℕ) → AreWithdrawn before removed g
    → h.nodes ≡ g.nodes → h.arcs ≡ g.arcs → h.in_force ≡ set g.in_force k false
    → AreWithdrawn before (removed ++ arc_at g.arcs k ∷ []) h
one_withdrawn before g h removed k w en ea ef = record {
  nodes = en ∙ w.nodes;
  arcs = ea ∙ w.arcs;
  flags = w.flags;
  left = λ j f. elim (cases_eq j k) [
    | inl q ↦ absurd (let t : get_or h.in_force k false ≡ true = ap (λ n. get_or h.in_force n false) (sym q) ∙ f in let z : ⊥ = cleared t in z)
    | inr n ↦ w.left j (sym (other j n) ∙ f)
  ];
  gone = λ j t. elim (w.gone j t) [
    | inr c ↦ inr (Contains-append_left removed (arc_at g.arcs k ∷ []) (arc_at before.arcs j) c)
    | inl f ↦ elim (cases_eq j k) [
      | inl q ↦ inr (subst (Contains (removed ++ arc_at g.arcs k ∷ [])) (ap (arc_at g.arcs) (sym q) ∙ ap (λ arcs. arc_at arcs j) w.arcs) (Contains-push removed (arc_at g.arcs k)))
      | inr n ↦ inl (other j n ∙ f)
    ]
  ];
}
  where
    other : (j : ℕ) → j ≢ k → get_or h.in_force j false ≡ get_or g.in_force j false
    other j n = ap (λ flags. get_or flags j false) ef ∙ get_or-set_other g.in_force k j false false n

    cleared : get_or h.in_force k false ≡ true → ⊥
    cleared t =
        let f : get_or h.in_force k false ≡ false = elim (cases_lt k (length g.in_force)) [
          | inl l ↦ ap (λ flags. get_or flags k false) ef ∙ get_or-set_same g.in_force k false false l
          | inr l ↦ get_or_past h.in_force k false (omega (arith, ap length ef, length-set g.in_force k false))
        ] in
        let z : ⊥ = cc in z

-- ---- the cells that are left
lt_le : (a b : ℤ) → a <ℤ b → a ≤ℤ b
lt_le a b l = omega (arith, ints)

pos_le : (v : ℤ) (n : ℕ) → v ≤ℤ pos n → n ≤ 2 ^ path_bits → v ≤ℤ pos (2 ^ path_bits)
pos_le v n h l = omega (arith, ints)

between : (v a b : ℤ) → IsUpTo path_bits a → IsUpTo path_bits b → (a -ℤ b) ≤ℤ v → v ≤ℤ pos (2 ^ path_bits) → IsUpTo (path_bits + 1) v
between v a b ua ub l h = (omega (arith, ints, ua.0, ub.1), omega (arith, ints))

-- a cell is its three parts
made : ℤ → ℕ → Bool → Cell
made value parent known = record { value = value; parent = parent; known = known }

one_cell : (a b : Cell) → a.known ≡ b.known → a.value ≡ b.value → a.parent ≡ b.parent → a ≡ b
unfolding made
one_cell a b ek ev ep = ap (λ v. made v a.parent a.known) ev ∙ ap (λ p. made b.value p a.known) ep ∙ ap (λ k. made b.value b.parent k) ek

module _ (g : GraphLists) (is : IsGraph g) (side : Side) (values : List ℤ) (was : ℕ → Bool) (removed : List Arc) (p : ℕ) (row0 row : List Cell) (marks : ℕ → Bool) (found : List ℕ) (count : ℕ)
    (small : All (IsUpTo path_bits) values)
    (x : ObeysAll (facing side g) (potential side values))
    (r : IsRowBefore g side was removed p (cells_of row0))
    (m : IsMarkingOf g side removed p (cells_of row0) row marks found count count)
    (seeds : (k : ℕ) → k ≢ p → (cell_at row0 k).known ≡ true → IsRemoved g removed (cell_at row0 k).parent → marks k ≡ true)
  where
    are_marks : AreMarksIn (facing side g) (IsRemoved g removed) p (cells_of row0) marks
    are_marks = are_marks_in (length g.nodes) (facing side g) (IsRemoved g removed) p (cells_of row0) (cells_of row) marks (found_at found) count m seeds

    pub left_over : IsRemnant (facing side g) p (cells_of row)
    left_over = remnant (length g.nodes) (facing side g) was (IsRemoved g removed) p (potential side values) (cells_of row0) (cells_of row) marks r.shrunk r.row are_marks m.cells x

    unmarked : (k : ℕ) → (cell_at row k).known ≡ true → marks k ≡ false
    unmarked k h = unmarked_in (length g.nodes) (facing side g) was (IsRemoved g removed) p (potential side values) (cells_of row0) r.shrunk r.row x (cells_of row) marks are_marks m.cells k h

    light : (j : ℕ) → was j ≡ true → ((facing side g).arc j).weight ≤ℤ pos (2 ^ 93)
    light j f =
        let s : IsSound (length g.nodes) (arc_at g.arcs j) = is.sound j no_arc (r.below j f) in
        subst (λ w. w ≤ℤ pos (2 ^ 93)) (sym (facing_weight side g j)) (lt_le (arc_at g.arcs j).weight (pos (2 ^ 93)) s.high)

    pub left_small : (k : ℕ) → (cell_at row k).known ≡ true → IsUpTo (path_bits + 1) (cell_at row k).value
    left_small k h =
        let o : IsSameAs (cells_of row0) (cells_of row) k = m.cells.kept k (unmarked k h) in
        let high : (cell_at row0 k).value ≤ℤ pos (2 ^ path_bits) = pos_le (cell_at row0 k).value (length g.nodes * 2 ^ 93)
        (row_high (length g.nodes) (earlier (facing side g) was) p (cells_of row0) (2 ^ 93) r.row light k (sym o.0 ∙ h)) (height_low (length g.nodes) is.node_limit) in
        between (cell_at row k).value (potential side values k) (potential side values p) (potential_small side values small k) (potential_small side values small p)
        (left_over.bound (potential side values) x k h) (subst (λ v. v ≤ℤ pos (2 ^ path_bits)) (sym o.1) high)

    pub left_past : (k : ℕ) → length g.nodes ≤ k → (cell_at row k).known ≡ false
    left_past k l = elim (cases_Bool (marks k)) [
      | inl t ↦ m.cells.cleared k t
      | inr f ↦ (m.cells.kept k f).0 ∙ r.row.past k l
    ]

    pub found_free : (i : ℕ) → i < count → (found_at found i < length g.nodes) × ((cell_at row (found_at found i)).known ≡ false)
    found_free i l = (m.within i l, m.cells.cleared (found_at found i) (m.among i l))

    pub open_found : (j : ℕ) → (facing side g).in_force j ≡ true → (cell_at row ((facing side g).arc j).from).known ≡ true → (cell_at row ((facing side g).arc j).to).known ≡ false
        → (i : ℕ) × (i < count) × (found_at found i ≡ ((facing side g).arc j).to)
    open_found j f ht hh = m.listed ((facing side g).arc j).to
        (open_marked_in (length g.nodes) (facing side g) was (IsRemoved g removed) p (potential side values) (cells_of row0) r.shrunk r.row x (cells_of row) marks are_marks m.cells j f ht hh)

    -- the cell of a node that is not marked is as before
    pub cell_same : (row2 : List Cell) (front2 : List (Option ℤ)) → IsUnderWay (length g.nodes) (facing side g) p (potential side values) (2 ^ (path_bits + 2)) (2 ^ 93) (cells_of row) (cells_of row2) (waits_of front2) → IsEmpty front2
        → (k : ℕ) → marks k ≡ false → cell_at row2 k ≡ cell_at row0 k
    cell_same row2 front2 u empty k f =
        let s : IsSameAs (cells_of row0) (cells_of row2) k = unmarked_same (length g.nodes) (facing side g) was (IsRemoved g removed) p (potential side values) (2 ^ (path_bits + 2)) (2 ^ 93) (cells_of row0) (cells_of row) (cells_of row2) marks (waits_of front2)
        r.shrunk r.row m.cells left_over u (none_waits front2 empty) k f in
        one_cell (cell_at row2 k) (cell_at row0 k) s.0 s.1 s.2

    -- ---- what it costs
    module _ (row2 : List Cell) (front2 : List (Option ℤ)) (start marked last : ℕ) (affected : ℕ → Bool)
        (u : IsUnderWay (length g.nodes) (facing side g) p (potential side values) (2 ^ (path_bits + 2)) (2 ^ 93) (cells_of row) (cells_of row2) (waits_of front2))
        (empty : IsEmpty front2)
        (first : marked ≤ start + sum_to count (λ i. onward side g (found_at found i) + 1))
        (rest : last ≤ marked + sum_to count (λ i. onward (opposite side) g (found_at found i) + 1) + steps_of_changes (followed side g) row row2 + 1)
        (cover : (k : ℕ) → IsAffectedIn (facing side g) (IsRemoved g removed) p (cells_of row0) k → affected k ≡ true)
      where
        settled_cost : steps_of_changes (followed side g) row row2 ≤ flagged_sum (length g.nodes) (λ k. onward side g k + 2) marks
        settled_cost =
            subst (λ n. changed_sum n (steps_at (followed side g)) (cells_of row) (cells_of row2) ≤ flagged_sum (length g.nodes) (λ k. onward side g k + 2) marks)
            (sym (facing_listed side g is).one_each)
            (changed_within (length g.nodes) (facing side g) was (IsRemoved g removed) p (potential side values) (2 ^ (path_bits + 2)) (2 ^ 93) (cells_of row0) (cells_of row) (cells_of row2) marks (waits_of front2)
            r.shrunk r.row m.cells left_over u (none_waits front2 empty) (λ k. onward side g k + 2))

        both_ends : flagged_sum (length g.nodes) (λ k. 2 * (onward side g k + onward (opposite side) g k) + 5) affected ≤ flagged_sum (length g.nodes) (λ k. 2 * (reaching g k + departing g k) + 5) affected
        both_ends = flagged_below (length g.nodes) (λ k. 2 * (onward side g k + onward (opposite side) g k) + 5) (λ k. 2 * (reaching g k + departing g k) + 5) affected affected
            (λ k l h. h) (λ k l. ends side k)
          where
            ends : (side : Side) (k : ℕ) → 2 * (onward side g k + onward (opposite side) g k) + 5 ≤ 2 * (reaching g k + departing g k) + 5
            ends From k =
                let a : onward From g k ≡ departing g k = refl in
                let b : onward (opposite From) g k ≡ reaching g k = refl in
                omega arith
            ends Towards k =
                let a : onward Towards g k ≡ reaching g k = refl in
                let b : onward (opposite Towards) g k ≡ departing g k = refl in
                omega arith

        pub all_cost : last ≤ start + flagged_sum (length g.nodes) (λ k. 2 * (reaching g k + departing g k) + 5) affected + 2
        all_cost =
            let a : flagged_sum (length g.nodes) (λ k. onward side g k + 1) marks ≡ sum_to count (λ i. onward side g (found_at found i) + 1) = m.counted (λ k. onward side g k + 1) in
            let b : flagged_sum (length g.nodes) (λ k. onward (opposite side) g k + 1) marks ≡ sum_to count (λ i. onward (opposite side) g (found_at found i) + 1) = m.counted (λ k. onward (opposite side) g k + 1) in
            let c : flagged_sum (length g.nodes) (λ k. onward side g k + 1) marks + flagged_sum (length g.nodes) (λ k. onward (opposite side) g k + 1) marks + (flagged_sum (length g.nodes) (λ k. onward side g k + 2) marks + 1)
            ≤ flagged_sum (length g.nodes) (λ k. 2 * (onward side g k + onward (opposite side) g k) + 5) affected + 2 =
            regrowth_cost (length g.nodes) (facing side g) (IsRemoved g removed) p (cells_of row0) marks affected (onward side g) (onward (opposite side) g)
            (flagged_sum (length g.nodes) (λ k. onward side g k + 1) marks) (flagged_sum (length g.nodes) (λ k. onward (opposite side) g k + 1) marks) (flagged_sum (length g.nodes) (λ k. onward side g k + 2) marks + 1)
            are_marks cover (omega arith) (omega arith) (omega arith) in
            omega (arith, settled_cost, both_ends)
