-- The pull of one cell after another, and what it leaves to be settled.
use Rattle.std.proofs.Common.{◌≡◌, ℕ, ◌+◌, ◌^◌, ◌<◌, ◌≤◌, Bool, true, false, List, length, get_or, refl, ap, sym, ◌∙◌, subst, arith, inl, inr, ◌⊎◌, to_z, of_z}
use Rattle.std.specs.Prelude.{ℤ, pos, ◌+ℤ◌, ◌≤ℤ◌, Option, Some, None, slice_get, not}
use mir.Syntax.{w128}
use Rattle.std.proofs.lemmas.Int.{ints}
use Rattle.std.proofs.lemmas.Bool.{cases_Bool, cases_eq}
use Rattle.row_pool.specs.declared.cell.Cell.{Cell}
use Rattle.row_pool.specs.Row.{cell_at, cells_of}
use Rattle.problem_model.specs.Numbers.{IsUpTo}
use Rattle.problem_model.specs.RowPops.{IsPut, IsAsBefore, IsUnderWay}
use Rattle.problem_model.specs.Sums.{done_sum}
use Rattle.problem_model.specs.Limits.{path_bits}
use Rattle.frontier.specs.Keys.{IsEmpty}
use Rattle.sync_graph.specs.Graph.{GraphLists, IsGraph}
use Rattle.sync_graph.specs.Lists.{list_at}
use Rattle.earliest.specs.Withdrawn.{found_at}
use Rattle.earliest.proofs.Bounds.{worth}
use Rattle.withdrawals.specs.Regrowths.{IsRemnant, IsRegrown}
use Rattle.withdrawals.proofs.Pulls.{trying_kept, trying_put, pulling_none, cleared_waits, pulling_more, pulling_done}
use Rattle.withdrawals.proofs.Regrown.{regrown_past, regrown_high, regrown_under_way, regrown_free}
use Rattle.distances.specs.declared.side.Side.{Side}
use Rattle.distances.specs.declared.side.Side.TheVariants.{From, Towards}
use Rattle.distances.specs.Facing.{opposite, facing, followed, potential}
use Rattle.distances.specs.Relaxed.{has_key, waits_of, IsOffered, IsRelaxedBy}
use Rattle.distances.proofs.Directions.{facing_within, facing_light, followed_arc, followed_all, followed_short}
use Rattle.distances.proofs.Puts.{no_cell, cell_read, none_waits}
use Rattle.repair.specs.Pulling.{onward, AreSmallAtRest, IsIdle, IsPulledBy, IsTryingIn, IsPullingIn}

-- ---- the arcs to a node

-- an arc of the other list of a node is in force and is followed to it
pub arc_onto : (side : Side) (g : GraphLists) → IsGraph g → (node k arc : ℕ) → slice_get (list_at (followed (opposite side) g) node) k ≡ Some arc
    → (get_or (list_at (followed (opposite side) g) node) k 0 ≡ arc) × ((facing side g).in_force arc ≡ true) × (((facing side g).arc arc).to ≡ node)
arc_onto From g is node k arc w = followed_arc Towards g is node k arc w
arc_onto Towards g is node k arc w = followed_arc From g is node k arc w

-- each arc in force that is followed to a node is in its other list
pub onto_all : (side : Side) (g : GraphLists) → IsGraph g → (node j : ℕ) → (facing side g).in_force j ≡ true → ((facing side g).arc j).to ≡ node
    → (k : ℕ) × (k < length (list_at (followed (opposite side) g) node)) × (get_or (list_at (followed (opposite side) g) node) k 0 ≡ j)
onto_all From g is node j f t = followed_all Towards g is node j f t
onto_all Towards g is node j f t = followed_all From g is node j f t

pub onto_short : (side : Side) (g : GraphLists) → IsGraph g → (node : ℕ) → onward (opposite side) g node ≤ length g.arcs
onto_short side g is node = followed_short (opposite side) g is node

not_false : (b : Bool) → not b ≡ false → b ≡ true
not_false true e = refl
not_false false e = absurd (let z : ⊥ = cc in z)

wide : (v : ℤ) → IsUpTo (path_bits + 1) v → IsUpTo (path_bits + 3) v
wide v u = (omega (arith, ints, u.0), omega (arith, ints, u.1))

-- what the code knows of the tail of an arc that it relaxes
module _ (g : GraphLists) (side : Side) (arc tail : ℕ) (row : List Cell) (front : List (Option ℤ))
    (small : AreSmallAtRest row front)
    (et : tail ≡ ((facing side g).arc arc).from)
    (l : tail < length row)
    (known : not (get_or row tail no_cell).known ≡ false)
    (none : get_or front tail None ≡ None)
  where
    here : get_or row tail no_cell ≡ cell_at row tail
    here = cell_read row tail l

    tail_known : (cell_at row tail).known ≡ true
    tail_known = ap (λ (x : Cell). x.known) (sym here) ∙ not_false (get_or row tail no_cell).known known

    tail_rests : waits_of front tail ≡ false
    tail_rests = ap has_key none

    tail_small : IsUpTo (path_bits + 3) (cell_at row tail).value
    tail_small = wide (cell_at row tail).value (small tail tail_known tail_rests)

    base_is : to_z w128 (of_z w128 (get_or row tail no_cell).value) ≡ (cell_at row tail).value
    base_is = ap (λ (x : Cell). to_z w128 (of_z w128 x.value)) here ∙ worth (cell_at row tail).value tail_small

    pub base_small : IsUpTo (path_bits + 3) (to_z w128 (of_z w128 (get_or row tail no_cell).value))
    base_small = subst (IsUpTo (path_bits + 3)) (sym base_is) tail_small

    pub pulled_by : (row' : List Cell) (front' : List (Option ℤ)) → IsRelaxedBy (facing side g) (to_z w128 (of_z w128 (get_or row tail no_cell).value)) arc row row' front front'
        → IsPulledBy g side arc row row' front front'
    pulled_by row' front' relaxed = record {
      known = subst (λ n. (cell_at row n).known ≡ true) et tail_known;
      rests = subst (λ n. waits_of front n ≡ false) et tail_rests;
      relaxed = subst (λ v. IsRelaxedBy (facing side g) v arc row row' front front') (base_is ∙ ap (λ n. (cell_at row n).value) et) relaxed;
    }

-- a tail without a distance brings nothing
pub idle_unknown : (g : GraphLists) (side : Side) (arc tail : ℕ) (row : List Cell) (front : List (Option ℤ)) → tail ≡ ((facing side g).arc arc).from → tail < length row
    → not (get_or row tail no_cell).known ≡ true → IsIdle g side arc row row front front
idle_unknown g side arc tail row front et l unknown = record {
  row_is = refl;
  front_is = refl;
  why = λ h. absurd (
      let here : (get_or row tail no_cell).known ≡ (cell_at row tail).known = ap (λ (x : Cell). x.known) (cell_read row tail l) in
      let known : (cell_at row tail).known ≡ true = subst (λ n. (cell_at row n).known ≡ true) (sym et) h in
      let rest : not true ≡ true = ap not (sym (here ∙ known)) ∙ unknown in
      let z : ⊥ = cc in z);
}

-- ---- one arc is tried

module _ (g : GraphLists) (side : Side) (node k arc : ℕ) (row0 row row' : List Cell) (front0 front front' : List (Option ℤ))
    (own : (cell_at row0 node).known ≡ true → waits_of front0 node ≡ true)
    (s : IsTryingIn g side node k row0 row front0 front)
    (at_count : get_or (list_at (followed (opposite side) g) node) k 0 ≡ arc)
    (force : (facing side g).in_force arc ≡ true)
    (ends : ((facing side g).arc arc).to ≡ node)
  where
    kept_as : ((cells_of row).known ((facing side g).arc arc).from ≡ false)
        ⊎ ((waits_of front ((facing side g).arc arc).from ≡ true) ⊎ (((cells_of row).known node ≡ true) × ((cells_of row).value node ≤ℤ ((cells_of row).value ((facing side g).arc arc).from +ℤ ((facing side g).arc arc).weight))))
        → row' ≡ row → front' ≡ front → IsTryingIn g side node (k + 1) row0 row' front0 front'
    kept_as why er ef =
        subst (λ w. IsTryingIn g side node (k + 1) row0 w front0 front') (sym er)
        (subst (λ w. IsTryingIn g side node (k + 1) row0 row front0 w) (sym ef)
        (trying_kept (facing side g) node (list_at (followed (opposite side) g) node) k arc (cells_of row0) (cells_of row) (waits_of front0) (waits_of front) own s at_count why))

    idle_more : IsIdle g side arc row row' front front' → IsTryingIn g side node (k + 1) row0 row' front0 front'
    idle_more i = kept_as (elim (cases_Bool (cell_at row ((facing side g).arc arc).from).known) [
      | inl t ↦ inr (inl (i.why t))
      | inr f ↦ inl f
    ]) i.row_is i.front_is

    offered_more : IsPulledBy g side arc row row' front front'
        → IsOffered node ((cell_at row ((facing side g).arc arc).from).value +ℤ ((facing side g).arc arc).weight) arc row row' front front'
        → IsTryingIn g side node (k + 1) row0 row' front0 front'
    offered_more q o = elim o [
      | inl w ↦ kept_as (inr (inr (w.2.0, w.2.1))) w.0 w.1
      | inr w ↦ trying_put (facing side g) node (list_at (followed (opposite side) g) node) k arc (cells_of row0) (cells_of row) (waits_of front0) (waits_of front) own s at_count
          (cells_of row') (waits_of front') force ends q.known q.rests w.0 w.1
    ]

    pub tried_more : (IsIdle g side arc row row' front front' ⊎ IsPulledBy g side arc row row' front front') → IsTryingIn g side node (k + 1) row0 row' front0 front'
    tried_more b = elim b [
      | inl i ↦ idle_more i
      | inr q ↦ offered_more q
          (subst (λ n. IsOffered n ((cell_at row ((facing side g).arc arc).from).value +ℤ ((facing side g).arc arc).weight) arc row row' front front') ends q.relaxed)
    ]

-- what rests has not changed
pub small_more : (g : GraphLists) (side : Side) (arc : ℕ) (row row' : List Cell) (front front' : List (Option ℤ))
    → AreSmallAtRest row front → (IsIdle g side arc row row' front front' ⊎ IsPulledBy g side arc row row' front front') → AreSmallAtRest row' front'
small_more g side arc row row' front front' small b = elim b [
  | inl i ↦ same i.row_is i.front_is
  | inr q ↦ elim q.relaxed [
    | inl w ↦ same w.0 w.1
    | inr w ↦ put w.1
  ]
]
  where
    same : row' ≡ row → front' ≡ front → AreSmallAtRest row' front'
    same er ef = subst (λ r. AreSmallAtRest r front') (sym er) (subst (λ f. AreSmallAtRest row f) (sym ef) small)

    put : IsPut (cells_of row) (cells_of row') (waits_of front) (waits_of front') ((facing side g).arc arc).to
        ((cell_at row ((facing side g).arc arc).from).value +ℤ ((facing side g).arc arc).weight) arc → AreSmallAtRest row' front'
    put w k h f = elim (cases_eq k ((facing side g).arc arc).to) [
      | inl q ↦ absurd (let t : waits_of front' k ≡ true = ap (waits_of front') q ∙ w.waiting in let z : ⊥ = cc in z)
      | inr n ↦
          let o : IsAsBefore (cells_of row) (cells_of row') (waits_of front) (waits_of front') k = w.others k n in
          subst (IsUpTo (path_bits + 1)) (sym o.1) (small k (sym o.0 ∙ h) (sym o.3 ∙ f))
    ]

-- all arcs of the list are tried
pub tried_all : (g : GraphLists) (side : Side) (node k : ℕ) (row0 row : List Cell) (front0 front : List (Option ℤ))
    → onward (opposite side) g node ≤ k → IsTryingIn g side node k row0 row front0 front → IsTryingIn g side node (onward (opposite side) g node) row0 row front0 front
tried_all g side node k row0 row front0 front full s = record { others = s.others; own = s.own; low = s.low; met = λ m l b. s.met m (omega arith) b }

-- ---- one cell is pulled

module _ (g : GraphLists) (is : IsGraph g) (side : Side) (found : List ℕ) (i : ℕ) (old row : List Cell) (front : List (Option ℤ))
    (r : IsPullingIn g side found i old row front)
    (unknown : (cell_at old (found_at found i)).known ≡ false)
  where
    pub found_waits : (cell_at row (found_at found i)).known ≡ true → waits_of front (found_at found i) ≡ true
    found_waits = cleared_waits (facing side g) (found_at found) i (cells_of old) (cells_of row) (waits_of front) r (found_at found i) unknown

    pub pulled_more : (row' : List Cell) (front' : List (Option ℤ)) → IsTryingIn g side (found_at found i) (onward (opposite side) g (found_at found i)) row row' front front'
        → IsPullingIn g side found (i + 1) old row' front'
    pulled_more row' front' s =
        pulling_more (facing side g) (found_at found) i (cells_of old) (cells_of row) (waits_of front) r
        (found_at found i) (list_at (followed (opposite side) g) (found_at found i)) (onward (opposite side) g (found_at found i)) (cells_of row') (waits_of front') refl unknown
        (onto_all side g is (found_at found i)) s (omega arith)

pub pulled_none : (g : GraphLists) (side : Side) (found : List ℕ) (row : List Cell) (front : List (Option ℤ)) → IsEmpty front → IsPullingIn g side found 0 row row front
pulled_none g side found row front empty = pulling_none (facing side g) (found_at found) (cells_of row) (waits_of front) (none_waits front empty)

-- ---- what is left to settle

small_high : (v : ℤ) → IsUpTo (path_bits + 1) v → v ≤ℤ pos (2 ^ (path_bits + 1))
small_high v u = omega (arith, ints, u.0, u.1)

one_arc_higher : (v : ℤ) → v ≤ℤ pos (2 ^ (path_bits + 1) + 2 ^ 93) → v ≤ℤ pos (2 ^ (path_bits + 2))
one_arc_higher v h = omega (arith, ints)

module _ (g : GraphLists) (is : IsGraph g) (side : Side) (values : List ℤ) (p : ℕ) (found : List ℕ) (count : ℕ) (old row : List Cell) (front : List (Option ℤ))
    (o : IsRemnant (facing side g) p (cells_of old))
    (r : IsPullingIn g side found count old row front)
    (all : (j : ℕ) → (facing side g).in_force j ≡ true → (cell_at old ((facing side g).arc j).from).known ≡ true → (cell_at old ((facing side g).arc j).to).known ≡ false
    → (i : ℕ) × (i < count) × (found_at found i ≡ ((facing side g).arc j).to))
  where
    regrown : IsRegrown (facing side g) (cells_of old) (cells_of row) (waits_of front)
    regrown = pulling_done (facing side g) (found_at found) count (cells_of old) (cells_of row) (waits_of front) r all

    pub pulled_under_way : ((k : ℕ) → (cell_at old k).known ≡ true → IsUpTo (path_bits + 1) (cell_at old k).value) → ((k : ℕ) → length g.nodes ≤ k → (cell_at old k).known ≡ false)
        → IsUnderWay (length g.nodes) (facing side g) p (potential side values) (2 ^ (path_bits + 2)) (2 ^ 93) (cells_of old) (cells_of row) (waits_of front)
    pulled_under_way small past =
        regrown_under_way (length g.nodes) (facing side g) p (potential side values) (cells_of old) (cells_of row) (waits_of front) o regrown (2 ^ (path_bits + 2)) (2 ^ 93)
        (regrown_past (length g.nodes) (facing side g) p (potential side values) (cells_of old) (cells_of row) (waits_of front) o regrown (facing_within side g is) past)
        (λ k h. one_arc_higher (cell_at row k).value
        (regrown_high (length g.nodes) (facing side g) p (potential side values) (cells_of old) (cells_of row) (waits_of front) o regrown (2 ^ (path_bits + 1)) (2 ^ 93) (facing_light side g is)
        (λ k h. small_high (cell_at old k).value (small k h)) k h))

    pub pulled_free : (each : ℕ → ℕ) → done_sum (length g.nodes) each (cells_of old) (cells_of row) (waits_of front) ≡ 0
    pulled_free each = regrown_free (length g.nodes) (facing side g) (cells_of old) (cells_of row) (waits_of front) regrown each
