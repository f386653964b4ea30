-- One cell cleared after another.
use Rattle.std.proofs.Common.{◌≡◌, ℕ, ◌+◌, ◌<◌, ◌≤◌, Bool, true, false, List, length, get_or, set, refl, ap, sym, ◌∙◌, subst, arith, inl, inr, length-set}
use Rattle.std.specs.Prelude.{◌==◌, ◌≢◌, Some, slice_get, if◌then◌else◌, Contains}
use Rattle.std.proofs.lemmas.Bool.{cases_Bool, cases_eq, cases_lt, eq-eqb, ne_eqb, cond-true, cond-false}
use Rattle.std.proofs.lemmas.List.{get_or-set_same, get_or-set_other, get_or_default, get_or_past}
use Rattle.row_pool.specs.declared.cell.Cell.{Cell}
use Rattle.row_pool.specs.Row.{unknown, cell_at, cells_of}
use Rattle.problem_model.specs.Parents.{Cells, no_parent, IsTight}
use Rattle.problem_model.specs.Limits.{most_arcs}
use Rattle.sync_graph.specs.declared.arc.Arc.{Arc}
use Rattle.sync_graph.specs.Graph.{GraphLists, IsGraph, arc_at}
use Rattle.sync_graph.specs.Lists.{list_at}
use Rattle.earliest.specs.Withdrawn.{found_at}
use Rattle.earliest.proofs.Bounds.{no_arc}
use Rattle.withdrawals.specs.Withdrawals.{LeavesFrom}
use Rattle.withdrawals.proofs.Places.{leaves_all, leaves_behind}
use Rattle.withdrawals.specs.Regrowths.{earlier, IsSameAs, IsAffectedIn, IsFoundIn}
use Rattle.withdrawals.proofs.Marks.{parent_of, affected_seed, affected_child, none_marked_in, found_marking_in, done_marking_in, room_in, few_found_in}
use Rattle.distances.specs.Changes.{AreBlank}
use Rattle.distances.specs.declared.side.Side.{Side}
use Rattle.distances.specs.Facing.{facing, followed, end_of}
use Rattle.distances.proofs.Directions.{facing_to, facing_below, facing_within, followed_arc, followed_all}
use Rattle.repair.specs.RowWithdrawals.{IsRemoved}
use Rattle.repair.specs.Clearings.{IsRowBefore, IsMarkingOf, IsChildBy, IsChildOf, IsClearedAt, IsLeftAlone, IsClearedIf, AreSeeded, IsSeenOf}

-- the marks with one more
marked_too : (ℕ → Bool) → ℕ → ℕ → Bool
marked_too marks node x = if x == node then true else marks x

marked_here : (marks : ℕ → Bool) (node : ℕ) → marked_too marks node node ≡ true
unfolding marked_too
marked_here marks node = cond-true (node == node) true (marks node) (eq-eqb node node refl)

marked_other : (marks : ℕ → Bool) (node x : ℕ) → x ≢ node → marked_too marks node x ≡ marks x
unfolding marked_too
marked_other marks node x n = cond-false (x == node) true (marks x) (ne_eqb x node n)

marked_still : (marks : ℕ → Bool) (node x : ℕ) → marks x ≡ true → marked_too marks node x ≡ true
marked_still marks node x w = elim (cases_eq x node) [
  | inl q ↦ subst (λ n. marked_too marks node n ≡ true) (sym q) (marked_here marks node)
  | inr n ↦ marked_other marks node x n ∙ w
]

-- ---- one more cell is cleared

module _ (g : GraphLists) (side : Side) (was : ℕ → Bool) (removed : List Arc) (p : ℕ) (old : Cells) (row : List Cell) (marks : ℕ → Bool) (found : List ℕ) (count done node : ℕ)
    (r : IsRowBefore g side was removed p old)
    (m : IsMarkingOf g side removed p old row marks found count done)
    (known : (cell_at row node).known ≡ true)
  where
    node_unmarked : marks node ≡ false
    node_unmarked = elim (cases_Bool (marks node)) [ inl t ↦ absurd (let f : (cell_at row node).known ≡ false = m.cells.cleared node t in let z : ⊥ = cc in z) | inr f ↦ f ]

    node_as_old : IsSameAs old (cells_of row) node
    node_as_old = m.cells.kept node node_unmarked

    node_known : old.known node ≡ true
    node_known = sym node_as_old.0 ∙ known

    node_within : node < length g.nodes
    node_within = elim (cases_lt node (length g.nodes)) [
      | inl l ↦ l
      | inr l ↦ absurd (let f : old.known node ≡ false = r.row.past node l in let t : old.known node ≡ true = node_known in let z : ⊥ = cc in z)
    ]

    node_place : count < length g.nodes
    node_place = room_in (length g.nodes) (facing side g) (IsRemoved g removed) p old (cells_of row) marks (found_at found) count done node m node_within node_unmarked

    module _ (row' : List Cell) (found' : List ℕ) (result : ℕ)
        (now : IsClearedAt row row' found found' count node result)
        (lr : length g.nodes ≤ length row)
        (lf : length g.nodes ≤ length found)
        (affected : IsAffectedIn (facing side g) (IsRemoved g removed) p old node)
        (below : done ≤ count)
      where
        found_one : IsFoundIn (cells_of row) (cells_of row') marks (marked_too marks node) (found_at found) (found_at found') count node
        found_one = record {
          free = node_unmarked;
          marked_now = marked_here marks node;
          cleared = ap (λ (c : Cell). c.known) (ap (λ v. get_or v node unknown) now.row_is ∙ get_or-set_same row node unknown unknown (omega (arith, node_within)));
          others = λ x n.
              let e : cell_at row' x ≡ cell_at row x = ap (λ v. get_or v x unknown) now.row_is ∙ get_or-set_other row node x unknown unknown n in
              (marked_other marks node x n, (ap (λ (c : Cell). c.known) e, ap (λ (c : Cell). c.value) e, ap (λ (c : Cell). c.parent) e));
          last = ap (λ v. get_or v count 0) now.found_is ∙ get_or-set_same found count node 0 (omega (arith, node_place));
          before = λ i l. ap (λ v. get_or v i 0) now.found_is ∙ get_or-set_other found count i node 0 (λ q. omega arith);
        }

        marking_one : IsMarkingOf g side removed p old row' (marked_too marks node) found' result done
        marking_one = subst (λ n. IsMarkingOf g side removed p old row' (marked_too marks node) found' n done) (sym now.one_more)
            (found_marking_in (length g.nodes) (facing side g) (IsRemoved g removed) p old (cells_of row) (cells_of row') marks (marked_too marks node) (found_at found) (found_at found') count done node
            m below node_within affected found_one)

-- nothing was cleared
marking_left : (g : GraphLists) (side : Side) (removed : List Arc) (p : ℕ) (old : Cells) (row row' : List Cell) (marks : ℕ → Bool) (found found' : List ℕ) (count result done : ℕ)
    → IsLeftAlone row row' found found' count result → IsMarkingOf g side removed p old row marks found count done → IsMarkingOf g side removed p old row' marks found' result done
marking_left g side removed p old row row' marks found found' count result done l m =
    subst (λ w. IsMarkingOf g side removed p old w marks found' result done) (sym l.row_is)
    (subst (λ w. IsMarkingOf g side removed p old row marks w result done) (sym l.found_is)
    (subst (λ w. IsMarkingOf g side removed p old row marks found w done) (sym l.as_many) m))

-- lengths, and the places listed before
pub cleared_lengths : (why : Type 0) (row row' : List Cell) (found found' : List ℕ) (count node result : ℕ) → IsClearedIf why row row' found found' count node result
    → (length row' ≡ length row) × (length found' ≡ length found) × (count ≤ result) × ((i : ℕ) → i < count → found_at found' i ≡ found_at found i)
cleared_lengths why row row' found found' count node result b = elim b [
  | inl q ↦ (ap length q.0.row_is, ap length q.0.found_is, omega (arith, q.0.as_many), λ i l. ap (λ v. get_or v i 0) q.0.found_is)
  | inr q ↦ (ap length q.0.row_is ∙ length-set row node unknown, ap length q.0.found_is ∙ length-set found count node, omega (arith, q.0.one_more), λ i l. ap (λ v. get_or v i 0) q.0.found_is ∙ get_or-set_other found count i node 0 (λ e. omega arith))
]

-- the places behind those that are listed
pub cleared_places : (why : Type 0) (row row' : List Cell) (found found' : List ℕ) (count node result : ℕ) → IsClearedIf why row row' found found' count node result → LeavesFrom result found found'
cleared_places why row row' found found' count node result b = elim b [
  | inl q ↦ leaves_all found found' result q.0.found_is
  | inr q ↦ leaves_behind found found' count node result q.0.found_is q.0.one_more
]

-- cells that are not known are blank still
pub blank_cleared : (why : Type 0) (row row' : List Cell) (found found' : List ℕ) (count node result : ℕ) → IsClearedIf why row row' found found' count node result → AreBlank row → AreBlank row'
blank_cleared why row row' found found' count node result b blank = elim b [
  | inl q ↦ subst AreBlank (sym q.0.row_is) blank
  | inr q ↦ subst AreBlank (sym q.0.row_is) now
]
  where
    now : AreBlank (set row node unknown)
    now k f = elim (cases_eq k node) [
      | inl q ↦ elim (cases_lt node (length row)) [
        | inl l ↦ ap (cell_at (set row node unknown)) q ∙ get_or-set_same row node unknown unknown l
        | inr l ↦ get_or_past (set row node unknown) k unknown (omega (arith, q, length-set row node unknown))
      ]
      | inr n ↦ (let e : cell_at (set row node unknown) k ≡ cell_at row k = get_or-set_other row node k unknown unknown n in e ∙ blank k (ap (λ (c : Cell). c.known) (sym e) ∙ f))
    ]

-- no more are found than there are nodes
pub few_marked : (g : GraphLists) (side : Side) (removed : List Arc) (p : ℕ) (old : Cells) (row : List Cell) (marks : ℕ → Bool) (found : List ℕ) (count done : ℕ)
    → IsMarkingOf g side removed p old row marks found count done → count ≤ length g.nodes
few_marked g side removed p old row marks found count done m = few_found_in (length g.nodes) (facing side g) (IsRemoved g removed) p old (cells_of row) marks (found_at found) count done m

-- a number of an arc is not that of no arc
other_than_none : (arc arcs : ℕ) → arc < arcs → arcs ≤ most_arcs → arc ≡ no_parent → ⊥
other_than_none arc arcs l m e = omega (arith, e)

-- who has a parent that is an arc is not p
away_from : (g : GraphLists) (side : Side) → IsGraph g → (was : ℕ → Bool) (removed : List Arc) (p : ℕ) (old : Cells) → IsRowBefore g side was removed p old → (node : ℕ)
    → old.parent node < length g.arcs → node ≢ p
away_from g side is was removed p old r node l q = other_than_none (old.parent node) (length g.arcs) l is.arc_limit (ap old.parent q ∙ r.row.own.2)

-- ---- the children of removed arcs

module _ (g : GraphLists) (is : IsGraph g) (side : Side) (removed : List Arc) (i : ℕ) (a : Arc)
    (below_i : i < length removed)
    (a_is : a ≡ get_or removed i a)
    (was : ℕ → Bool) (p : ℕ) (old : Cells) (row : List Cell) (marks : ℕ → Bool) (found : List ℕ) (count : ℕ)
    (r : IsRowBefore g side was removed p old)
    (s : AreSeeded g side i removed p old row marks found count)
  where
    pub seed_place : IsChildOf g row (end_of side a) a → length g.nodes ≤ length found → count < length found
    seed_place c lf =
        let l : count < length g.nodes = node_place g side was removed p old row marks found count 0 (end_of side a) r s.marking c.0 in
        omega arith

    here : arc_at removed i ≡ a
    here = get_or_default removed i no_arc a below_i ∙ sym a_is

    -- whose parent equals the arc is the node to which it is followed
    is_end : (x : ℕ) → x ≢ p → old.known x ≡ true → arc_at g.arcs (old.parent x) ≡ a → x ≡ end_of side a
    is_end x n h q =
        let t : IsTight (earlier (facing side g) was) old x = parent_of (length g.nodes) (earlier (facing side g) was) p old r.row x h n in
        sym t.ends ∙ facing_to side g (old.parent x) ∙ ap (end_of side) q

    parent_below : (x : ℕ) → x ≢ p → old.known x ≡ true → old.parent x < length g.arcs
    parent_below x n h =
        let t : IsTight (earlier (facing side g) was) old x = parent_of (length g.nodes) (earlier (facing side g) was) p old r.row x h n in
        r.below (old.parent x) t.in_force

    seeds_left : (IsChildOf g row (end_of side a) a → ⊥) → (m : ℕ) → m < i + 1 → (x : ℕ) → x ≢ p → old.known x ≡ true → arc_at g.arcs (old.parent x) ≡ arc_at removed m → marks x ≡ true
    seeds_left other m l x n h q = elim (cases_eq m i) [
      | inr w ↦ s.seeds m (omega arith) x n h q
      | inl w ↦
          let qa : arc_at g.arcs (old.parent x) ≡ a = q ∙ ap (arc_at removed) w ∙ here in
          elim (cases_Bool (marks x)) [
            | inl t ↦ t
            | inr f ↦
                let o : IsSameAs old (cells_of row) x = s.marking.cells.kept x f in
                let e : x ≡ end_of side a = is_end x n h qa in
                absurd (other (subst (λ v. IsChildOf g row v a) e (o.0 ∙ h, subst (λ v. v < length g.arcs) (sym o.2) (parent_below x n h), ap (arc_at g.arcs) o.2 ∙ qa)))
          ]
    ]

    seed_affected : IsChildOf g row (end_of side a) a → IsAffectedIn (facing side g) (IsRemoved g removed) p old (end_of side a)
    seed_affected c =
        let o : IsSameAs old (cells_of row) (end_of side a) = node_as_old g side was removed p old row marks found count 0 (end_of side a) r s.marking c.0 in
        let h : old.known (end_of side a) ≡ true = node_known g side was removed p old row marks found count 0 (end_of side a) r s.marking c.0 in
        let l : old.parent (end_of side a) < length g.arcs = subst (λ v. v < length g.arcs) o.2 c.1 in
        let e : arc_at g.arcs (old.parent (end_of side a)) ≡ a = ap (arc_at g.arcs) (sym o.2) ∙ c.2 in
        affected_seed (facing side g) (IsRemoved g removed) p old (end_of side a) h (away_from g side is was removed p old r (end_of side a) l)
        (subst (Contains removed) (sym e) (i, below_i, sym a_is))

    pub seeded_more : (row' : List Cell) (found' : List ℕ) (result : ℕ) → IsClearedIf (IsChildOf g row (end_of side a) a) row row' found found' count (end_of side a) result
        → length g.nodes ≤ length row → length g.nodes ≤ length found
        → (now : ℕ → Bool) × AreSeeded g side (i + 1) removed p old row' now found' result
    seeded_more row' found' result b lr lf = elim b [
      | inl q ↦ (
        marks,
        record {
          marking = marking_left g side removed p old row row' marks found found' count result 0 q.0 s.marking;
          seeds = seeds_left q.1;
        },
      )
      | inr q ↦ (
        marked_too marks (end_of side a),
        record {
          marking = marking_one g side was removed p old row marks found count 0 (end_of side a) r s.marking q.1.0 row' found' result q.0 lr lf (seed_affected q.1) (omega arith);
          seeds = λ m l x n h e. elim (cases_eq m i) [
            | inr w ↦ marked_still marks (end_of side a) x (s.seeds m (omega arith) x n h e)
            | inl w ↦ subst (λ v. marked_too marks (end_of side a) v ≡ true) (sym (is_end x n h (e ∙ ap (arc_at removed) w ∙ here))) (marked_here marks (end_of side a))
          ];
        },
      )
    ]

-- no removed arc is seen yet
pub seeded_none : (g : GraphLists) (side : Side) (removed : List Arc) (p : ℕ) (row : List Cell) (found : List ℕ) → AreSeeded g side 0 removed p (cells_of row) row (λ _. false) found 0
seeded_none g side removed p row found = record {
  marking = none_marked_in (length g.nodes) (facing side g) (IsRemoved g removed) p (cells_of row) (found_at found);
  seeds = λ m l. absurd (omega arith);
}

-- all are seen
pub seeded_all : (g : GraphLists) (side : Side) (removed : List Arc) (i p : ℕ) (old : Cells) (row : List Cell) (marks : ℕ → Bool) (found : List ℕ) (count : ℕ)
    → length removed ≤ i → AreSeeded g side i removed p old row marks found count
    → (k : ℕ) → k ≢ p → old.known k ≡ true → IsRemoved g removed (old.parent k) → marks k ≡ true
seeded_all g side removed i p old row marks found count full s k n h c =
    s.seeds c.0 (omega (arith, c.1)) k n h (sym (get_or_default removed c.0 no_arc (arc_at g.arcs (old.parent k)) c.1 ∙ c.2))

-- ---- the children of a node

module _ (g : GraphLists) (is : IsGraph g) (side : Side) (node k arc : ℕ) (a : Arc) (head : ℕ)
    (read : slice_get (list_at (followed side g) node) k ≡ Some arc)
    (a_is : a ≡ arc_at g.arcs arc)
    (head_is : head ≡ end_of side a)
  where
    entry : (get_or (list_at (followed side g) node) k 0 ≡ arc) × ((facing side g).in_force arc ≡ true) × (((facing side g).arc arc).from ≡ node)
    entry = followed_arc side g is node k arc read

    ends : ((facing side g).arc arc).to ≡ head
    ends = facing_to side g arc ∙ ap (end_of side) (sym a_is) ∙ sym head_is

    pub head_within : head < length g.nodes
    head_within = subst (λ n. n < length g.nodes) ends (facing_within side g is arc entry.1)

    module _ (was : ℕ → Bool) (removed : List Arc) (p : ℕ) (old : Cells) (row : List Cell) (marked marks : ℕ → Bool) (found : List ℕ) (count done : ℕ)
        (r : IsRowBefore g side was removed p old)
        (s : IsSeenOf g side node k removed p old row marked marks found count done)
      where
        -- who has the arc as parent is its head
        is_head : (x : ℕ) → x ≢ p → old.known x ≡ true → old.parent x ≡ arc → x ≡ head
        is_head x n h q =
            let t : IsTight (earlier (facing side g) was) old x = parent_of (length g.nodes) (earlier (facing side g) was) p old r.row x h n in
            sym t.ends ∙ ap (λ j. ((facing side g).arc j).to) q ∙ ends

        -- there is room in the list
        pub head_place : length g.nodes ≤ length found → IsChildBy row head arc → count < length found
        head_place lf c =
            let l : count < length g.nodes = node_place g side was removed p old row marks found count done head r s.marking c.0 in
            omega arith

        here_left : (IsChildBy row head arc → ⊥) → (m : ℕ) → m < k + 1 → (x : ℕ) → x ≢ p → old.known x ≡ true → old.parent x ≡ get_or (list_at (followed side g) node) m 0 → marks x ≡ true
        here_left other m l x n h q = elim (cases_eq m k) [
          | inr w ↦ s.here m (omega arith) x n h q
          | inl w ↦
              let qa : old.parent x ≡ arc = q ∙ ap (λ i. get_or (list_at (followed side g) node) i 0) w ∙ entry.0 in
              elim (cases_Bool (marks x)) [
                | inl t ↦ t
                | inr f ↦
                    let o : IsSameAs old (cells_of row) x = s.marking.cells.kept x f in
                    absurd (other (subst (λ v. IsChildBy row v arc) (is_head x n h qa) (o.0 ∙ h, o.2 ∙ qa)))
              ]
        ]

        head_affected : IsChildBy row head arc → found_at found done ≡ node → done < count → IsAffectedIn (facing side g) (IsRemoved g removed) p old head
        head_affected c at_node below =
            let o : IsSameAs old (cells_of row) head = node_as_old g side was removed p old row marks found count done head r s.marking c.0 in
            let h : old.known head ≡ true = node_known g side was removed p old row marks found count done head r s.marking c.0 in
            let l : old.parent head < length g.arcs = subst (λ v. v < length g.arcs) (sym c.1 ∙ o.2) (facing_below side g is arc entry.1) in
            affected_child (facing side g) (IsRemoved g removed) p old head h (away_from g side is was removed p old r head l)
            (subst (IsAffectedIn (facing side g) (IsRemoved g removed) p old) (at_node ∙ sym entry.2 ∙ ap (λ j. ((facing side g).arc j).from) (sym c.1 ∙ o.2))
            (s.marking.affected (found_at found done) (s.marking.among done below)))

        pub seen_more : (row' : List Cell) (found' : List ℕ) (result : ℕ) → IsClearedIf (IsChildBy row head arc) row row' found found' count head result
            → length g.nodes ≤ length row → length g.nodes ≤ length found → found_at found done ≡ node → done < count
            → (now : ℕ → Bool) × IsSeenOf g side node (k + 1) removed p old row' marked now found' result done
        seen_more row' found' result b lr lf at_node below = elim b [
          | inl q ↦ (
            marks,
            record {
              marking = marking_left g side removed p old row row' marks found found' count result done q.0 s.marking;
              keeps = s.keeps;
              here = here_left q.1;
            },
          )
          | inr q ↦ (
            marked_too marks head,
            record {
              marking = marking_one g side was removed p old row marks found count done head r s.marking q.1.0 row' found' result q.0 lr lf (head_affected q.1 at_node below) (omega arith);
              keeps = λ x w. marked_still marks head x (s.keeps x w);
              here = λ m l x n h e. elim (cases_eq m k) [
                | inr w ↦ marked_still marks head x (s.here m (omega arith) x n h e)
                | inl w ↦ subst (λ v. marked_too marks head v ≡ true) (sym (is_head x n h (e ∙ ap (λ i. get_or (list_at (followed side g) node) i 0) w ∙ entry.0))) (marked_here marks head)
              ];
            },
          )
        ]

-- all arcs of the node are seen
pub seen_all : (g : GraphLists) → IsGraph g → (side : Side) (node k : ℕ) (removed : List Arc) (p : ℕ) (old : Cells) (row : List Cell) (marked marks : ℕ → Bool) (found : List ℕ) (count done : ℕ)
    → length (list_at (followed side g) node) ≤ k → found_at found done ≡ node → IsSeenOf g side node k removed p old row marked marks found count done
    → IsMarkingOf g side removed p old row marks found count (done + 1)
seen_all g is side node k removed p old row marked marks found count done full at_node s =
    done_marking_in (length g.nodes) (facing side g) (IsRemoved g removed) p old (cells_of row) marks (found_at found) count done s.marking
    (λ x n h f t.
    let l : (m : ℕ) × (m < length (list_at (followed side g) node)) × (get_or (list_at (followed side g) node) m 0 ≡ old.parent x) = followed_all side g is node (old.parent x) f (t ∙ at_node) in
    s.here l.0 (omega (arith, l.1)) x n h (sym l.2))

-- an arc of the node's list is one of the graph
pub listed_below : (g : GraphLists) → IsGraph g → (side : Side) (node k arc : ℕ) → slice_get (list_at (followed side g) node) k ≡ Some arc → arc < length g.arcs
listed_below g is side node k arc e = facing_below side g is arc (followed_arc side g is node k arc e).1

-- the next found, where not all are done
pub next_found : (g : GraphLists) (side : Side) (removed : List Arc) (p : ℕ) (old : Cells) (row : List Cell) (marks : ℕ → Bool) (found : List ℕ) (count done : ℕ)
    → IsMarkingOf g side removed p old row marks found count done → done < count → (done < length g.nodes) × (found_at found done < length g.nodes)
next_found g side removed p old row marks found count done m l =
    let few : count ≤ length g.nodes = few_marked g side removed p old row marks found count done m in
    (omega arith, m.within done l)
