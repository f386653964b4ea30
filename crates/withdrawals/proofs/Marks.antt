-- The marking of affected cells: the next that is found, the next whose children are seen, and the end.
use Rattle.std.proofs.Common.{◌≡◌, ℕ, zero, suc, ◌+◌, ◌<◌, ◌≤◌, Bool, true, false, refl, ap, sym, ◌∙◌, subst, arith, inl, inr, ◌⊎◌}
use Rattle.std.specs.Prelude.{◌==◌, ◌≢◌, if◌then◌else◌}
use Rattle.std.proofs.lemmas.Bool.{cases_Bool, cases_eq, eq-eqb, ne_eqb, cond-true, cond-false}
use Rattle.problem_model.specs.Sums.{sum_to}
use Rattle.problem_model.specs.Tables.{ArcTable}
use Rattle.problem_model.specs.Parents.{Cells, IsTight, LeadsBack, IsRow}
use Rattle.problem_model.proofs.Sums.{sum-same}
use Rattle.withdrawals.specs.Withdrawals.{flagged_sum}
use Rattle.withdrawals.proofs.Sums.{flagged-more, flagged_fewer, flagged_few, sum_ones}
use Rattle.withdrawals.specs.Regrowths.{earlier, IsShrunk, MeetsRemoved, IsAffectedIn, IsSameAs, IsMarkingIn, IsFoundIn, AreMarksIn}

-- each known node but p has a parent that gives it its value
pub parent_of : (nodes : ℕ) (table : ArcTable) (p : ℕ) (row : Cells) → IsRow nodes table p row → (k : ℕ) → row.known k ≡ true → k ≢ p → IsTight table row k
parent_of nodes table p row r k h n = let b : (m : ℕ) × (m < nodes) × LeadsBack table p row m k = r.back k h in first b.0 b.2
  where
    first : (m : ℕ) → LeadsBack table p row m k → IsTight table row k
    first zero q = absurd (n q)
    first (suc m) q = q.1

-- a known cell whose parent equals a removed arc
pub affected_seed : (table : ArcTable) (removed : ℕ → Type 0) (p : ℕ) (row : Cells) (k : ℕ)
    → row.known k ≡ true → k ≢ p → removed (row.parent k) → IsAffectedIn table removed p row k
affected_seed table removed p row k h n c = record { known = h; steps = 0; meets = (n, c) }

-- a child of an affected cell
pub affected_child : (table : ArcTable) (removed : ℕ → Type 0) (p : ℕ) (row : Cells) (k : ℕ)
    → row.known k ≡ true → k ≢ p → IsAffectedIn table removed p row (table.arc (row.parent k)).from → IsAffectedIn table removed p row k
affected_child table removed p row k h n a = record { known = h; steps = suc a.steps; meets = (n, a.meets) }

-- an affected cell is not p's own
pub affected_away : (table : ArcTable) (removed : ℕ → Type 0) (p : ℕ) (row : Cells) (k : ℕ) → IsAffectedIn table removed p row k → k ≢ p
affected_away table removed p row k a = away a.steps a.meets
  where
    away : (n : ℕ) → MeetsRemoved table removed p row n k → k ≢ p
    away zero m = m.0
    away (suc n) m = m.0

-- marks that are closed have every affected cell
module _ (nodes : ℕ) (table : ArcTable) (was : ℕ → Bool) (removed : ℕ → Type 0) (p : ℕ) (row : Cells) (marked : ℕ → Bool)
    (s : IsShrunk table was removed)
    (r : IsRow nodes (earlier table was) p row)
    (m : AreMarksIn table removed p row marked)
  where
    -- who is not marked has a parent in force from a node that is not marked
    pub unmarked_parent : (k : ℕ) → row.known k ≡ true → k ≢ p → marked k ≡ false
        → (table.in_force (row.parent k) ≡ true) × (marked (table.arc (row.parent k)).from ≡ false)
    unmarked_parent k h n u =
        let t : IsTight (earlier table was) row k = parent_of nodes (earlier table was) p row r k h n in
        elim (s.gone (row.parent k) t.in_force) [
          | inr g ↦ absurd (let w : marked k ≡ true = m.seeds k n h g in let z : ⊥ = cc in z)
          | inl f ↦ (
            f,
            elim (cases_Bool (marked (table.arc (row.parent k)).from)) [
              | inl w ↦ absurd (let v : marked k ≡ true = m.closed k n h f w in let z : ⊥ = cc in z)
              | inr w ↦ w
            ],
          )
        ]

    meets_marked : (n k : ℕ) → row.known k ≡ true → MeetsRemoved table removed p row n k → marked k ≡ true
    meets_marked zero k h q = m.seeds k q.0 h q.1
    meets_marked (suc n) k h q =
        let t : IsTight (earlier table was) row k = parent_of nodes (earlier table was) p row r k h q.0 in
        elim (s.gone (row.parent k) t.in_force) [
          | inr g ↦ m.seeds k q.0 h g
          | inl f ↦ m.closed k q.0 h f (meets_marked n (table.arc (row.parent k)).from t.tail_known q.1)
        ]

    pub affected_marked_in : (k : ℕ) → IsAffectedIn table removed p row k → marked k ≡ true
    affected_marked_in k a = meets_marked a.steps k a.known a.meets

-- nothing is marked yet
pub none_marked_in : (nodes : ℕ) (table : ArcTable) (removed : ℕ → Type 0) (p : ℕ) (row : Cells) (found : ℕ → ℕ)
    → IsMarkingIn nodes table removed p row row (λ _. false) found 0 0
none_marked_in nodes table removed p row found = record {
  cells = record { cleared = λ k w. absurd (let z : ⊥ = cc in z); kept = λ k w. (refl, refl, refl) };
  affected = λ k w. absurd (let z : ⊥ = cc in z);
  within = λ i l. absurd (omega arith);
  among = λ i l. absurd (omega arith);
  listed = λ k w. absurd (let z : ⊥ = cc in z);
  counted = λ each. none_counted nodes each;
  children = λ i l. absurd (omega arith);
}
  where
    none_counted : (n : ℕ) (each : ℕ → ℕ) → flagged_sum n each (λ _. false) ≡ 0
    none_counted zero each = refl
    none_counted (suc n) each = let r : flagged_sum n each (λ _. false) ≡ 0 = none_counted n each in omega arith

module _ (nodes : ℕ) (table : ArcTable) (removed : ℕ → Type 0) (p : ℕ) (row c c' : Cells) (marked marked' : ℕ → Bool) (found found' : ℕ → ℕ) (count done node : ℕ)
    (m : IsMarkingIn nodes table removed p row c marked found count done)
    (below : done ≤ count)
    (within : node < nodes)
    (affected : IsAffectedIn table removed p row node)
    (f : IsFoundIn c c' marked marked' found found' count node)
  where
    pub still_marked_in : (k : ℕ) → marked k ≡ true → marked' k ≡ true
    still_marked_in k w = elim (cases_eq k node) [
      | inl q ↦ subst (λ n. marked' n ≡ true) (sym q) f.marked_now
      | inr n ↦ (f.others k n).0 ∙ w
    ]

    place : (i : ℕ) → i < count + 1 → (i < count) ⊎ (i ≡ count)
    place i l = elim (cases_eq i count) [ inl q ↦ inr q | inr n ↦ inl (omega arith) ]

    -- the next cell is found
    pub found_marking_in : IsMarkingIn nodes table removed p row c' marked' found' (count + 1) done
    found_marking_in = record {
      cells = record {
        cleared = λ k w. elim (cases_eq k node) [
          | inl q ↦ subst (λ n. c'.known n ≡ false) (sym q) f.cleared
          | inr n ↦ (let o : (marked' k ≡ marked k) × IsSameAs c c' k = f.others k n in o.1.0 ∙ m.cells.cleared k (sym o.0 ∙ w))
        ];
        kept = λ k w. elim (cases_eq k node) [
          | inl q ↦ absurd (let v : marked' k ≡ true = ap marked' q ∙ f.marked_now in let z : ⊥ = cc in z)
          | inr n ↦ (let o : (marked' k ≡ marked k) × IsSameAs c c' k = f.others k n in let s : IsSameAs row c k = m.cells.kept k (sym o.0 ∙ w) in (o.1.0 ∙ s.0, o.1.1 ∙ s.1, o.1.2 ∙ s.2))
        ];
      };
      affected = λ k w. elim (cases_eq k node) [
        | inl q ↦ subst (IsAffectedIn table removed p row) (sym q) affected
        | inr n ↦ m.affected k (sym (f.others k n).0 ∙ w)
      ];
      within = λ i l. elim (place i l) [
        | inl b ↦ (let w : found i < nodes = m.within i b in omega (arith, f.before i b))
        | inr q ↦ subst (λ n. found' n < nodes) (sym q) (omega (arith, f.last))
      ];
      among = λ i l. elim (place i l) [
        | inl b ↦ subst (λ n. marked' n ≡ true) (sym (f.before i b)) (still_marked_in (found i) (m.among i b))
        | inr q ↦ subst (λ n. marked' n ≡ true) (sym (ap found' q ∙ f.last)) f.marked_now
      ];
      listed = λ k w. elim (cases_eq k node) [
        | inl q ↦ (count, omega arith, f.last ∙ sym q)
        | inr n ↦ (let r : (i : ℕ) × (i < count) × (found i ≡ k) = m.listed k (sym (f.others k n).0 ∙ w) in (r.0, omega (arith, r.1), f.before r.0 r.1 ∙ r.2))
      ];
      counted = λ each.
          let more : flagged_sum nodes each marked' ≡ flagged_sum nodes each marked + each node = flagged-more nodes each marked marked' node within f.free f.marked_now (λ k n. (f.others k n).0) in
          let was : flagged_sum nodes each marked ≡ sum_to count (λ i. each (found i)) = m.counted each in
          let same : sum_to count (λ i. each (found' i)) ≡ sum_to count (λ i. each (found i)) = sum-same count (λ i. each (found i)) (λ i. each (found' i)) (λ i l. ap each (f.before i l)) in
          let last : each (found' count) ≡ each node = ap each f.last in
          more ∙ push count (λ i. each (found' i)) (flagged_sum nodes each marked) (each node) (was ∙ sym same) last;
      children = λ i l k n h force t.
          let b : i < count = omega arith in
          still_marked_in k (m.children i l k n h force (t ∙ f.before i b));
    }
      where
        push : (n : ℕ) (g : ℕ → ℕ) (a b : ℕ) → a ≡ sum_to n g → g n ≡ b → a + b ≡ sum_to (n + 1) g
        push n g a b e h = omega (arith, sum_next n g)
          where
            sum_next : (n : ℕ) (g : ℕ → ℕ) → sum_to (n + 1) g ≡ sum_to n g + g n
            sum_next n g = subst (λ k. sum_to k g ≡ sum_to n g + g n) (next n) refl
              where
                next : (n : ℕ) → suc n ≡ n + 1
                next n = omega arith

-- the children of the next cell found are seen
pub done_marking_in : (nodes : ℕ) (table : ArcTable) (removed : ℕ → Type 0) (p : ℕ) (row c : Cells) (marked : ℕ → Bool) (found : ℕ → ℕ) (count done : ℕ)
    → IsMarkingIn nodes table removed p row c marked found count done
    → ((k : ℕ) → k ≢ p → row.known k ≡ true → table.in_force (row.parent k) ≡ true → (table.arc (row.parent k)).from ≡ found done → marked k ≡ true)
    → IsMarkingIn nodes table removed p row c marked found count (done + 1)
done_marking_in nodes table removed p row c marked found count done m seen = record {
  cells = m.cells;
  affected = m.affected;
  within = m.within;
  among = m.among;
  listed = m.listed;
  counted = m.counted;
  children = λ i l k n h f t. elim (cases_eq i done) [
    | inl q ↦ seen k n h f (t ∙ ap found q)
    | inr w ↦ m.children i (omega arith) k n h f t
  ];
}

-- at the end the marks are closed
pub are_marks_in : (nodes : ℕ) (table : ArcTable) (removed : ℕ → Type 0) (p : ℕ) (row c : Cells) (marked : ℕ → Bool) (found : ℕ → ℕ) (count : ℕ)
    → IsMarkingIn nodes table removed p row c marked found count count
    → ((k : ℕ) → k ≢ p → row.known k ≡ true → removed (row.parent k) → marked k ≡ true)
    → AreMarksIn table removed p row marked
are_marks_in nodes table removed p row c marked found count m seeds = record {
  affected = m.affected;
  seeds = seeds;
  closed = λ k n h f w. (let r : (i : ℕ) × (i < count) × (found i ≡ (table.arc (row.parent k)).from) = m.listed (table.arc (row.parent k)).from w in m.children r.0 r.1 k n h f (sym r.2));
}

-- where a node is not marked, not all places of a list as long as there are nodes are taken
pub room_in : (nodes : ℕ) (table : ArcTable) (removed : ℕ → Type 0) (p : ℕ) (row c : Cells) (marked : ℕ → Bool) (found : ℕ → ℕ) (count done node : ℕ)
    → IsMarkingIn nodes table removed p row c marked found count done → node < nodes → marked node ≡ false → count < nodes
room_in nodes table removed p row c marked found count done node m within free =
    let few : flagged_sum nodes (λ _. 1) marked < nodes = flagged_fewer nodes marked (λ k. if k == node then true else marked k) node within free
    (cond-true (node == node) true (marked node) (eq-eqb node node refl)) (λ k n. cond-false (k == node) true (marked k) (ne_eqb k node n)) in
    let all : flagged_sum nodes (λ _. 1) marked ≡ sum_to count (λ _. 1) = m.counted (λ _. 1) in
    omega (arith, sum_ones count)

-- no more are found than there are nodes
pub few_found_in : (nodes : ℕ) (table : ArcTable) (removed : ℕ → Type 0) (p : ℕ) (row c : Cells) (marked : ℕ → Bool) (found : ℕ → ℕ) (count done : ℕ)
    → IsMarkingIn nodes table removed p row c marked found count done → count ≤ nodes
few_found_in nodes table removed p row c marked found count done m =
    let all : flagged_sum nodes (λ _. 1) marked ≡ sum_to count (λ _. 1) = m.counted (λ _. 1) in
    let few : flagged_sum nodes (λ _. 1) marked ≤ nodes = flagged_few nodes marked in
    omega (arith, sum_ones count)
