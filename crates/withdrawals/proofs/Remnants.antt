-- The cells that are left, once those affected are cleared.
use Rattle.std.proofs.Common.{◌≡◌, ℕ, zero, suc, ◌<◌, Bool, true, false, refl, ap, sym, ◌∙◌, subst, arith, inl, inr}
use Rattle.std.specs.Prelude.{ℤ, pos, ◌+ℤ◌, ◌-ℤ◌, ◌≤ℤ◌, if◌then◌else◌}
use Rattle.std.proofs.lemmas.Int.{ints, by_lt_z}
use Rattle.std.proofs.lemmas.Bool.{cases_Bool, cases_eq, cases_lt, cond-true, cond-false}
use Rattle.problem_model.specs.Tables.{ArcTable, ObeysAll}
use Rattle.problem_model.specs.Parents.{Cells, LeadsBack, IsRow, IsRelaxed}
use Rattle.problem_model.proofs.Parents.{chain_bound}
use Rattle.withdrawals.specs.Regrowths.{earlier, IsShrunk, IsSameAs, IsCleared, AreMarksIn, IsRemnant}
use Rattle.withdrawals.proofs.Marks.{affected_away, unmarked_parent}

-- a number above the first values
pub most_of : (f : ℕ → ℤ) (n : ℕ) → (most : ℤ) × ((k : ℕ) → k < n → f k ≤ℤ most)
most_of f zero = (pos 0, λ k l. absurd (omega arith))
most_of f (suc n) =
    let r : (most : ℤ) × ((k : ℕ) → k < n → f k ≤ℤ most) = most_of f n in
    by_lt_z {P = (most : ℤ) × ((k : ℕ) → k < suc n → f k ≤ℤ most)} (f n) r.0
    (λ less. (r.0, λ k l. elim (cases_eq k n) [ inl q ↦ (let v : f k ≡ f n = ap f q in omega (arith, ints)) | inr w ↦ r.1 k (omega arith) ]))
    (λ more. (f n, λ k l. elim (cases_eq k n) [ inl q ↦ (let v : f k ≡ f n = ap f q in omega (arith, ints)) | inr w ↦ (let v : f k ≤ℤ r.0 = r.1 k (omega arith) in omega (arith, ints)) ]))

-- the distances of a row, and the other values raised by so much
pub raised_by : Cells → (ℕ → ℤ) → ℤ → ℕ → ℤ
raised_by row e top k = if row.known k then row.value k else (e k +ℤ top)

pub raised-known : (row : Cells) (e : ℕ → ℤ) (top : ℤ) (k : ℕ) → row.known k ≡ true → raised_by row e top k ≡ row.value k
unfolding raised_by
raised-known row e top k h = cond-true (row.known k) (row.value k) (e k +ℤ top) h

pub raised-other : (row : Cells) (e : ℕ → ℤ) (top : ℤ) (k : ℕ) → row.known k ≡ false → raised_by row e top k ≡ e k +ℤ top
unfolding raised_by
raised-other row e top k h = cond-false (row.known k) (row.value k) (e k +ℤ top) h

module _ (nodes : ℕ) (table : ArcTable) (was : ℕ → Bool) (removed : ℕ → Type 0) (p : ℕ) (e : ℕ → ℤ) (row : Cells)
    (s : IsShrunk table was removed)
    (r : IsRow nodes (earlier table was) p row)
    (o : ObeysAll table e)
  where
    -- an execution of the arcs that are left attains every distance of the row
    pub raised_obeys : (top : ℤ) → ((k : ℕ) → k < nodes → (row.value k -ℤ e k) ≤ℤ top) → ObeysAll table (raised_by row e top)
    raised_obeys top most j f =
        let oe : (e (table.arc j).to -ℤ e (table.arc j).from) ≤ℤ (table.arc j).weight = o j f in
        elim (cases_Bool (row.known (table.arc j).from)) [
          | inl t ↦
              let a : IsRelaxed (earlier table was) row j = r.along j (s.left j f) t in
              let a1 : row.value (table.arc j).to ≤ℤ (row.value (table.arc j).from +ℤ (table.arc j).weight) = a.1 in
              omega (arith, ints, raised-known row e top (table.arc j).from t, raised-known row e top (table.arc j).to a.0)
          | inr u ↦ elim (cases_Bool (row.known (table.arc j).to)) [
            | inl h ↦
                let below : (row.value (table.arc j).to -ℤ e (table.arc j).to) ≤ℤ top = elim (cases_lt (table.arc j).to nodes) [
                  | inl l ↦ most (table.arc j).to l
                  | inr l ↦ absurd (let v : row.known (table.arc j).to ≡ false = r.past (table.arc j).to l in let z : ⊥ = cc in z)
                ] in
                omega (arith, ints, raised-other row e top (table.arc j).from u, raised-known row e top (table.arc j).to h)
            | inr h ↦ omega (arith, ints, raised-other row e top (table.arc j).from u, raised-other row e top (table.arc j).to h)
          ]
        ]

    pub row_attained : (k : ℕ) → row.known k ≡ true → (x : ℕ → ℤ) × ObeysAll table x × (x k -ℤ x p ≡ row.value k)
    row_attained k h =
        let m : (most : ℤ) × ((k : ℕ) → k < nodes → (row.value k -ℤ e k) ≤ℤ most) = most_of (λ k. row.value k -ℤ e k) nodes in
        let z : row.value p ≡ pos 0 = r.own.1 in
        (raised_by row e m.0, raised_obeys m.0 m.1, omega (arith, ints, raised-known row e m.0 k h, raised-known row e m.0 p r.own.0))

    module _ (c : Cells) (marked : ℕ → Bool)
        (m : AreMarksIn table removed p row marked)
        (d : IsCleared row c marked)
      where
        pub unmarked_in : (k : ℕ) → c.known k ≡ true → marked k ≡ false
        unmarked_in k h = elim (cases_Bool (marked k)) [ inl t ↦ absurd (let f : c.known k ≡ false = d.cleared k t in let z : ⊥ = cc in z) | inr f ↦ f ]

        own_unmarked : marked p ≡ false
        own_unmarked = elim (cases_Bool (marked p)) [ inl t ↦ absurd (affected_away table removed p row p (m.affected p t) refl) | inr f ↦ f ]

        chain_left : (n k : ℕ) → c.known k ≡ true → LeadsBack (earlier table was) p row n k → LeadsBack table p c n k
        chain_left zero k h q = q
        chain_left (suc n) k h q =
            let u : marked k ≡ false = unmarked_in k h in
            let w : IsSameAs row c k = d.kept k u in
            let cl : (table.in_force (row.parent k) ≡ true) × (marked (table.arc (row.parent k)).from ≡ false) =
            unmarked_parent nodes table was removed p row marked s r m k (sym w.0 ∙ h) q.0 u in
            let t : IsSameAs row c (table.arc (row.parent k)).from = d.kept (table.arc (row.parent k)).from cl.1 in
            let kt : c.known (table.arc (row.parent k)).from ≡ true = t.0 ∙ q.1.tail_known in (
              q.0,
              record {
                in_force = subst (λ j. table.in_force j ≡ true) (sym w.2) cl.0;
                ends = subst (λ j. (table.arc j).to ≡ k) (sym w.2) q.1.ends;
                tail_known = subst (λ j. c.known (table.arc j).from ≡ true) (sym w.2) kt;
                value = subst (λ j. c.value k ≡ c.value (table.arc j).from +ℤ (table.arc j).weight) (sym w.2)
                    (let v : row.value k ≡ row.value (table.arc (row.parent k)).from +ℤ (table.arc (row.parent k)).weight = q.1.value in omega (arith, ints, w.1, t.1));
              },
              subst (λ j. LeadsBack table p c n (table.arc j).from) (sym w.2) (chain_left n (table.arc (row.parent k)).from kt q.2),
            )

        pub left_chains : (k : ℕ) → c.known k ≡ true → (n : ℕ) × LeadsBack table p c n k
        left_chains k h =
            let q : (n : ℕ) × (n < nodes) × LeadsBack (earlier table was) p row n k = r.back k (sym (d.kept k (unmarked_in k h)).0 ∙ h) in
            (q.0, chain_left q.0 k h q.2)

        -- the cells that are left hold for the arcs that are left
        pub remnant_of : IsRemnant table p c
        remnant_of =
            let w : IsSameAs row c p = d.kept p own_unmarked in
            record {
              own = (w.0 ∙ r.own.0, w.1 ∙ r.own.1, w.2 ∙ r.own.2);
              chains = left_chains;
              bound = λ x ox k h. chain_bound table p c x ox (w.1 ∙ r.own.1) (left_chains k h).0 k (left_chains k h).1;
              attained = λ k h.
                  let v : IsSameAs row c k = d.kept k (unmarked_in k h) in
                  let a : (x : ℕ → ℤ) × ObeysAll table x × (x k -ℤ x p ≡ row.value k) = row_attained k (sym v.0 ∙ h) in
                  (a.0, a.1, a.2 ∙ sym v.1);
              along = λ j f ht hh.
                  let wt : IsSameAs row c (table.arc j).from = d.kept (table.arc j).from (unmarked_in (table.arc j).from ht) in
                  let wh : IsSameAs row c (table.arc j).to = d.kept (table.arc j).to (unmarked_in (table.arc j).to hh) in
                  let a : IsRelaxed (earlier table was) row j = r.along j (s.left j f) (sym wt.0 ∙ ht) in
                  let a1 : row.value (table.arc j).to ≤ℤ (row.value (table.arc j).from +ℤ (table.arc j).weight) = a.1 in
                  omega (arith, ints, wt.1, wh.1);
            }

        -- an arc in force from a cell that is left leads to one that is left, or to a marked one
        pub open_marked_in : (j : ℕ) → table.in_force j ≡ true → c.known (table.arc j).from ≡ true → c.known (table.arc j).to ≡ false → marked (table.arc j).to ≡ true
        open_marked_in j f ht hh = elim (cases_Bool (marked (table.arc j).to)) [
          | inl t ↦ t
          | inr u ↦ absurd
              (let a : row.known (table.arc j).to ≡ true = (r.along j (s.left j f) (sym (d.kept (table.arc j).from (unmarked_in (table.arc j).from ht)).0 ∙ ht)).0 in
              let w : c.known (table.arc j).to ≡ row.known (table.arc j).to = (d.kept (table.arc j).to u).0 in let z : ⊥ = cc in z)
        ]

-- the start of the repair
pub remnant : (nodes : ℕ) (table : ArcTable) (was : ℕ → Bool) (removed : ℕ → Type 0) (p : ℕ) (e : ℕ → ℤ) (row c : Cells) (marked : ℕ → Bool)
    → IsShrunk table was removed → IsRow nodes (earlier table was) p row → AreMarksIn table removed p row marked → IsCleared row c marked
    → ObeysAll table e → IsRemnant table p c
remnant nodes table was removed p e row c marked s r m d o = remnant_of nodes table was removed p e row s r o c marked m d
