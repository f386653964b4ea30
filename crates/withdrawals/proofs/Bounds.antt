-- What the repair costs: so much for each cell that is marked, and those are the affected ones.
use Rattle.std.proofs.Common.{◌≡◌, ℕ, zero, suc, ◌+◌, ◌*◌, ◌<◌, ◌≤◌, Bool, true, false, refl, ap, sym, ◌∙◌, arith, inl, inr}
use Rattle.std.specs.Prelude.{ℤ, ◌-ℤ◌, ◌≤ℤ◌, ◌<ℤ◌, ◌||◌, not, if◌then◌else◌, int_lt}
use Rattle.std.proofs.lemmas.Int.{ints}
use Rattle.std.proofs.lemmas.Bool.{cases_Bool}
use Rattle.problem_model.specs.Tables.{ArcTable, ObeysAll}
use Rattle.problem_model.specs.Parents.{Cells, LeadsBack, IsRow, IsRelaxed}
use Rattle.problem_model.specs.RowPops.{IsFresh, IsUnderWay}
use Rattle.problem_model.specs.Sums.{is_changed, changed_sum}
use Rattle.problem_model.proofs.Sums.{lt_false}
use Rattle.withdrawals.specs.Withdrawals.{flagged_sum}
use Rattle.withdrawals.proofs.Sums.{flagged_below, flagged_both}
use Rattle.withdrawals.specs.Regrowths.{earlier, IsShrunk, IsAffectedIn, IsSameAs, IsCleared, AreMarksIn, IsRemnant}
use Rattle.withdrawals.proofs.Regrown.{regrown_row}

unchanged_same : (a b : ℤ) (h k : Bool) → a ≡ b → h ≡ k → ((int_lt a b || int_lt b a) || (if h then not k else k)) ≡ false
unchanged_same a b h k e f = rw (e, f, lt_false b b (omega (arith, ints))) (both k)
  where
    both : (k : Bool) → (if k then not k else k) ≡ false
    both true = refl
    both false = refl

module _ (nodes : ℕ) (table : ArcTable) (was : ℕ → Bool) (removed : ℕ → Type 0) (p : ℕ) (e : ℕ → ℤ) (base heavy : ℕ) (row old c : Cells) (marked waits : ℕ → Bool)
    (s : IsShrunk table was removed)
    (r : IsRow nodes (earlier table was) p row)
    (d : IsCleared row old marked)
    (o : IsRemnant table p old)
    (u : IsUnderWay nodes table p e base heavy old c waits)
    (none : (k : ℕ) → waits k ≡ false)
  where
    settled : IsRow nodes table p c
    settled = regrown_row nodes table p e base heavy old c waits o u none

    -- who is known at the end was known before
    known_along : (n k : ℕ) → LeadsBack table p c n k → row.known k ≡ true
    known_along zero k q = ap row.known q ∙ r.own.0
    known_along (suc n) k q =
        let t : row.known (table.arc (c.parent k)).from ≡ true = known_along n (table.arc (c.parent k)).from q.2 in
        let a : IsRelaxed (earlier table was) row (c.parent k) = r.along (c.parent k) (s.left (c.parent k) q.1.in_force) t in
        ap row.known (sym q.1.ends) ∙ a.0

    known_before : (k : ℕ) → c.known k ≡ true → row.known k ≡ true
    known_before k h = let b : (n : ℕ) × (n < nodes) × LeadsBack table p c n k = settled.back k h in known_along b.0 k b.2

    unknown_marked : (k : ℕ) → c.known k ≡ true → old.known k ≡ false → marked k ≡ true
    unknown_marked k h f = elim (cases_Bool (marked k)) [
      | inl t ↦ t
      | inr w ↦ absurd (let a : old.known k ≡ row.known k = (d.kept k w).0 in let b : row.known k ≡ true = known_before k h in let z : ⊥ = cc in z)
    ]

    touched_marked : (k : ℕ) → c.known k ≡ true → IsFresh old c k → marked k ≡ true
    touched_marked k h f = elim f [
      | inl n ↦ unknown_marked k h n
      | inr l ↦ elim (cases_Bool (old.known k)) [
        | inr n ↦ unknown_marked k h n
        | inl t ↦
            let l1 : c.value k <ℤ old.value k = l in
            let a : (x : ℕ → ℤ) × ObeysAll table x × (x k -ℤ x p ≡ old.value k) = o.attained k t in
            let b : (a.0 k -ℤ a.0 p) ≤ℤ c.value k = u.relaxing.bound a.0 a.1 k h in
            let v : a.0 k -ℤ a.0 p ≡ old.value k = a.2 in
            absurd (omega (arith, ints))
      ]
    ]

    -- a cell that is changed over the cleared row is marked
    pub changed_marked : (k : ℕ) → is_changed old c k ≡ true → marked k ≡ true
    changed_marked k h = elim (u.relaxing.each k) [
      | inl q ↦ absurd (let f : is_changed old c k ≡ false = unchanged_same (c.value k) (old.value k) (c.known k) (old.known k) q.value q.known in let z : ⊥ = cc in z)
      | inr t ↦ touched_marked k t.known t.fresh
    ]

    -- and one that is not marked is that of the row
    pub unmarked_same : (k : ℕ) → marked k ≡ false → IsSameAs row c k
    unmarked_same k f = elim (u.relaxing.each k) [
      | inl q ↦ (let b : IsSameAs row old k = d.kept k f in (q.known ∙ b.0, q.value ∙ b.1, q.parent ∙ b.2))
      | inr t ↦ absurd (let m : marked k ≡ true = touched_marked k t.known t.fresh in let z : ⊥ = cc in z)
    ]

    pub changed_within : (each : ℕ → ℕ) → changed_sum nodes each old c ≤ flagged_sum nodes each marked
    changed_within each = flagged_below nodes each each (is_changed old c) marked (λ k l h. changed_marked k h) (λ k l. omega arith)

-- the marking, the pull and the settling together
pub regrowth_cost : (nodes : ℕ) (table : ArcTable) (removed : ℕ → Type 0) (p : ℕ) (row : Cells) (marked flag : ℕ → Bool) (onward back : ℕ → ℕ) (marking pull settle : ℕ)
    → AreMarksIn table removed p row marked → ((k : ℕ) → IsAffectedIn table removed p row k → flag k ≡ true)
    → marking ≤ flagged_sum nodes (λ k. onward k + 1) marked → pull ≤ flagged_sum nodes (λ k. back k + 1) marked → settle ≤ flagged_sum nodes (λ k. onward k + 2) marked + 1
    → marking + pull + settle ≤ flagged_sum nodes (λ k. 2 * (onward k + back k) + 5) flag + 2
regrowth_cost nodes table removed p row marked flag onward back marking pull settle m cover a b c =
    let first : flagged_sum nodes (λ k. (onward k + 1) + (back k + 1)) marked ≡ flagged_sum nodes (λ k. onward k + 1) marked + flagged_sum nodes (λ k. back k + 1) marked =
    flagged_both nodes (λ k. onward k + 1) (λ k. back k + 1) (λ k. (onward k + 1) + (back k + 1)) marked (λ k. refl) in
    let all : flagged_sum nodes (λ k. ((onward k + 1) + (back k + 1)) + (onward k + 2)) marked ≡ flagged_sum nodes (λ k. (onward k + 1) + (back k + 1)) marked + flagged_sum nodes (λ k. onward k + 2) marked =
    flagged_both nodes (λ k. (onward k + 1) + (back k + 1)) (λ k. onward k + 2) (λ k. ((onward k + 1) + (back k + 1)) + (onward k + 2)) marked (λ k. refl) in
    let wide : flagged_sum nodes (λ k. ((onward k + 1) + (back k + 1)) + (onward k + 2)) marked ≤ flagged_sum nodes (λ k. 2 * (onward k + back k) + 5) flag =
    flagged_below nodes (λ k. ((onward k + 1) + (back k + 1)) + (onward k + 2)) (λ k. 2 * (onward k + back k) + 5) marked flag (λ k l w. cover k (m.affected k w)) (λ k l. omega arith) in
    omega arith
