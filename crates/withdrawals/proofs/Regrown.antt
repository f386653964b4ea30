-- Once all are pulled, the row is under way over the cleared row, and settles to the row of the arcs that are left.
use Rattle.std.proofs.Common.{◌≡◌, ℕ, zero, suc, ◌+◌, ◌<◌, ◌≤◌, Bool, true, false, ap, sym, ◌∙◌, arith, inl, inr}
use Rattle.std.specs.Prelude.{ℤ, pos, ◌+ℤ◌, ◌-ℤ◌, ◌≤ℤ◌, ◌<ℤ◌}
use Rattle.std.proofs.lemmas.Int.{ints, by_lt_z}
use Rattle.std.proofs.lemmas.Bool.{cases_Bool, cases_eq, cases_lt}
use Rattle.problem_model.specs.Tables.{ArcTable, ObeysAll}
use Rattle.problem_model.specs.Parents.{Cells, IsRow, IsReached}
use Rattle.problem_model.specs.RowPops.{IsUntouched, IsGiven, IsUnderWay}
use Rattle.problem_model.specs.Sums.{done_sum}
use Rattle.problem_model.proofs.RowSums.{done_none}
use Rattle.problem_model.proofs.RowsUnderWay.{under_way_row}
use Rattle.withdrawals.specs.Regrowths.{IsRemnant, IsPulled, IsRegrown}

-- a number below the first values
least_of : (f : ℕ → ℤ) (n : ℕ) → (least : ℤ) × ((k : ℕ) → k < n → least ≤ℤ f k)
least_of f zero = (pos 0, λ k l. absurd (omega arith))
least_of f (suc n) =
    let r : (least : ℤ) × ((k : ℕ) → k < n → least ≤ℤ f k) = least_of f n in
    by_lt_z {P = (least : ℤ) × ((k : ℕ) → k < suc n → least ≤ℤ f k)} (f n) r.0
    (λ less. (f n, λ k l. elim (cases_eq k n) [ inl q ↦ (let v : f k ≡ f n = ap f q in omega (arith, ints)) | inr w ↦ (let v : r.0 ≤ℤ f k = r.1 k (omega arith) in omega (arith, ints)) ]))
    (λ more. (r.0, λ k l. elim (cases_eq k n) [ inl q ↦ (let v : f k ≡ f n = ap f q in omega (arith, ints)) | inr w ↦ r.1 k (omega arith) ]))

module _ (nodes : ℕ) (table : ArcTable) (p : ℕ) (e : ℕ → ℤ) (old c : Cells) (waits : ℕ → Bool)
    (o : IsRemnant table p old)
    (g : IsRegrown table old c waits)
  where
    -- what was left is untouched
    left_untouched : (k : ℕ) → old.known k ≡ true → IsUntouched old c waits k
    left_untouched k h = elim (g.each k) [ inl u ↦ u | inr q ↦ absurd (let f : old.known k ≡ false = q.unknown in let z : ⊥ = cc in z) ]

    rests_left : (k : ℕ) → c.known k ≡ true → waits k ≡ false → old.known k ≡ true
    rests_left k h w = elim (g.each k) [ inl u ↦ sym u.known ∙ h | inr q ↦ absurd (let f : waits k ≡ true = q.waiting in let z : ⊥ = cc in z) ]

    -- where nodes end, so do the known cells
    pub regrown_past : ((j : ℕ) → table.in_force j ≡ true → (table.arc j).to < nodes) → ((k : ℕ) → nodes ≤ k → old.known k ≡ false) → (k : ℕ) → nodes ≤ k → c.known k ≡ false
    regrown_past within past k l = elim (g.each k) [
      | inl u ↦ u.known ∙ past k l
      | inr q ↦ (let b : (table.arc (c.parent k)).to < nodes = within (c.parent k) q.in_force in absurd (omega (arith, q.ends)))
    ]

    -- a pulled cell is at most one arc above those that are left
    pub regrown_high : (low heavy : ℕ) → ((j : ℕ) → table.in_force j ≡ true → (table.arc j).weight ≤ℤ pos heavy) → ((k : ℕ) → old.known k ≡ true → old.value k ≤ℤ pos low)
        → (k : ℕ) → c.known k ≡ true → c.value k ≤ℤ pos (low + heavy)
    regrown_high low heavy light below k h = elim (g.each k) [
      | inl u ↦ (let b : old.value k ≤ℤ pos low = below k (sym u.known ∙ h) in omega (arith, ints, u.value))
      | inr q ↦
          let b : old.value (table.arc (c.parent k)).from ≤ℤ pos low = below (table.arc (c.parent k)).from q.tail_known in
          let w : (table.arc (c.parent k)).weight ≤ℤ pos heavy = light (c.parent k) q.in_force in
          omega (arith, ints, q.value)
    ]

    pulled_given : (top : ℤ) (k : ℕ) → IsPulled table old c waits k → IsGiven table p e top (λ _. 0) old c waits k
    pulled_given top k q =
        let u : IsUntouched old c waits (table.arc (c.parent k)).from = left_untouched (table.arc (c.parent k)).from q.tail_known in
        let a : (x : ℕ → ℤ) × ObeysAll table x × (x (table.arc (c.parent k)).from -ℤ x p ≡ old.value (table.arc (c.parent k)).from) = o.attained (table.arc (c.parent k)).from q.tail_known in
        record {
          away = λ y. (let s : old.known p ≡ true = o.own.0 in let f : old.known p ≡ false = ap old.known (sym y) ∙ q.unknown in cc);
          tight = record { in_force = q.in_force; ends = q.ends; tail_known = u.known ∙ q.tail_known; value = (let v : c.value k ≡ old.value (table.arc (c.parent k)).from +ℤ (table.arc (c.parent k)).weight = q.value in omega (arith, ints, u.value)) };
          rests = u.rests;
          final = inr (a.0, a.1, a.2 ∙ sym u.value);
          ranked = λ f. absurd (elim f [
            | inl h ↦ (let t : old.known (table.arc (c.parent k)).from ≡ true = q.tail_known in cc)
            | inr l ↦ (let l1 : c.value (table.arc (c.parent k)).from <ℤ old.value (table.arc (c.parent k)).from = l in omega (arith, ints, u.value))
          ]);
        }

    -- the start of the settling
    pub regrown_under_way : (base heavy : ℕ) → ((k : ℕ) → nodes ≤ k → c.known k ≡ false) → ((k : ℕ) → c.known k ≡ true → c.value k ≤ℤ pos base)
        → IsUnderWay nodes table p e base heavy old c waits
    regrown_under_way base heavy past high =
        let t : (least : ℤ) × ((k : ℕ) → k < nodes → least ≤ℤ (c.value k -ℤ e k)) = least_of (λ k. c.value k -ℤ e k) nodes in
        record {
          top = t.0;
          rank = λ _. 0;
          relaxing = record {
            own = (let u : IsUntouched old c waits p = left_untouched p o.own.0 in (u.known ∙ o.own.0, u.value ∙ o.own.1, u.parent ∙ o.own.2));
            each = λ k. elim (g.each k) [ inl u ↦ inl u | inr q ↦ inr (record { known = q.known; fresh = inl q.unknown; given = inr (pulled_given t.0 k q) }) ];
            above = λ k w. elim (cases_lt k nodes) [
              | inl l ↦ t.1 k l
              | inr l ↦ elim (g.each k) [
                | inl u ↦ absurd (let f : waits k ≡ false = u.rests in let z : ⊥ = cc in z)
                | inr q ↦ absurd (let f : c.known k ≡ false = past k l in let f2 : c.known k ≡ true = q.known in let z : ⊥ = cc in z)
              ]
            ];
            below = λ k w h f. absurd (let l : old.known k ≡ true = rests_left k h w in elim f [
              | inl u ↦ cc
              | inr l2 ↦ (let l3 : c.value k <ℤ old.value k = l2 in omega (arith, ints, (left_untouched k l).value))
            ]);
            met = λ j f h w.
                let lt : old.known (table.arc j).from ≡ true = rests_left (table.arc j).from h w in
                let ut : IsUntouched old c waits (table.arc j).from = left_untouched (table.arc j).from lt in
                elim (cases_Bool (old.known (table.arc j).to)) [
                  | inl lh ↦ (let uh : IsUntouched old c waits (table.arc j).to = left_untouched (table.arc j).to lh in let a : old.value (table.arc j).to ≤ℤ (old.value (table.arc j).from +ℤ (table.arc j).weight) = o.along j f lt lh in (uh.known ∙ lh, omega (arith, ints, ut.value, uh.value)))
                  | inr lh ↦ (let a : IsReached table c (old.value (table.arc j).from) j = g.met j f lt lh in let a1 : c.value (table.arc j).to ≤ℤ (old.value (table.arc j).from +ℤ (table.arc j).weight) = a.1 in (a.0, omega (arith, ints, ut.value)))
                ];
            bound = λ x ox k h. elim (g.each k) [
              | inl u ↦ (let b : (x k -ℤ x p) ≤ℤ old.value k = o.bound x ox k (sym u.known ∙ h) in omega (arith, ints, u.value))
              | inr q ↦
                  let a : (x (table.arc (c.parent k)).to -ℤ x (table.arc (c.parent k)).from) ≤ℤ (table.arc (c.parent k)).weight = ox (c.parent k) q.in_force in
                  let b : (x (table.arc (c.parent k)).from -ℤ x p) ≤ℤ old.value (table.arc (c.parent k)).from = o.bound x ox (table.arc (c.parent k)).from q.tail_known in
                  let eh : x (table.arc (c.parent k)).to ≡ x k = ap x q.ends in
                  let v : c.value k ≡ old.value (table.arc (c.parent k)).from +ℤ (table.arc (c.parent k)).weight = q.value in
                  omega (arith, ints)
            ];
          };
          ranks = λ k. omega arith;
          high = λ k h. (let v : c.value k ≤ℤ pos base = high k h in omega (arith, ints));
          past = past;
        }

-- at the start no pop is done
pub regrown_free : (nodes : ℕ) (table : ArcTable) (old c : Cells) (waits : ℕ → Bool) → IsRegrown table old c waits → (each : ℕ → ℕ) → done_sum nodes each old c waits ≡ 0
regrown_free nodes table old c waits g each = done_none nodes each old c waits (λ k. elim (g.each k) [ inl u ↦ inr (u.value, u.known) | inr q ↦ inl q.waiting ])

-- at the end it is the row of the arcs that are left
pub regrown_row : (nodes : ℕ) (table : ArcTable) (p : ℕ) (e : ℕ → ℤ) (base heavy : ℕ) (old c : Cells) (waits : ℕ → Bool)
    → IsRemnant table p old → IsUnderWay nodes table p e base heavy old c waits → ((k : ℕ) → waits k ≡ false)
    → IsRow nodes table p c
regrown_row nodes table p e base heavy old c waits o u none = under_way_row nodes table p e base heavy old c waits u none o.chains
