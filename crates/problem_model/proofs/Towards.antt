-- Rows of distances towards a node: the row from it along the reversed arcs.
use Rattle.std.proofs.Common.{◌≡◌, ℕ, ◌<◌, List, get_or, subst, arith, Bool, true, false, inl, inr}
use Rattle.std.specs.Prelude.{ℤ, pos, neg_ℤ, ◌+ℤ◌, ◌-ℤ◌, ◌≤ℤ◌}
use Rattle.std.proofs.lemmas.Int.{ints}
use Rattle.std.proofs.lemmas.Bool.{cases_Bool}
use Rattle.problem_model.specs.Executions.{Arc, at, difference, Obeys, IsExecution, AreWithin, values_by}
use Rattle.problem_model.specs.Differences.{IsGreatest, IsLeast, IsUnbounded}
use Rattle.problem_model.specs.Rows.{IsClosedRow, IsGreatestLead, IsLeastLead, attaining, least_differences}
use Rattle.problem_model.specs.Reversal.{all_reversed, negated}
use Rattle.problem_model.proofs.Executions.{at-values_by, execution_by}
use Rattle.problem_model.proofs.Attaining.{attaining-known, attaining-other, greatest_lead, known_greatest, unknown_unbounded}
use Rattle.problem_model.proofs.Reversal.{All-of_reversed, at-negated, within_reversed, execution_reversed, greatest_of_reversed, unbounded_of_reversed}

-- where a node is known there is a least lead
pub least_lead : (nodes p : ℕ) (known : ℕ → Bool) (least : ℕ → ℤ) (xs : List ℤ)
    → p < nodes → known p ≡ true
    → (K : ℤ) × IsLeastLead nodes known least xs K
least_lead nodes p known least xs l h =
    let r : (K : ℤ) × IsGreatestLead nodes known (λ k. pos 0 -ℤ least k) (negated xs) K = greatest_lead nodes p known (λ k. pos 0 -ℤ least k) (negated xs) l h in
    let e : (pos 0 -ℤ least r.1.attained.0) -ℤ at (negated xs) r.1.attained.0 ≡ r.0 = r.1.attained.3 in (
      pos 0 -ℤ r.0,
      record {
        attained = (r.1.attained.0, r.1.attained.1, r.1.attained.2, omega (arith, ints, at-negated xs r.1.attained.0));
        least_lead = λ k lk kk. (let m : ((pos 0 -ℤ least k) -ℤ at (negated xs) k) ≤ℤ r.0 = r.1.most k lk kk in omega (arith, ints, at-negated xs k));
      },
    )

-- the least lead is one number
pub least_lead_one : (nodes : ℕ) (known : ℕ → Bool) (least : ℕ → ℤ) (xs : List ℤ) (J K : ℤ)
    → IsLeastLead nodes known least xs J → IsLeastLead nodes known least xs K
    → J ≡ K
least_lead_one nodes known least xs J K a b =
    let ea : least a.attained.0 -ℤ at xs a.attained.0 ≡ J = a.attained.3 in
    let eb : least b.attained.0 -ℤ at xs b.attained.0 ≡ K = b.attained.3 in
    let la : K ≤ℤ (least a.attained.0 -ℤ at xs a.attained.0) = b.least_lead a.attained.0 a.attained.1 a.attained.2 in
    let lb : J ≤ℤ (least b.attained.0 -ℤ at xs b.attained.0) = a.least_lead b.attained.0 b.attained.1 b.attained.2 in
    omega (arith, ints)

-- one arc of the execution that attains the least differences
towards_arc : (known : ℕ → Bool) (d : ℕ → ℤ) (xs : List ℤ) (K : ℤ) (a : Arc) → Obeys (at xs) a
    → (known a.to ≡ true → (known a.from ≡ true) × (d a.from ≤ℤ (d a.to +ℤ a.weight))) → (known a.from ≡ true → K ≤ℤ (least_differences d a.from -ℤ at xs a.from))
    → Obeys (attaining known (least_differences d) xs K) a
towards_arc known d xs K a o along least = elim (cases_Bool (known a.to)) [
  | inl t ↦
      let h : known a.from ≡ true = (along t).0 in
      let l : d a.from ≤ℤ (d a.to +ℤ a.weight) = (along t).1 in
      let from : attaining known (least_differences d) xs K a.from ≡ least_differences d a.from = attaining-known known (least_differences d) xs K a.from h in
      let to : attaining known (least_differences d) xs K a.to ≡ least_differences d a.to = attaining-known known (least_differences d) xs K a.to t in
      omega (arith, ints)
  | inr f ↦
      let to : attaining known (least_differences d) xs K a.to ≡ at xs a.to +ℤ K = attaining-other known (least_differences d) xs K a.to f in
      elim (cases_Bool (known a.from)) [
        | inl t ↦ (let from : attaining known (least_differences d) xs K a.from ≡ least_differences d a.from = attaining-known known (least_differences d) xs K a.from t in
            let m : K ≤ℤ (least_differences d a.from -ℤ at xs a.from) = least t in omega (arith, ints))
        | inr g ↦ (let from : attaining known (least_differences d) xs K a.from ≡ at xs a.from +ℤ K = attaining-other known (least_differences d) xs K a.from g in omega (arith, ints))
      ]
]

module _ (nodes : ℕ) (arcs : List Arc) (p : ℕ) (known : ℕ → Bool) (d : ℕ → ℤ) (xs : List ℤ)
    (within : AreWithin nodes arcs)
    (row : IsClosedRow (all_reversed arcs) p known d)
    (x : IsExecution nodes arcs xs)
  where
    -- the least differences of the row, and the other values with the least lead, are an execution
    pub towards_execution : (K : ℤ)
        → IsLeastLead nodes known (least_differences d) xs K
        → IsExecution nodes arcs (values_by (attaining known (least_differences d) xs K) nodes)
    towards_execution K lead = execution_by (attaining known (least_differences d) xs K) nodes arcs within
        (λ k z l. towards_arc known d xs K (get_or arcs k z) (x.obeys k z l) (All-of_reversed
        (λ a. known a.from ≡ true → (known a.to ≡ true) × (d a.to ≤ℤ (d a.from +ℤ a.weight))) arcs row.along k z l) (λ t. lead.least_lead (get_or arcs k z).from (within k z l).0 t))

    -- in it each known node lies at its least difference from p
    pub towards_difference : (K : ℤ) (q : ℕ)
        → p < nodes → q < nodes → known q ≡ true
        → difference (at (values_by (attaining known (least_differences d) xs K) nodes)) p q ≡ least_differences d q
    towards_difference K q lp lq kq =
        let vp : at (values_by (attaining known (least_differences d) xs K) nodes) p ≡ attaining known (least_differences d) xs K p = at-values_by (attaining known (least_differences d) xs K) nodes p lp in
        let vq : at (values_by (attaining known (least_differences d) xs K) nodes) q ≡ attaining known (least_differences d) xs K q = at-values_by (attaining known (least_differences d) xs K) nodes q lq in
        let dp : attaining known (least_differences d) xs K p ≡ least_differences d p = attaining-known known (least_differences d) xs K p row.own.0 in
        let dq : attaining known (least_differences d) xs K q ≡ least_differences d q = attaining-known known (least_differences d) xs K q kq in
        let z : d p ≡ pos 0 = row.own.1 in
        omega (arith, ints)

    -- a known cell is the greatest difference towards p
    pub towards_greatest : (q : ℕ) → p < nodes → q < nodes → known q ≡ true → IsGreatest nodes arcs q p (d q)
    towards_greatest q lp lq kq =
        greatest_of_reversed nodes arcs p q (d q) (known_greatest nodes (all_reversed arcs) p known d (negated xs) (within_reversed nodes arcs within) row (execution_reversed nodes arcs xs x) q lp lq kq)

    -- and its negative the least difference from p
    pub towards_least : (q : ℕ) → p < nodes → q < nodes → known q ≡ true → IsLeast nodes arcs p q (least_differences d q)
    towards_least q lp lq kq = subst (λ v. IsGreatest nodes arcs q p v) (twice (d q)) (towards_greatest q lp lq kq)
      where
        twice : (z : ℤ) → z ≡ neg_ℤ (pos 0 -ℤ z)
        twice z = omega (arith, ints)

    -- from a node that is not known the difference towards p is unbounded
    pub towards_unbounded : (q : ℕ) → p < nodes → q < nodes → known q ≡ false → IsUnbounded nodes arcs q p
    towards_unbounded q lp lq kq =
        unbounded_of_reversed nodes arcs p q (unknown_unbounded nodes (all_reversed arcs) p known d (negated xs) (within_reversed nodes arcs within) row (execution_reversed nodes arcs xs x) q lp lq kq)
