-- The executions that attain the distances of a row.
use Rattle.std.proofs.Common.{◌≡◌, ℕ, zero, suc, ◌<◌, List, [], ◌∷◌, get_or, arith, Bool, true, false, inl, inr, ap, sym, ◌∙◌, subst, ◌⊎◌}
use Rattle.std.specs.Prelude.{ℤ, pos, neg_ℤ, ◌*◌, ◌+ℤ◌, ◌-ℤ◌, ◌≤ℤ◌, All}
use Rattle.std.proofs.lemmas.Int.{ints, by_lt_z}
use Rattle.std.proofs.lemmas.Bool.{cases_Bool, cases_eq, cond-true, cond-false}
use Rattle.std.proofs.lemmas.List.Elements.{All-head, All-tail, All-contains}
use Rattle.problem_model.specs.Executions.{Arc, at, difference, Obeys, IsExecution, AreWithin, values_by}
use Rattle.problem_model.specs.Paths.{Joins, sum_of, IsPath}
use Rattle.problem_model.specs.Differences.{IsGreatest, IsUnbounded}
use Rattle.problem_model.specs.Rows.{IsClosedRow, IsGreatestLead, attaining}
use Rattle.problem_model.proofs.Executions.{at-values_by, execution_by}
use Rattle.problem_model.proofs.Paths.{greatest_from}
use Rattle.problem_model.proofs.Cuts.{cut_unbounded}

pub attaining-known : (known : ℕ → Bool) (d : ℕ → ℤ) (xs : List ℤ) (K : ℤ) (k : ℕ) → known k ≡ true → attaining known d xs K k ≡ d k
attaining-known known d xs K k h = cond-true (known k) (d k) (at xs k +ℤ K) h

pub attaining-other : (known : ℕ → Bool) (d : ℕ → ℤ) (xs : List ℤ) (K : ℤ) (k : ℕ) → known k ≡ false → attaining known d xs K k ≡ at xs k +ℤ K
attaining-other known d xs K k h = cond-false (known k) (d k) (at xs k +ℤ K) h

-- the greatest lead is one number
pub greatest_lead_one : (nodes : ℕ) (known : ℕ → Bool) (d : ℕ → ℤ) (xs : List ℤ) (J K : ℤ)
    → IsGreatestLead nodes known d xs J → IsGreatestLead nodes known d xs K
    → J ≡ K
greatest_lead_one nodes known d xs J K a b =
    let ea : d a.attained.0 -ℤ at xs a.attained.0 ≡ J = a.attained.3 in
    let eb : d b.attained.0 -ℤ at xs b.attained.0 ≡ K = b.attained.3 in
    let la : (d a.attained.0 -ℤ at xs a.attained.0) ≤ℤ K = b.most a.attained.0 a.attained.1 a.attained.2 in
    let lb : (d b.attained.0 -ℤ at xs b.attained.0) ≤ℤ J = a.most b.attained.0 b.attained.1 b.attained.2 in
    omega (arith, ints)

-- among the first nodes none is known, or there is a greatest lead
lead_upto : (known : ℕ → Bool) (d : ℕ → ℤ) (xs : List ℤ) (n : ℕ) → ((k : ℕ) → k < n → known k ≡ false) ⊎ ((K : ℤ) × IsGreatestLead n known d xs K)
lead_upto known d xs zero = inl (λ k l. absurd (omega arith))
lead_upto known d xs (suc n) = elim (cases_Bool (known n)) [
  | inr u ↦ elim (lead_upto known d xs n) [
    | inl none ↦ inl (λ k l. elim (cases_eq k n) [ inl e ↦ ap known e ∙ u | inr w ↦ none k (omega arith) ])
    | inr r ↦ inr (
      r.0,
      record {
        attained = (r.1.attained.0, (let l : r.1.attained.0 < n = r.1.attained.1 in omega arith), r.1.attained.2, r.1.attained.3);
        most = λ k l h. elim (cases_eq k n) [ inl e ↦ absurd (let f : known k ≡ false = ap known e ∙ u in let g : ⊥ = cc in g) | inr w ↦ r.1.most k (omega arith) h ];
      },
    )
  ]
  | inl t ↦ elim (lead_upto known d xs n) [
    | inl none ↦ inr (own t (λ k l h. absurd (let f : known k ≡ false = none k l in let g : ⊥ = cc in g)))
    | inr r ↦ by_lt_z {P = ((k : ℕ) → k < suc n → known k ≡ false) ⊎ ((K : ℤ) × IsGreatestLead (suc n) known d xs K)} r.0 (d n -ℤ at xs n)
        (λ less. inr (own t (λ k l h. (let m : (d k -ℤ at xs k) ≤ℤ r.0 = r.1.most k l h in omega (arith, ints)))))
        (λ more. inr (
          r.0,
          record {
            attained = (r.1.attained.0, (let l : r.1.attained.0 < n = r.1.attained.1 in omega arith), r.1.attained.2, r.1.attained.3);
            most = λ k l h. elim (cases_eq k n) [ inl e ↦ subst (λ v. (d v -ℤ at xs v) ≤ℤ r.0) (sym e) more | inr w ↦ r.1.most k (omega arith) h ];
          },
        ))
  ]
]
  where
    own : known n ≡ true → ((k : ℕ) → k < n → known k ≡ true → (d k -ℤ at xs k) ≤ℤ (d n -ℤ at xs n)) → (K : ℤ) × IsGreatestLead (suc n) known d xs K
    own t below = (
      d n -ℤ at xs n,
      record {
        attained = (n, omega arith, t, omega (arith, ints));
        most = λ k l h. elim (cases_eq k n) [ inl e ↦ subst (λ v. (d v -ℤ at xs v) ≤ℤ (d n -ℤ at xs n)) (sym e) (omega (arith, ints)) | inr w ↦ below k (omega arith) h ];
      },
    )

-- where a node is known there is a greatest lead
pub greatest_lead : (nodes p : ℕ) (known : ℕ → Bool) (d : ℕ → ℤ) (xs : List ℤ)
    → p < nodes → known p ≡ true
    → (K : ℤ) × IsGreatestLead nodes known d xs K
greatest_lead nodes p known d xs l h = elim (lead_upto known d xs nodes) [
  | inl none ↦ absurd (let f : known p ≡ false = none p l in let g : ⊥ = cc in g)
  | inr r ↦ r
]

-- one arc of the attaining execution
attaining_arc : (known : ℕ → Bool) (d : ℕ → ℤ) (xs : List ℤ) (K : ℤ) (a : Arc) → Obeys (at xs) a
    → (known a.from ≡ true → (known a.to ≡ true) × (d a.to ≤ℤ (d a.from +ℤ a.weight))) → (known a.to ≡ true → (d a.to -ℤ at xs a.to) ≤ℤ K)
    → Obeys (attaining known d xs K) a
attaining_arc known d xs K a o along most = elim (cases_Bool (known a.from)) [
  | inl t ↦
      let h : known a.to ≡ true = (along t).0 in
      let l : d a.to ≤ℤ (d a.from +ℤ a.weight) = (along t).1 in
      let from : attaining known d xs K a.from ≡ d a.from = attaining-known known d xs K a.from t in
      let to : attaining known d xs K a.to ≡ d a.to = attaining-known known d xs K a.to h in
      omega (arith, ints)
  | inr f ↦
      let from : attaining known d xs K a.from ≡ at xs a.from +ℤ K = attaining-other known d xs K a.from f in
      elim (cases_Bool (known a.to)) [
        | inl t ↦ (let to : attaining known d xs K a.to ≡ d a.to = attaining-known known d xs K a.to t in let m : (d a.to -ℤ at xs a.to) ≤ℤ K = most t in omega (arith, ints))
        | inr g ↦ (let to : attaining known d xs K a.to ≡ at xs a.to +ℤ K = attaining-other known d xs K a.to g in omega (arith, ints))
      ]
]

-- where differences and values are small, so are the values of an attaining execution
pub attaining_upto : (nodes height : ℕ) (known : ℕ → Bool) (d : ℕ → ℤ) (xs : List ℤ) (K : ℤ)
    → ((k : ℕ) → k < nodes → known k ≡ true → (neg_ℤ (pos height) ≤ℤ d k) × (d k ≤ℤ pos height))
    → ((k : ℕ) → k < nodes → (pos 0 ≤ℤ at xs k) × (at xs k ≤ℤ pos height)) → (k : ℕ) × (k < nodes) × (known k ≡ true) × (d k -ℤ at xs k ≡ K)
    → (k : ℕ) → k < nodes
    → (neg_ℤ (pos (2 * height)) ≤ℤ attaining known d xs K k) × (attaining known d xs K k ≤ℤ pos (2 * height))
attaining_upto nodes height known d xs K small values at_k k l =
    let dl : neg_ℤ (pos height) ≤ℤ d at_k.0 = (small at_k.0 at_k.1 at_k.2).0 in
    let dh : d at_k.0 ≤ℤ pos height = (small at_k.0 at_k.1 at_k.2).1 in
    let vl : pos 0 ≤ℤ at xs at_k.0 = (values at_k.0 at_k.1).0 in
    let vh : at xs at_k.0 ≤ℤ pos height = (values at_k.0 at_k.1).1 in
    let e : d at_k.0 -ℤ at xs at_k.0 ≡ K = at_k.3 in
    let xl : pos 0 ≤ℤ at xs k = (values k l).0 in
    let xh : at xs k ≤ℤ pos height = (values k l).1 in
    elim (cases_Bool (known k)) [
      | inl t ↦
          let ol : neg_ℤ (pos height) ≤ℤ d k = (small k l t).0 in
          let oh : d k ≤ℤ pos height = (small k l t).1 in
          (omega (arith, ints, attaining-known known d xs K k t), omega (arith, ints, attaining-known known d xs K k t))
      | inr f ↦ (omega (arith, ints, attaining-other known d xs K k f), omega (arith, ints, attaining-other known d xs K k f))
    ]

module _ (nodes : ℕ) (arcs : List Arc) (p : ℕ) (known : ℕ → Bool) (d : ℕ → ℤ) (xs : List ℤ)
    (within : AreWithin nodes arcs)
    (row : IsClosedRow arcs p known d)
    (x : IsExecution nodes arcs xs)
  where
    -- the distances of a row, and the other values with the greatest lead, are an execution
    pub attaining_execution : (K : ℤ) → IsGreatestLead nodes known d xs K → IsExecution nodes arcs (values_by (attaining known d xs K) nodes)
    attaining_execution K lead = execution_by (attaining known d xs K) nodes arcs within
        (λ k z l. attaining_arc known d xs K (get_or arcs k z) (x.obeys k z l) (row.along k z l) (λ t. lead.most (get_or arcs k z).to (within k z l).1 t))

    -- in it each known node lies at its distance from p
    pub attaining_difference : (K : ℤ) (q : ℕ)
        → p < nodes → q < nodes → known q ≡ true
        → difference (at (values_by (attaining known d xs K) nodes)) p q ≡ d q
    attaining_difference K q lp lq kq =
        let vp : at (values_by (attaining known d xs K) nodes) p ≡ attaining known d xs K p = at-values_by (attaining known d xs K) nodes p lp in
        let vq : at (values_by (attaining known d xs K) nodes) q ≡ attaining known d xs K q = at-values_by (attaining known d xs K) nodes q lq in
        let dp : attaining known d xs K p ≡ d p = attaining-known known d xs K p row.own.0 in
        let dq : attaining known d xs K q ≡ d q = attaining-known known d xs K q kq in
        let z : d p ≡ pos 0 = row.own.1 in
        omega (arith, ints)

    -- a known cell is the greatest difference
    pub known_greatest : (q : ℕ) → p < nodes → q < nodes → known q ≡ true → IsGreatest nodes arcs p q (d q)
    known_greatest q lp lq kq =
        let lead : (K : ℤ) × IsGreatestLead nodes known d xs K = greatest_lead nodes p known d xs lp row.own.0 in
        let way : (steps : List Arc) × IsPath arcs p q steps × (sum_of steps ≡ d q) = row.path q kq in
        greatest_from nodes arcs p q (d q) way.0 (values_by (attaining known d xs lead.0) nodes) way.1 way.2 (attaining_execution lead.0 lead.1) (attaining_difference lead.0 q lp lq kq)

    -- to a node that is not known the difference is unbounded
    pub unknown_unbounded : (q : ℕ) → p < nodes → q < nodes → known q ≡ false → IsUnbounded nodes arcs p q
    unknown_unbounded q lp lq kq = cut_unbounded nodes arcs known xs p q within (λ k z l t. (row.along k z l t).0) x lp lq row.own.0 kq

-- along a path from a known node all nodes are known, and no farther than by the path
known_along : (arcs : List Arc) (known : ℕ → Bool) (d : ℕ → ℤ) (p q : ℕ) (steps : List Arc)
    → All (λ a. known a.from ≡ true → (known a.to ≡ true) × (d a.to ≤ℤ (d a.from +ℤ a.weight))) steps → Joins p steps q → known p ≡ true
    → (known q ≡ true) × (d q ≤ℤ (d p +ℤ sum_of steps))
known_along arcs known d p q [] along j h = (ap known (sym j) ∙ h, (let e : d q ≡ d p = ap d (sym j) in omega (arith, ints)))
known_along arcs known d p q (a ∷ steps) along j h =
    let own : (known a.to ≡ true) × (d a.to ≤ℤ (d a.from +ℤ a.weight)) =
    All-head (λ a. known a.from ≡ true → (known a.to ≡ true) × (d a.to ≤ℤ (d a.from +ℤ a.weight))) a steps along (ap known j.0 ∙ h) in
    let rest : (known q ≡ true) × (d q ≤ℤ (d a.to +ℤ sum_of steps)) = known_along arcs known d a.to q steps
    (All-tail (λ a. known a.from ≡ true → (known a.to ≡ true) × (d a.to ≤ℤ (d a.from +ℤ a.weight))) a steps along) j.1 own.0 in
    let near : d a.to ≤ℤ (d a.from +ℤ a.weight) = own.1 in
    let far : d q ≤ℤ (d a.to +ℤ sum_of steps) = rest.1 in
    let e : d a.from ≡ d p = ap d j.0 in
    (rest.0, omega (arith, ints))

-- a closed row knows each node to which a path leads, and its distance is the least sum of such paths
pub row_shortest : (arcs : List Arc) (p q : ℕ) (known : ℕ → Bool) (d : ℕ → ℤ) (steps : List Arc)
    → IsClosedRow arcs p known d → IsPath arcs p q steps
    → (known q ≡ true) × (d q ≤ℤ sum_of steps)
row_shortest arcs p q known d steps row path =
    let r : (known q ≡ true) × (d q ≤ℤ (d p +ℤ sum_of steps)) = known_along arcs known d p q steps
    (λ k e l. All-contains (λ a. known a.from ≡ true → (known a.to ≡ true) × (d a.to ≤ℤ (d a.from +ℤ a.weight))) arcs _ row.along (path.within k e l)) path.joined row.own.0 in
    let far : d q ≤ℤ (d p +ℤ sum_of steps) = r.1 in
    let z : d p ≡ pos 0 = row.own.1 in
    (r.0, omega (arith, ints))
