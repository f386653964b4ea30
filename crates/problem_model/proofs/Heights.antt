-- No value of the earliest execution is above the number of nodes times the greatest weight, and no greatest difference of two nodes.
use Rattle.std.proofs.Common.{◌≡◌, ℕ, zero, suc, ◌+◌, ◌*◌, ◌^◌, ◌<◌, ◌≤◌, true, false, cond, List, [], ◌∷◌, length, get_or, refl, ap, subst, arith, inl, inr, ◌⊎◌}
use Rattle.std.specs.Prelude.{ℤ, pos, neg_ℤ, ◌+ℤ◌, ◌-ℤ◌, ◌≤ℤ◌, ◌<ℤ◌, All, int_lt, if◌then◌else◌}
use Rattle.std.proofs.lemmas.Int.{ints}
use Rattle.std.proofs.lemmas.Bool.{cases_Bool, cond-true, cond-false, cases_lt}
use Rattle.std.proofs.lemmas.List.{get_or_past}
use Rattle.problem_model.specs.Executions.{Arc, at, Obeys, IsExecution, AreWithin, values_by}
use Rattle.problem_model.specs.Earliest.{IsNonNegative, IsEarliest}
use Rattle.problem_model.specs.Differences.{IsGreatest}
use Rattle.problem_model.specs.Limits.{most_nodes, path_bits}
use Rattle.problem_model.proofs.Executions.{at-values_by, execution_by}

-- how many values are above t
above : ℤ → List ℤ → ℕ
above t [] = 0
above t (x ∷ xs) = (if int_lt t x then 1 else 0) + above t xs

test_true : (a b : ℤ) → a <ℤ b → int_lt a b ≡ true
test_true a b h = grind (arith, ints)

test_false : (a b : ℤ) → b ≤ℤ a → int_lt a b ≡ false
test_false a b h = grind (arith, ints)

lt_from : (a b : ℤ) → int_lt a b ≡ true → a <ℤ b
lt_from a b h = grind (arith, ints)

le_from : (a b : ℤ) → int_lt a b ≡ false → b ≤ℤ a
le_from a b h = grind (arith, ints)

above-le : (t : ℤ) (xs : List ℤ) → above t xs ≤ length xs
unfolding above
above-le t [] = omega arith
above-le t (x ∷ xs) =
    let h : above t xs ≤ length xs = above-le t xs in
    elim (int_lt t x) as (λ b. cond b 1 0 + above t xs ≤ suc (length xs)) [ true ↦ omega arith | false ↦ omega arith ]

above-falls : (t u : ℤ) (xs : List ℤ) → t ≤ℤ u → above u xs ≤ above t xs
unfolding above
above-falls t u [] h = omega arith
above-falls t u (x ∷ xs) h =
    let r : above u xs ≤ above t xs = above-falls t u xs h in
    elim (cases_Bool (int_lt u x)) [
      | inl e ↦ (let l : u <ℤ x = lt_from u x e in let l2 : t <ℤ x = omega (arith, ints) in rw (e, test_true t x l2) (omega arith))
      | inr e ↦ rw e (omega arith)
    ]

-- fewer values are above u than above t, or none is between them
gap : (t u : ℤ) (xs : List ℤ) → t ≤ℤ u → (above u xs < above t xs) ⊎ ((k : ℕ) → k < length xs → (at xs k ≤ℤ t) ⊎ (u <ℤ at xs k))
unfolding above
gap t u [] h = inr (λ k l. absurd (omega arith))
gap t u (x ∷ xs) h =
    let r : above u xs ≤ above t xs = above-falls t u xs h in
    elim (cases_Bool (int_lt u x)) [
      | inl e ↦
          let l : u <ℤ x = lt_from u x e in
          let l2 : t <ℤ x = omega (arith, ints) in
          elim (gap t u xs h) [
            | inl f ↦ inl (rw (e, test_true t x l2) (omega arith))
            | inr g ↦ inr (with_head x xs (inr l) g)
          ]
      | inr e ↦ elim (cases_Bool (int_lt t x)) [
        | inl f ↦ inl (rw (e, f) (omega arith))
        | inr f ↦ elim (gap t u xs h) [
          | inl g ↦ inl (rw (e, f) (omega arith))
          | inr g ↦ inr (with_head x xs (inl (le_from t x f)) g)
        ]
      ]
    ]
  where
    with_head : (x : ℤ) (xs : List ℤ)
        → (x ≤ℤ t) ⊎ (u <ℤ x) → ((k : ℕ) → k < length xs → (at xs k ≤ℤ t) ⊎ (u <ℤ at xs k)) → (k : ℕ) → k < length (x ∷ xs)
        → (at (x ∷ xs) k ≤ℤ t) ⊎ (u <ℤ at (x ∷ xs) k)
    with_head x xs c g zero l = c
    with_head x xs c g (suc k) l = g k (omega arith)

none_above : (t : ℤ) (xs : List ℤ) → ((k : ℕ) → k < length xs → at xs k ≤ℤ t) → above t xs ≡ 0
unfolding above
none_above t [] h = refl
none_above t (x ∷ xs) h =
    let r : above t xs ≡ 0 = none_above t xs (λ k l. h (suc k) (omega arith)) in
    let l : x ≤ℤ t = h 0 (omega arith) in
    rw (test_false t x l) (omega arith)

from_none_above : (t : ℤ) (xs : List ℤ) → above t xs ≡ 0 → (k : ℕ) → k < length xs → at xs k ≤ℤ t
unfolding above
from_none_above t [] e k l = absurd (omega arith)
from_none_above t (x ∷ xs) e zero l = elim (cases_Bool (int_lt t x)) [
  | inl f ↦ (let g : 1 + above t xs ≡ 0 = rw f at e in absurd (omega arith))
  | inr f ↦ le_from t x f
]
from_none_above t (x ∷ xs) e (suc k) l = from_none_above t xs (elim (cases_Bool (int_lt t x)) [
  | inl f ↦ (let g : 1 + above t xs ≡ 0 = rw f at e in absurd (omega arith))
  | inr f ↦ (let g : 0 + above t xs ≡ 0 = rw f at e in omega arith)
]) k (omega arith)

-- the values above t, each one lower
lowered : ℤ → List ℤ → ℕ → ℤ
lowered t xs k = if int_lt t (at xs k) then (at xs k -ℤ pos 1) else at xs k

lowered-low : (t : ℤ) (xs : List ℤ) (k : ℕ) → at xs k ≤ℤ t → lowered t xs k ≡ at xs k
unfolding lowered
lowered-low t xs k h = cond-false (int_lt t (at xs k)) (at xs k -ℤ pos 1) (at xs k) (test_false t (at xs k) h)

lowered-high : (t : ℤ) (xs : List ℤ) (k : ℕ) → t <ℤ at xs k → lowered t xs k ≡ at xs k -ℤ pos 1
unfolding lowered
lowered-high t xs k h = cond-true (int_lt t (at xs k)) (at xs k -ℤ pos 1) (at xs k) (test_true t (at xs k) h)

module _ (nodes : ℕ) (arcs : List Arc) (xs : List ℤ) (t : ℤ) (height : ℕ)
    (within : AreWithin nodes arcs)
    (low_weights : All (λ a. neg_ℤ (pos height) ≤ℤ a.weight) arcs)
    (e : IsEarliest nodes arcs xs)
    (from_zero : pos 0 ≤ℤ t)
    (split : (k : ℕ) → k < nodes → (at xs k ≤ℤ t) ⊎ ((t +ℤ pos height) <ℤ at xs k))
  where
    lowered_arc : (a : Arc) → a.from < nodes → a.to < nodes → neg_ℤ (pos height) ≤ℤ a.weight → Obeys (at xs) a → Obeys (lowered t xs) a
    lowered_arc a lf lt w o = elim (split a.from lf) [
      | inl f ↦
          let ef : lowered t xs a.from ≡ at xs a.from = lowered-low t xs a.from f in
          elim (split a.to lt) [
            | inl g ↦ omega (arith, ints, lowered-low t xs a.to g)
            | inr g ↦ omega (arith, ints, lowered-high t xs a.to (omega (arith, ints)))
          ]
      | inr f ↦
          let ef : lowered t xs a.from ≡ at xs a.from -ℤ pos 1 = lowered-high t xs a.from (omega (arith, ints)) in
          elim (split a.to lt) [
            | inl g ↦ omega (arith, ints, lowered-low t xs a.to g)
            | inr g ↦ omega (arith, ints, lowered-high t xs a.to (omega (arith, ints)))
          ]
    ]

    lowered_execution : IsExecution nodes arcs (values_by (lowered t xs) nodes)
    lowered_execution = execution_by (lowered t xs) nodes arcs within (λ k d l. lowered_arc (get_or arcs k d) (within k d l).0 (within k d l).1 (low_weights k d l) (e.execution.obeys k d l))

    lowered_non_negative : IsNonNegative (at (values_by (lowered t xs) nodes))
    lowered_non_negative k = by_lt {P = pos 0 ≤ℤ at (values_by (lowered t xs) nodes) k} k nodes
        (λ l.
        let v : at (values_by (lowered t xs) nodes) k ≡ lowered t xs k = at-values_by (lowered t xs) nodes k l in
        let z : pos 0 ≤ℤ at xs k = e.non_negative k in
        elim (split k l) [
          | inl f ↦ omega (arith, ints, lowered-low t xs k f)
          | inr f ↦ omega (arith, ints, lowered-high t xs k (omega (arith, ints)))
        ])
        (λ l.
        let v : at (values_by (lowered t xs) nodes) k ≡ pos 0 = get_or_past (values_by (lowered t xs) nodes) k (pos 0) (omega (arith, lowered_execution.one_each)) in
        omega (arith, ints))
      where
        by_lt : {P : Type 0} (a b : ℕ) → (a < b → P) → (b ≤ a → P) → P
        by_lt a b f g = elim (cases_lt a b) [ inl h ↦ f h | inr h ↦ g h ]

    -- so none is above
    pub none_high : (k : ℕ) → k < nodes → at xs k ≤ℤ t
    none_high k l = elim (split k l) [
      | inl f ↦ f
      | inr f ↦
          let v : at (values_by (lowered t xs) nodes) k ≡ lowered t xs k = at-values_by (lowered t xs) nodes k l in
          let le : at xs k ≤ℤ at (values_by (lowered t xs) nodes) k = e.least (values_by (lowered t xs) nodes) lowered_execution lowered_non_negative k in
          absurd (omega (arith, ints, lowered-high t xs k (omega (arith, ints))))
    ]

-- at each level fewer values are left, or none
levels : (nodes : ℕ) (arcs : List Arc) (xs : List ℤ) (height : ℕ)
    → AreWithin nodes arcs → All (λ a. neg_ℤ (pos height) ≤ℤ a.weight) arcs → IsEarliest nodes arcs xs → (j : ℕ)
    → (above (pos (j * height)) xs + j ≤ nodes) ⊎ (above (pos (j * height)) xs ≡ 0)
levels nodes arcs xs height w lw e zero = inl (omega (arith, above-le (pos (0 * height)) xs, e.execution.one_each))
levels nodes arcs xs height w lw e (suc j) =
    let next : pos (suc j * height) ≡ pos (j * height) +ℤ pos height = (let m : suc j * height ≡ j * height + height = omega arith in ap pos m) in
    let up : pos (j * height) ≤ℤ pos (suc j * height) = omega (arith, ints) in
    let falls : above (pos (suc j * height)) xs ≤ above (pos (j * height)) xs = above-falls (pos (j * height)) (pos (suc j * height)) xs up in
    elim (levels nodes arcs xs height w lw e j) [
      | inr z ↦ inr (omega arith)
      | inl h ↦ elim (gap (pos (j * height)) (pos (suc j * height)) xs up) [
        | inl f ↦ inl (omega arith)
        | inr g ↦
            let split : (k : ℕ) → k < nodes → (at xs k ≤ℤ pos (j * height)) ⊎ ((pos (j * height) +ℤ pos height) <ℤ at xs k) =
            (λ k l. subst (λ v. (at xs k ≤ℤ pos (j * height)) ⊎ (v <ℤ at xs k)) next (g k (omega (arith, e.execution.one_each)))) in
            let z : above (pos (j * height)) xs ≡ 0 = none_above (pos (j * height)) xs
            (λ k l. none_high nodes arcs xs (pos (j * height)) height w lw e (omega (arith, ints)) split k (omega (arith, e.execution.one_each))) in
            inr (omega arith)
      ]
    ]

-- no value of the earliest execution is above the number of nodes times the greatest weight
pub earliest_height : (nodes : ℕ) (arcs : List Arc) (xs : List ℤ) (height : ℕ)
    → AreWithin nodes arcs → All (λ a. neg_ℤ (pos height) ≤ℤ a.weight) arcs → IsEarliest nodes arcs xs → (k : ℕ) → k < nodes
    → at xs k ≤ℤ pos (nodes * height)
earliest_height nodes arcs xs height w lw e k l =
    let z : above (pos (nodes * height)) xs ≡ 0 = elim (levels nodes arcs xs height w lw e nodes) [ inl h ↦ omega arith | inr h ↦ h ] in
    from_none_above (pos (nodes * height)) xs z k (omega (arith, e.execution.one_each))

-- ---- the greatest difference of two nodes
-- the values above t, each one greater
raised : ℤ → List ℤ → ℕ → ℤ
raised t xs k = if int_lt t (at xs k) then (at xs k +ℤ pos 1) else at xs k

raised-low : (t : ℤ) (xs : List ℤ) (k : ℕ) → at xs k ≤ℤ t → raised t xs k ≡ at xs k
unfolding raised
raised-low t xs k h = cond-false (int_lt t (at xs k)) (at xs k +ℤ pos 1) (at xs k) (test_false t (at xs k) h)

raised-high : (t : ℤ) (xs : List ℤ) (k : ℕ) → t <ℤ at xs k → raised t xs k ≡ at xs k +ℤ pos 1
unfolding raised
raised-high t xs k h = cond-true (int_lt t (at xs k)) (at xs k +ℤ pos 1) (at xs k) (test_true t (at xs k) h)

module _ (nodes : ℕ) (arcs : List Arc) (height : ℕ) (within : AreWithin nodes arcs) (low_enough : All (λ a. a.weight ≤ℤ pos height) arcs) (p q : ℕ) (h : ℤ)
    (p_below : p < nodes) (q_below : q < nodes) (greatest : IsGreatest nodes arcs p q h)
  where
    abbrev xs : List ℤ
    xs = greatest.attained.0

    execution : IsExecution nodes arcs xs
    execution = greatest.attained.1

    -- where no value lies between, all above it could come later
    module _ (t : ℤ) (from : at xs p ≤ℤ t) (split : (k : ℕ) → k < nodes → (at xs k ≤ℤ t) ⊎ ((t +ℤ pos height) <ℤ at xs k)) where
      raised_arc : (a : Arc) → a.from < nodes → a.to < nodes → a.weight ≤ℤ pos height → Obeys (at xs) a → Obeys (raised t xs) a
      raised_arc a lf lt w o = elim (split a.from lf) [
        | inl f ↦
            let ef : raised t xs a.from ≡ at xs a.from = raised-low t xs a.from f in
            elim (split a.to lt) [
              | inl g ↦ omega (arith, ints, raised-low t xs a.to g)
              | inr g ↦ absurd (omega (arith, ints))
            ]
        | inr f ↦
            let ef : raised t xs a.from ≡ at xs a.from +ℤ pos 1 = raised-high t xs a.from (omega (arith, ints)) in
            elim (split a.to lt) [
              | inl g ↦ omega (arith, ints, raised-low t xs a.to g)
              | inr g ↦ omega (arith, ints, raised-high t xs a.to (omega (arith, ints)))
            ]
      ]

      raised_execution : IsExecution nodes arcs (values_by (raised t xs) nodes)
      raised_execution = execution_by (raised t xs) nodes arcs within (λ k d l. raised_arc (get_or arcs k d) (within k d l).0 (within k d l).1 (low_enough k d l) (execution.obeys k d l))

      not_above : at xs q ≤ℤ t
      not_above = elim (split q q_below) [
        | inl f ↦ f
        | inr f ↦
            let one : at (values_by (raised t xs) nodes) q ≡ raised t xs q = at-values_by (raised t xs) nodes q q_below in
            let other : at (values_by (raised t xs) nodes) p ≡ raised t xs p = at-values_by (raised t xs) nodes p p_below in
            let later : raised t xs q ≡ at xs q +ℤ pos 1 = raised-high t xs q (omega (arith, ints)) in
            let same : raised t xs p ≡ at xs p = raised-low t xs p from in
            let is : (at xs q -ℤ at xs p) ≡ h = greatest.attained.2 in
            let most : (at (values_by (raised t xs) nodes) q -ℤ at (values_by (raised t xs) nodes) p) ≤ℤ h = greatest.most (values_by (raised t xs) nodes) raised_execution in
            absurd (omega (arith, ints))
      ]

    abbrev rung : ℕ → ℤ
    rung j = at xs p +ℤ pos (j * height)

    -- at each level fewer values are left, or the second node is not above it
    rungs : (j : ℕ) → (above (rung j) xs + j ≤ nodes) ⊎ (at xs q ≤ℤ rung j)
    rungs zero = inl (omega (arith, above-le (rung 0) xs, execution.one_each))
    rungs (suc j) =
        let more : pos (suc j * height) ≡ pos (j * height) +ℤ pos height = (let m : suc j * height ≡ j * height + height = omega arith in ap pos m) in
        let next : rung (suc j) ≡ rung j +ℤ pos height = omega (arith, ints, more) in
        let up : rung j ≤ℤ rung (suc j) = omega (arith, ints, next) in
        elim (rungs j) [
          | inr z ↦ inr (omega (arith, ints, up, z))
          | inl fewer ↦ elim (gap (rung j) (rung (suc j)) xs up) [
            | inl f ↦ inl (omega (arith, f, fewer))
            | inr g ↦
                let split : (k : ℕ) → k < nodes → (at xs k ≤ℤ rung j) ⊎ ((rung j +ℤ pos height) <ℤ at xs k) =
                (λ k l. subst (λ v. (at xs k ≤ℤ rung j) ⊎ (v <ℤ at xs k)) next (g k (omega (arith, l, execution.one_each)))) in
                let no_more : at xs q ≤ℤ rung j = not_above (rung j) (omega (arith, ints)) split in
                inr (omega (arith, ints, up, no_more))
          ]
        ]

    pub greatest_height : h ≤ℤ pos (nodes * height)
    greatest_height =
        let below : at xs q ≤ℤ rung nodes = elim (rungs nodes) [
          | inl few ↦ from_none_above (rung nodes) xs (omega (arith, few)) q (omega (arith, q_below, execution.one_each))
          | inr is ↦ is
        ] in
        let is : (at xs q -ℤ at xs p) ≡ h = greatest.attained.2 in
        omega (arith, ints, below, is)

-- ---- how high a height of a graph may be
-- weights are below 2^93, so over at most so many nodes every sum of a simple path is at most 2^118
pub height_low : (n : ℕ) → n ≤ most_nodes → n * 2 ^ 93 ≤ 2 ^ path_bits
height_low n few = omega (arith, few)
