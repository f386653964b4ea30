-- The earliest execution: it is one, and it begins and grows with 0.
use Rattle.std.proofs.Common.{◌≡◌, ℕ, zero, suc, ◌+◌, List, [], ◌∷◌, ◌++◌, length, length-append, get_or, refl, sym, ◌∙◌, arith, inl, inr}
use Rattle.std.specs.Prelude.{ℤ, pos, ◌≤ℤ◌, All}
use Rattle.std.proofs.lemmas.Int.{ints}
use Rattle.std.proofs.lemmas.Bool.{cases_lt}
use Rattle.std.proofs.lemmas.List.{get_or_past}
use Rattle.std.proofs.lemmas.List.Elements.{All-nil}
use Rattle.std.proofs.lemmas.List.FromFn.{fill_by_all, length-map-range_with_len}
use Rattle.problem_model.specs.Executions.{Arc, at, Obeys, AreWithin, values_by}
use Rattle.problem_model.specs.Earliest.{IsNonNegative, IsEarliest}
use Rattle.problem_model.proofs.Executions.{at-values_by, execution_by}

-- there is one earliest execution at most
pub earliest_one : (nodes : ℕ) (arcs : List Arc) (xs ys : List ℤ) → IsEarliest nodes arcs xs → IsEarliest nodes arcs ys → xs ≡ ys
earliest_one nodes arcs xs ys a b =
    fill_by_all (at ys) xs nodes (pos 0) a.execution.one_each (λ k l. same k) ∙ sym (fill_by_all (at ys) ys nodes (pos 0) b.execution.one_each (λ k l. refl))
  where
    same : (k : ℕ) → at xs k ≡ at ys k
    same k =
        let up : at xs k ≤ℤ at ys k = a.least ys b.execution b.non_negative k in
        let down : at ys k ≤ℤ at xs k = b.least xs a.execution a.non_negative k in
        omega (arith, ints)

-- a function without a value below 0 that obeys each arc is nowhere below the earliest execution
pub earliest_least : (nodes : ℕ) (arcs : List Arc) (xs : List ℤ) → AreWithin nodes arcs → IsEarliest nodes arcs xs
    → (y : ℕ → ℤ) → All (Obeys y) arcs → IsNonNegative y → (k : ℕ) → at xs k ≤ℤ y k
earliest_least nodes arcs xs within e y o low k = elim (cases_lt k nodes) [
  | inl l ↦
      let v : at (values_by y nodes) k ≡ y k = at-values_by y nodes k l in
      let m : at xs k ≤ℤ at (values_by y nodes) k = e.least (values_by y nodes) (execution_by y nodes arcs within o) low_list k in
      omega (arith, ints)
  | inr past ↦
      let v : at xs k ≡ pos 0 = get_or_past xs k (pos 0) (omega (arith, e.execution.one_each)) in
      let z : pos 0 ≤ℤ y k = low k in
      omega (arith, ints)
]
  where
    low_list : IsNonNegative (at (values_by y nodes))
    low_list i = let z : pos 0 ≤ℤ y i = low i in elim (cases_lt i nodes) [
      | inl l ↦ omega (arith, ints, at-values_by y nodes i l)
      | inr past ↦
          let n : length (values_by y nodes) ≡ nodes = length-map-range_with_len y 0 nodes in
          let v : at (values_by y nodes) i ≡ pos 0 = get_or_past (values_by y nodes) i (pos 0) (omega arith) in
          omega (arith, ints)
    ]

-- without any arc all values are 0
pub earliest_without_arcs : (nodes : ℕ) (xs : List ℤ) → length xs ≡ nodes → ((k : ℕ) → at xs k ≡ pos 0) → IsEarliest nodes [] xs
earliest_without_arcs nodes xs one zeros = record {
  execution = record { one_each = one; obeys = All-nil (Obeys (at xs)) };
  non_negative = λ k. omega (arith, ints, zeros k);
  least = λ ys y low k. (let z : pos 0 ≤ℤ at ys k = low k in omega (arith, ints, zeros k));
}

at-grown : (xs : List ℤ) (k : ℕ) → at (xs ++ pos 0 ∷ []) k ≡ at xs k
at-grown [] zero = refl
at-grown [] (suc k) = refl
at-grown (x ∷ xs) zero = refl
at-grown (x ∷ xs) (suc k) = at-grown xs k

-- a node without arcs comes in at 0
pub earliest_grown : (nodes : ℕ) (arcs : List Arc) (xs : List ℤ) → AreWithin nodes arcs → IsEarliest nodes arcs xs → IsEarliest (nodes + 1) arcs (xs ++ pos 0 ∷ [])
earliest_grown nodes arcs xs within e = record {
  execution = record {
    one_each = omega (arith, length-append xs (pos 0 ∷ []), e.execution.one_each);
    obeys = λ k d l. obeyed (get_or arcs k d) (e.execution.obeys k d l);
  };
  non_negative = λ k. (let z : pos 0 ≤ℤ at xs k = e.non_negative k in omega (arith, ints, at-grown xs k));
  least = λ ys y low k. (let m : at xs k ≤ℤ at ys k = earliest_least nodes arcs xs within e (at ys) y.obeys low k in omega (arith, ints, at-grown xs k));
}
  where
    obeyed : (a : Arc) → Obeys (at xs) a → Obeys (at (xs ++ pos 0 ∷ [])) a
    obeyed a o = omega (arith, ints, at-grown xs a.from, at-grown xs a.to)
