-- A cut and an execution make a difference unbounded.
use Rattle.std.proofs.Common.{◌≡◌, ℕ, ◌+◌, ◌<◌, List, get_or, refl, arith, Bool, true, false, inl, inr}
use Rattle.std.specs.Prelude.{ℤ, pos, negsuc, ◌+ℤ◌, ◌-ℤ◌, ◌<ℤ◌}
use Rattle.std.proofs.lemmas.Int.{ints}
use Rattle.std.proofs.lemmas.Bool.{cases_Bool, cond-true, cond-false}
use Rattle.problem_model.specs.Executions.{Arc, at, difference, Obeys, IsExecution, AreWithin, values_by}
use Rattle.problem_model.specs.Differences.{IsUnbounded}
use Rattle.problem_model.specs.Cuts.{IsCut, raised_outside}
use Rattle.problem_model.proofs.Executions.{at-values_by, execution_by}

-- inside a cut nothing is added, outside so much
raised-inside : (inside : ℕ → Bool) (by : ℕ) (xs : List ℤ) (k : ℕ) → inside k ≡ true → raised_outside inside by xs k ≡ at xs k
raised-inside inside by xs k h = cond-true (inside k) (at xs k) (at xs k +ℤ pos by) h

raised-outside : (inside : ℕ → Bool) (by : ℕ) (xs : List ℤ) (k : ℕ) → inside k ≡ false → raised_outside inside by xs k ≡ at xs k +ℤ pos by
raised-outside inside by xs k h = cond-false (inside k) (at xs k) (at xs k +ℤ pos by) h

raised_arc : (inside : ℕ → Bool) (by : ℕ) (xs : List ℤ) (a : Arc)
    → Obeys (at xs) a → (inside a.from ≡ true → inside a.to ≡ true)
    → Obeys (raised_outside inside by xs) a
raised_arc inside by xs a o c = elim (cases_Bool (inside a.from)) [
  | inl t ↦
      let from : raised_outside inside by xs a.from ≡ at xs a.from = raised-inside inside by xs a.from t in
      let to : raised_outside inside by xs a.to ≡ at xs a.to = raised-inside inside by xs a.to (c t) in
      omega (arith, ints)
  | inr f ↦
      let from : raised_outside inside by xs a.from ≡ at xs a.from +ℤ pos by = raised-outside inside by xs a.from f in
      elim (cases_Bool (inside a.to)) [
        | inl t ↦ (let to : raised_outside inside by xs a.to ≡ at xs a.to = raised-inside inside by xs a.to t in omega (arith, ints))
        | inr g ↦ (let to : raised_outside inside by xs a.to ≡ at xs a.to +ℤ pos by = raised-outside inside by xs a.to g in omega (arith, ints))
      ]
]

-- adding a number to every node outside a cut keeps an execution
pub raised_execution : (nodes : ℕ) (arcs : List Arc) (inside : ℕ → Bool) (xs : List ℤ) (by : ℕ)
    → AreWithin nodes arcs → IsCut arcs inside → IsExecution nodes arcs xs
    → IsExecution nodes arcs (values_by (raised_outside inside by xs) nodes)
raised_execution nodes arcs inside xs by within cut x =
    execution_by (raised_outside inside by xs) nodes arcs within (λ k d l. raised_arc inside by xs (get_or arcs k d) (x.obeys k d l) (cut k d l))

-- some sum is above h
some_above : (d h : ℤ) → (n : ℕ) × (h <ℤ (d +ℤ pos n))
some_above d h = elim (h -ℤ d) as (λ v. h -ℤ d ≡ v → (n : ℕ) × (h <ℤ (d +ℤ pos n))) [
  | pos m ↦ λ e. (m + 1, omega (arith, ints))
  | negsuc m ↦ λ e. (0, omega (arith, ints))
] refl

-- from a node inside to one outside the difference is unbounded
pub cut_unbounded : (nodes : ℕ) (arcs : List Arc) (inside : ℕ → Bool) (xs : List ℤ) (p q : ℕ)
    → AreWithin nodes arcs → IsCut arcs inside → IsExecution nodes arcs xs → p < nodes → q < nodes → inside p ≡ true → inside q ≡ false
    → IsUnbounded nodes arcs p q
cut_unbounded nodes arcs inside xs p q within cut x lp lq ip iq h =
    let n : ℕ = (some_above (difference (at xs) p q) h).0 in
    let above : h <ℤ (difference (at xs) p q +ℤ pos n) = (some_above (difference (at xs) p q) h).1 in
    let vp : at (values_by (raised_outside inside n xs) nodes) p ≡ raised_outside inside n xs p = at-values_by (raised_outside inside n xs) nodes p lp in
    let vq : at (values_by (raised_outside inside n xs) nodes) q ≡ raised_outside inside n xs q = at-values_by (raised_outside inside n xs) nodes q lq in
    let rp : raised_outside inside n xs p ≡ at xs p = raised-inside inside n xs p ip in
    let rq : raised_outside inside n xs q ≡ at xs q +ℤ pos n = raised-outside inside n xs q iq in
    (values_by (raised_outside inside n xs) nodes, raised_execution nodes arcs inside xs n within cut x, omega (arith, ints))
