-- A path without a repeated node has fewer arcs than there are nodes.
use Rattle.std.proofs.Common.{◌≡◌, ℕ, zero, suc, ◌+◌, ◌*◌, ◌<◌, ◌≤◌, List, [], ◌∷◌, length, get_or, refl, sym, ◌∙◌, arith, inl, inr, ◌⊎◌}
use Rattle.std.specs.Prelude.{pos, neg_ℤ, ◌≤ℤ◌, ◌≢◌, ◌==◌, if◌then◌else◌}
use Rattle.std.proofs.lemmas.Int.{ints}
use Rattle.std.proofs.lemmas.Bool.{cases_eq, eq-eqb, ne_eqb, cond-true, cond-false}
use Rattle.std.proofs.lemmas.List.Elements.{All-head, All-tail, All-contains}
use Rattle.problem_model.specs.Executions.{Arc, AreWithin}
use Rattle.problem_model.specs.Paths.{IsPath, sum_of, stops, IsSimple}
use Rattle.problem_model.specs.Earliest.{AreUpTo}

-- v in place of the top, and every other number as it is
swapped : ℕ → ℕ → ℕ → ℕ
swapped top v a = if a == top then v else a

swapped-cases : (top v a : ℕ) → ((a ≡ top) × (swapped top v a ≡ v)) ⊎ ((a ≢ top) × (swapped top v a ≡ a))
unfolding swapped
swapped-cases top v a = elim (cases_eq a top) [
  | inl q ↦ inl (q, cond-true (a == top) v a (eq-eqb a top q))
  | inr n ↦ inr (n, cond-false (a == top) v a (ne_eqb a top n))
]

-- different numbers below a number are at most as many
pub pigeons : (nodes n : ℕ) (f : ℕ → ℕ) → ((i : ℕ) → i ≤ n → f i < nodes) → ((i j : ℕ) → i ≤ n → j ≤ n → f i ≡ f j → i ≡ j) → n < nodes
pigeons zero n f below one = let l : f 0 < 0 = below 0 (omega arith) in absurd (omega arith)
pigeons (suc top) zero f below one = omega arith
pigeons (suc top) (suc n) f below one =
    let v : ℕ = f (suc n) in
    let lv : v < suc top = below (suc n) (omega arith) in
    let r : n < top = pigeons top n (λ i. swapped top v (f i))
    (λ i l.
    let li : f i < suc top = below i (omega arith) in
    elim (swapped-cases top v (f i)) [
      | inl q ↦ elim (cases_eq v top) [
        | inl w ↦ absurd (let same : i ≡ suc n = one i (suc n) (omega arith) (omega arith) (q.0 ∙ sym w) in omega arith)
        | inr w ↦ omega (arith, q.1)
      ]
      | inr q ↦ (let q0 : f i ≢ top = q.0 in omega (arith, q.1))
    ])
    (λ i j li lj e. elim (swapped-cases top v (f i)) [
      | inl q ↦ elim (swapped-cases top v (f j)) [
        | inl w ↦ one i j (omega arith) (omega arith) (q.0 ∙ sym w.0)
        | inr w ↦ absurd (let same : j ≡ suc n = one j (suc n) (omega arith) (omega arith) (sym w.1 ∙ sym e ∙ q.1) in omega arith)
      ]
      | inr q ↦ elim (swapped-cases top v (f j)) [
        | inl w ↦ absurd (let same : i ≡ suc n = one i (suc n) (omega arith) (omega arith) (sym q.1 ∙ e ∙ w.1) in omega arith)
        | inr w ↦ one i j (omega arith) (omega arith) (sym q.1 ∙ e ∙ w.1)
      ]
    ]) in
    omega arith

length-stops : (p : ℕ) (steps : List Arc) → length (stops p steps) ≡ length steps + 1
length-stops p [] = refl
length-stops p (a ∷ steps) = let h : length (stops a.to steps) ≡ length steps + 1 = length-stops a.to steps in omega arith

stops_within : (nodes p : ℕ) (steps : List Arc)
    → p < nodes → AreWithin nodes steps → (i : ℕ) → i < length (stops p steps)
    → get_or (stops p steps) i 0 < nodes
stops_within nodes p [] lp w zero l = lp
stops_within nodes p [] lp w (suc i) l = absurd (omega arith)
stops_within nodes p (a ∷ steps) lp w zero l = lp
stops_within nodes p (a ∷ steps) lp w (suc i) l =
    stops_within nodes a.to steps (All-head (λ a. (a.from < nodes) × (a.to < nodes)) a steps w).1 (All-tail (λ a. (a.from < nodes) × (a.to < nodes)) a steps w) i (omega arith)

pub simple_short : (nodes : ℕ) (arcs : List Arc) (p q : ℕ) (steps : List Arc)
    → AreWithin nodes arcs → p < nodes → IsPath arcs p q steps → IsSimple p steps
    → length steps < nodes
simple_short nodes arcs p q steps within lp path simple =
    let w : AreWithin nodes steps = λ k d l. All-contains (λ a. (a.from < nodes) × (a.to < nodes)) arcs _ within (path.within k d l) in
    let n : length (stops p steps) ≡ length steps + 1 = length-stops p steps in
    pigeons nodes (length steps) (λ i. get_or (stops p steps) i 0)
    (λ i l. stops_within nodes p steps lp w i (omega arith))
    (λ i j li lj e. simple i j (omega arith) (omega arith) e)

-- a sum is at most as many times the height as there are steps
sum_upto : (height : ℕ) (steps : List Arc)
    → AreUpTo height steps
    → (neg_ℤ (pos (length steps * height)) ≤ℤ sum_of steps) × (sum_of steps ≤ℤ pos (length steps * height))
sum_upto height [] u = (omega (arith, ints), omega (arith, ints))
sum_upto height (a ∷ steps) u =
    let h : (neg_ℤ (pos (length steps * height)) ≤ℤ sum_of steps) × (sum_of steps ≤ℤ pos (length steps * height)) = sum_upto height steps (All-tail
    (λ a. (neg_ℤ (pos height) ≤ℤ a.weight) × (a.weight ≤ℤ pos height)) a steps u) in
    let own : (neg_ℤ (pos height) ≤ℤ a.weight) × (a.weight ≤ℤ pos height) = All-head (λ a. (neg_ℤ (pos height) ≤ℤ a.weight) × (a.weight ≤ℤ pos height)) a steps u in
    let low : neg_ℤ (pos (length steps * height)) ≤ℤ sum_of steps = h.0 in
    let high : sum_of steps ≤ℤ pos (length steps * height) = h.1 in
    let low_own : neg_ℤ (pos height) ≤ℤ a.weight = own.0 in
    let high_own : a.weight ≤ℤ pos height = own.1 in
    let m : suc (length steps) * height ≡ length steps * height + height = one_more (length steps) height in
    (omega (arith, ints), omega (arith, ints))
  where
    one_more : (n h : ℕ) → suc n * h ≡ n * h + h
    one_more n h = grind arith

-- the sum of a path of fewer arcs than nodes is at most the number of nodes times the greatest weight
pub short_sum : (nodes : ℕ) (arcs : List Arc) (p q : ℕ) (steps : List Arc) (height : ℕ)
    → AreUpTo height arcs → IsPath arcs p q steps → length steps ≤ nodes
    → (neg_ℤ (pos (nodes * height)) ≤ℤ sum_of steps) × (sum_of steps ≤ℤ pos (nodes * height))
short_sum nodes arcs p q steps height up path short =
    let u : AreUpTo height steps = λ k d l. All-contains (λ a. (neg_ℤ (pos height) ≤ℤ a.weight) × (a.weight ≤ℤ pos height)) arcs _ up (path.within k d l) in
    let s : (neg_ℤ (pos (length steps * height)) ≤ℤ sum_of steps) × (sum_of steps ≤ℤ pos (length steps * height)) = sum_upto height steps u in
    let low : neg_ℤ (pos (length steps * height)) ≤ℤ sum_of steps = s.0 in
    let high : sum_of steps ≤ℤ pos (length steps * height) = s.1 in
    let m : length steps * height ≤ nodes * height = times (length steps) nodes height short in
    (omega (arith, ints), omega (arith, ints))
  where
    times : (a b c : ℕ) → a ≤ b → a * c ≤ b * c
    times a b c l = grind arith
