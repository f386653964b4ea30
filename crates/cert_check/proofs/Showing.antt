-- What certificates say of every execution.
use Rattle.std.proofs.Common.{◌≡◌, ◌+◌, ◌<◌, ◌⊎◌, ℕ, zero, suc, List, [], ◌∷◌, length, get_or, slice_get, Option, Some, None, refl, sym, ap, subst, arith, inl, inr}
use Rattle.std.specs.Prelude.{ℤ, pos, negsuc, ◌+ℤ◌, ◌-ℤ◌, ◌≤ℤ◌, ◌<ℤ◌, Contains}
use Rattle.std.proofs.lemmas.Int.{ints}
use Rattle.std.proofs.lemmas.Bool.{cases_eq}
use Rattle.problem_model.specs.declared.items.Event.{Event}
use Rattle.problem_model.specs.declared.items.Node.{Node}
use Rattle.problem_model.specs.declared.items.Node.TheVariants as nodes
use Rattle.problem_model.specs.Problem.{ProblemLists, IsWellFormed}
use Rattle.problem_model.specs.Bounds.{Constraint, Times, IsExecution}
use Rattle.problem_model.specs.Nodes as lists
use Rattle.problem_model.specs.Solutions.{WeighedBound, Leads, weight_of}
use Rattle.problem_model.specs.ProblemArcs.{IsUnboundedOf}
use Rattle.cert.specs.declared.certificate.EndProof.{EndProof}
use Rattle.cert.specs.declared.certificate.EndProof.TheVariants.{At, Unbounded}
use Rattle.cert.specs.Shows.{weighed_bounds, IsInside, IsCutOf, Parts, IsExecutionOf, LeadsAgainst, ShowsUpper, ShowsLower}
use Rattle.cert_check.specs.Ends.{IsUpperOfAll, IsLowerOfAll}
use Rattle.cert_check.proofs.Agreeing.{execution_agrees}
use Rattle.cert_check.proofs.Cutting.{inside_by, inside_clock}

pub run_is : (p : ProblemLists) (values : List ℤ) (x : Times) → IsWellFormed p → IsExecutionOf p values → lists.Lists p x values → IsExecution p x
run_is p values x lawful (y, listed, execution) listed' = execution_agrees p y x values listed listed' lawful execution

-- ---- paths bound differences
along : (p : ProblemLists) (x : Times) (m n : Node) (steps : List WeighedBound) → IsExecution p x → Leads p m steps n → (x n -ℤ x m) ≤ℤ weight_of steps
along p x m n [] execution leads = let same : x m ≡ x n = ap x leads in omega (arith, ints, same)
along p x m n (s ∷ steps) execution (c, declares, weighs, begins, rest) =
    let first : (x c.to -ℤ x c.from) ≤ℤ c.weight = execution s.0 c declares in
    let from : x c.from ≡ x m = ap x begins in
    let more : (x n -ℤ x c.to) ≤ℤ weight_of steps = along p x c.to n steps execution rest in
    omega (arith, ints, weighs)

against : (p : ProblemLists) (x : Times) (m n : Node) (steps : List WeighedBound) → IsExecution p x → LeadsAgainst p m steps n → (x m -ℤ x n) ≤ℤ weight_of steps
against p x m n [] execution leads = let same : x m ≡ x n = ap x leads in omega (arith, ints, same)
against p x m n (s ∷ steps) execution (c, declares, weighs, ends, rest) =
    let last : (x c.to -ℤ x c.from) ≤ℤ c.weight = execution s.0 c declares in
    let to : x c.to ≡ x m = ap x ends in
    let more : (x c.from -ℤ x n) ≤ℤ weight_of steps = against p x c.from n steps execution rest in
    omega (arith, ints, weighs)

-- ---- whether a node is inside
among : (xs : List ℕ) (k : ℕ) → Contains xs k ⊎ (Contains xs k → ⊥)
among [] k = inr (λ at. let none = at.1 in absurd (omega (arith, none)))
among (x ∷ xs) k = elim (cases_eq x k) [
  | inl same ↦ inl (0, omega arith, same)
  | inr differ ↦ elim (among xs k) [
    | inl at ↦ inl (suc at.0, omega (arith, at.1), at.2)
    | inr out ↦ inr (λ at. behind at.0 at.1 at.2 differ out)
  ]
]
  where
    behind : (j : ℕ) → j < length (x ∷ xs) → get_or (x ∷ xs) j k ≡ k → (x ≡ k → ⊥) → (Contains xs k → ⊥) → ⊥
    behind zero within is differ out = differ is
    behind (suc j) within is differ out = out (j, omega (arith, within), is)

event_inside : (p : ProblemLists) (inside : List ℕ) (e : ℕ) (o : Option Event) → slice_get p.events e ≡ o → IsInside p inside (nodes.Event e) ⊎ (IsInside p inside (nodes.Event e) → ⊥)
event_inside p inside e None at = inr (λ there. let event : slice_get p.events e ≡ Some there.1.0 = there.1.1 in absurd cc)
event_inside p inside e (Some v) at = elim (among inside v.clock) [
  | inl held ↦ inl (inside_by p inside e v at held)
  | inr out ↦ inr (λ there. out (inside_clock p inside e v at there))
]

decide : (p : ProblemLists) (inside : List ℕ) (n : Node) → IsInside p inside n ⊎ (IsInside p inside n → ⊥)
decide p inside (nodes.Event e) = event_inside p inside e (slice_get p.events e) refl
decide p inside (nodes.Reading clock stamp) = elim (among inside clock) [
  | inl held ↦ inl (clock, refl, held)
  | inr out ↦ inr (λ there. out (subst (λ (k : ℕ). Contains inside k) (sym there.1) there.2))
]

-- ---- what is outside a cut may come any later
later_by : {P : Type 0} → P ⊎ (P → ⊥) → ℤ → ℕ → ℤ
later_by (inl in_it) v by = v
later_by (inr out) v by = v +ℤ pos by

stays : {P : Type 0} (d : P ⊎ (P → ⊥)) (v : ℤ) (by : ℕ) → P → later_by d v by ≡ v
unfolding later_by
stays (inl in_it) v by there = refl
stays (inr out) v by there = absurd (out there)

moves : {P : Type 0} (d : P ⊎ (P → ⊥)) (v : ℤ) (by : ℕ) → (P → ⊥) → later_by d v by ≡ v +ℤ pos by
unfolding later_by
moves (inl in_it) v by out = absurd (out in_it)
moves (inr out') v by out = refl

module _ (p : ProblemLists) (inside : List ℕ) (x : Times) where
  raised : ℕ → Times
  raised by n = later_by (decide p inside n) (x n) by

  raised_in : (by : ℕ) (n : Node) → IsInside p inside n → raised by n ≡ x n
  unfolding raised
  raised_in by n there = stays (decide p inside n) (x n) by there

  raised_out : (by : ℕ) (n : Node) → (IsInside p inside n → ⊥) → raised by n ≡ x n +ℤ pos by
  unfolding raised
  raised_out by n out = moves (decide p inside n) (x n) by out

  raised_bound : (by : ℕ) (c : Constraint) → (x c.to -ℤ x c.from) ≤ℤ c.weight → (IsInside p inside c.from → IsInside p inside c.to) → (raised by c.to -ℤ raised by c.from) ≤ℤ c.weight
  raised_bound by c obeys kept = elim (decide p inside c.from) [
    | inl from_in ↦ (
        let from : raised by c.from ≡ x c.from = raised_in by c.from from_in in
        let to : raised by c.to ≡ x c.to = raised_in by c.to (kept from_in) in
        omega (arith, ints))
    | inr from_out ↦
        let from : raised by c.from ≡ x c.from +ℤ pos by = raised_out by c.from from_out in
        elim (decide p inside c.to) [
          | inl to_in ↦ (let to : raised by c.to ≡ x c.to = raised_in by c.to to_in in omega (arith, ints))
          | inr to_out ↦ (let to : raised by c.to ≡ x c.to +ℤ pos by = raised_out by c.to to_out in omega (arith, ints))
        ]
  ]

  raised_execution : (by : ℕ) → IsCutOf p inside → IsExecution p x → IsExecution p (raised by)
  raised_execution by cut execution b c declares = raised_bound by c (execution b c declares) (cut b c declares)

-- some sum is above h
some_above : (d h : ℤ) → (n : ℕ) × (h <ℤ (d +ℤ pos n))
some_above d h = elim (h -ℤ d) as (λ v. h -ℤ d ≡ v → (n : ℕ) × (h <ℤ (d +ℤ pos n))) [
  | pos m ↦ λ e. (m + 1, omega (arith, ints))
  | negsuc m ↦ λ e. (0, omega (arith, ints))
] refl

unbounded : (p : ProblemLists) (inside : List ℕ) (from to : ℕ) (values : List ℤ) → Parts p inside from to → IsExecutionOf p values → IsUnboundedOf p (nodes.Event from) (nodes.Event to)
unbounded p inside from to values parts (x, listed, execution) h =
    let more = some_above (x (nodes.Event to) -ℤ x (nodes.Event from)) h in
    let above : h <ℤ ((x (nodes.Event to) -ℤ x (nodes.Event from)) +ℤ pos more.0) = more.1 in
    let low : raised p inside x more.0 (nodes.Event from) ≡ x (nodes.Event from) = raised_in p inside x more.0 (nodes.Event from) parts.home in
    let high : raised p inside x more.0 (nodes.Event to) ≡ x (nodes.Event to) +ℤ pos more.0 = raised_out p inside x more.0 (nodes.Event to) parts.away in
    (raised p inside x more.0, raised_execution p inside x more.0 parts.cut execution, omega (arith, ints))

-- ---- the ends of an interval
pub upper_is : (p : ProblemLists) (first second : ℕ) (end : EndProof) → ShowsUpper p first second end → IsUpperOfAll p first second end
upper_is p first second (At value path execution) (leads, sum, (x, listed, obeys, is)) = record {
  attained = (x, obeys, is);
  most = λ y y_obeys. subst (λ (v : ℤ). (y (nodes.Event second) -ℤ y (nodes.Event first)) ≤ℤ v) sum (against p y (nodes.Event second) (nodes.Event first) (weighed_bounds path) y_obeys leads);
}
upper_is p first second (Unbounded inside execution) shown = unbounded p inside.items first second execution shown.0 shown.1

pub lower_is : (p : ProblemLists) (first second : ℕ) (end : EndProof) → ShowsLower p first second end → IsLowerOfAll p first second end
lower_is p first second (At value path execution) (leads, sum, (x, listed, obeys, is)) = record {
  attained = (x, obeys, (let difference : (x (nodes.Event second) -ℤ x (nodes.Event first)) ≡ value = is in omega (arith, ints)));
  most = λ y y_obeys. subst (λ (v : ℤ). (y (nodes.Event first) -ℤ y (nodes.Event second)) ≤ℤ v) sum (along p y (nodes.Event second) (nodes.Event first) (weighed_bounds path) y_obeys leads);
}
lower_is p first second (Unbounded inside execution) shown = unbounded p inside.items second first execution shown.0 shown.1
