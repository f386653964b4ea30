-- The earliest execution of a problem is that of its arcs, and a negative cycle of arcs is a contradiction.
use Rattle.std.proofs.Common.{◌≡◌, ◌<◌, ◌≤◌, ℕ, zero, suc, List, [], ◌∷◌, length, map, slice_get, Some, refl, sym, ◌∙◌, ap, subst, arith, inl, inr}
use Rattle.std.specs.Prelude.{ℤ, pos, ◌+ℤ◌, ◌-ℤ◌, ◌≤ℤ◌, ◌<ℤ◌, ◌↔◌, All}
use Rattle.std.proofs.lemmas.Int.{ints}
use Rattle.std.proofs.lemmas.Bool.{cases_lt}
use Rattle.std.proofs.lemmas.List.{length-map, get_or_past}
use Rattle.std.proofs.lemmas.List.Elements.{All-head, All-tail}
use Rattle.problem_model.specs.declared.items.Node.{Node}
use Rattle.problem_model.specs.declared.items.Node.TheVariants as nodes
use Rattle.problem_model.specs.Problem.{ProblemLists}
use Rattle.problem_model.specs.Bounds.{Times}
use Rattle.problem_model.specs.Bounds as bounds
use Rattle.problem_model.specs.Nodes.{Reading, AreReadings, nodes_of}
use Rattle.problem_model.proofs.Places.{event_stands, has_place, stands_there}
use Rattle.problem_model.specs.Executions.{Arc, at, IsExecution}
use Rattle.problem_model.specs.Earliest.{IsNonNegative, IsEarliest}
use Rattle.problem_model.specs.Paths.{Joins, sum_of, IsContradiction}
use Rattle.problem_model.specs.ProblemArcs.{IsNodeAt, StandsFor}
use Rattle.problem_model.specs.Solutions.{IsNodeOf, IsFromZero, IsEarliestExecution, WeighedBound, Leads, weight_of, IsContradictionOf, NamedArc, IsBoundArc, weighed}
use Rattle.problem_model.proofs.Problems.{time_at, same_executions, times, values}

-- ---- nodes and their places
module _ (p : ProblemLists) (readings : List Reading) (are : AreReadings p readings) where
  pub place_of : (n : Node) → IsNodeOf p n → (k : ℕ) × IsNodeAt p readings k n
  place_of (nodes.Event e) inside = (e, event_stands p readings e inside)
  place_of (nodes.Reading clock stamp) reading = has_place p readings clock stamp are reading

  is_node : (k : ℕ) (n : Node) → IsNodeAt p readings k n → IsNodeOf p n
  is_node k n there = elim (stands_there p readings k n are there) [
    | inl e ↦ subst (IsNodeOf p) e.2 e.1
    | inr r ↦ subst (IsNodeOf p) r.3 r.2
  ]

  -- what holds of the real time of each node holds of each value
  module _ (P : ℤ → Type 0) (x : Times) (xs : List ℤ) (is : xs ≡ map x (nodes_of p readings)) where
    pub value_of_node : ((k : ℕ) → P (at xs k)) → (n : Node) → IsNodeOf p n → P (x n)
    value_of_node each n inside = let place = place_of n inside in subst P (time_at p readings x xs is place.0 n place.1) (each place.0)

node_there : (ns : List Node) (k : ℕ) → k < length ns → (n : Node) × (slice_get ns k ≡ Some n)
node_there [] k inside = absurd (omega (arith, inside))
node_there (n ∷ ns) zero inside = (n, refl)
node_there (m ∷ ns) (suc k) inside = node_there ns k (omega (arith, inside))

-- ---- the earliest execution
module _ (p : ProblemLists) (readings : List Reading) (arcs : List Arc) (are : AreReadings p readings) (stands : StandsFor p readings arcs) where
  listed_long : (x : Times) → length (map x (nodes_of p readings)) ≡ length (nodes_of p readings)
  listed_long x = length-map (nodes_of p readings) x

  -- the values of real times from 0 on are from 0 on
  values_from_zero : (x : Times) → IsFromZero p x → IsNonNegative (at (map x (nodes_of p readings)))
  values_from_zero x low k = elim (cases_lt k (length (nodes_of p readings))) [
    | inl inside ↦
        let found = node_there (nodes_of p readings) k inside in
        subst (λ (v : ℤ). pos 0 ≤ℤ v) (sym (time_at p readings x (map x (nodes_of p readings)) refl k found.0 found.1)) (low found.0 (is_node p readings are k found.0 found.1))
    | inr past ↦ (
        let out : length (map x (nodes_of p readings)) ≤ k = omega (arith, past, listed_long x) in
        let none : at (map x (nodes_of p readings)) k ≡ pos 0 = get_or_past (map x (nodes_of p readings)) k (pos 0) out in
        omega (arith, ints, none))
  ]

  times_from_zero : (x : Times) (xs : List ℤ) → xs ≡ map x (nodes_of p readings) → IsNonNegative (at xs) → IsFromZero p x
  times_from_zero x xs is low n inside = value_of_node p readings are (λ v. pos 0 ≤ℤ v) x xs is low n inside

  module _ (x : Times) (xs : List ℤ) (is : xs ≡ map x (nodes_of p readings)) where
    -- at the node of a number real times and values are the same
    no_later : (y : Times) (ys : List ℤ) → ys ≡ map y (nodes_of p readings) → (k : ℕ) (n : Node) → IsNodeAt p readings k n → at xs k ≤ℤ at ys k → x n ≤ℤ y n
    no_later y ys is' k n there le =
        let a : at xs k ≡ x n = time_at p readings x xs is k n there in
        let b : at ys k ≡ y n = time_at p readings y ys is' k n there in
        omega (arith, ints, a, b, le)

    no_later_back : (y : Times) (ys : List ℤ) → ys ≡ map y (nodes_of p readings) → (k : ℕ) (n : Node) → IsNodeAt p readings k n → x n ≤ℤ y n → at xs k ≤ℤ at ys k
    no_later_back y ys is' k n there le =
        let a : at xs k ≡ x n = time_at p readings x xs is k n there in
        let b : at ys k ≡ y n = time_at p readings y ys is' k n there in
        omega (arith, ints, a, b, le)

    earliest_times : IsEarliest (length (nodes_of p readings)) arcs xs → IsEarliestExecution p x
    earliest_times e = record {
      execution = (same_executions p readings x xs is arcs are stands).0 e.execution;
      from_zero = times_from_zero x xs is e.non_negative;
      least = λ y execution low n inside.
          let place = place_of p readings are n inside in
          no_later y (map y (nodes_of p readings)) refl place.0 n place.1
          (e.least (map y (nodes_of p readings)) (values p readings arcs are stands y execution) (values_from_zero y low) place.0);
    }

    least_values : IsEarliestExecution p x → (ys : List ℤ) → IsExecution (length (nodes_of p readings)) arcs ys → IsNonNegative (at ys) → (k : ℕ) → at xs k ≤ℤ at ys k
    least_values e ys execution low k = elim (cases_lt k (length (nodes_of p readings))) [
      | inl inside ↦
          let some = times p readings arcs are stands ys execution in
          let found = node_there (nodes_of p readings) k inside in
          no_later_back some.0 ys some.1 k found.0 found.1
          (e.least some.0 some.2 (times_from_zero some.0 ys some.1 low) found.0 (is_node p readings are k found.0 found.1))
      | inr past ↦ (
          let out : length xs ≤ k = omega (arith, past, ap length is, listed_long x) in
          let none : at xs k ≡ pos 0 = get_or_past xs k (pos 0) out in
          let above : pos 0 ≤ℤ at ys k = low k in
          omega (arith, ints, none))
    ]

    pub same_earliest : IsEarliest (length (nodes_of p readings)) arcs xs ↔ IsEarliestExecution p x
    same_earliest = (
      earliest_times,
      λ e. record {
        execution = (same_executions p readings x xs is arcs are stands).1 e.execution;
        non_negative = subst (λ (l : List ℤ). IsNonNegative (at l)) (sym is) (values_from_zero x e.from_zero);
        least = least_values e;
      },
    )

-- ---- contradictions
-- along declared bounds the difference is at most the sum
along : (p : ProblemLists) (x : Times) (m n : Node) (steps : List WeighedBound) → bounds.IsExecution p x → Leads p m steps n → (x n -ℤ x m) ≤ℤ weight_of steps
along p x m n [] execution leads =
    let same : x m ≡ x n = ap x leads in
    omega (arith, ints, same)
along p x m n (s ∷ steps) execution (c, declares, weighs, begins, rest) =
    let first : (x c.to -ℤ x c.from) ≤ℤ c.weight = execution s.0 c declares in
    let from : x c.from ≡ x m = ap x begins in
    let more : (x n -ℤ x c.to) ≤ℤ weight_of steps = along p x c.to n steps execution rest in
    omega (arith, ints, weighs)

pub no_execution : (p : ProblemLists) (steps : List WeighedBound) (x : Times) → IsContradictionOf p steps → bounds.IsExecution p x → ⊥
no_execution p steps x contradiction execution =
    let n = contradiction.closed.0 in
    let most : (x n -ℤ x n) ≤ℤ weight_of steps = along p x n n steps execution contradiction.closed.1 in
    let negative : weight_of steps <ℤ pos 0 = contradiction.negative in
    omega (arith, ints)

module _ (p : ProblemLists) (readings : List Reading) where
  one_node : (k : ℕ) (m n : Node) → IsNodeAt p readings k m → IsNodeAt p readings k n → m ≡ n
  one_node k m n at at' = let both : Some m ≡ Some n = sym at ∙ at' in cc

  leads : (steps : List NamedArc) (j k : ℕ) (m n : Node) → All (IsBoundArc p readings) steps → Joins j (map (λ (s : NamedArc). s.1) steps) k → IsNodeAt p readings j m → IsNodeAt p readings k n
      → Leads p m (map weighed steps) n
  leads [] j k m n each joins there there' = one_node j m n there (subst (λ (i : ℕ). IsNodeAt p readings i n) (sym joins) there')
  leads (s ∷ steps) j k m n each joins there there' =
      let first = All-head (IsBoundArc p readings) s steps each in (
        first.0,
        first.1,
        sym first.2.weighs,
        one_node j first.0.from m (subst (λ (i : ℕ). IsNodeAt p readings i first.0.from) joins.0 first.2.tail) there,
        leads steps s.1.to k first.0.to n (All-tail (IsBoundArc p readings) s steps each) joins.1 first.2.head there',
      )

  same_sum : (steps : List NamedArc) → sum_of (map (λ (s : NamedArc). s.1) steps) ≡ weight_of (map weighed steps)
  same_sum [] = refl
  same_sum (s ∷ steps) = ap (λ (w : ℤ). s.1.weight +ℤ w) (same_sum steps)

  -- a closed chain of arcs begins at a node of the problem
  begins_at : (steps : List NamedArc) (j : ℕ) → All (IsBoundArc p readings) steps → Joins j (map (λ (s : NamedArc). s.1) steps) j → sum_of (map (λ (s : NamedArc). s.1) steps) <ℤ pos 0 → (n : Node) × IsNodeAt p readings j n
  begins_at [] j each joins negative = absurd (omega (arith, ints, negative))
  begins_at (s ∷ steps) j each joins negative = let first = All-head (IsBoundArc p readings) s steps each in (first.0.from, subst (λ (i : ℕ). IsNodeAt p readings i first.0.from) joins.0 first.2.tail)

  pub named_contradiction : (arcs : List Arc) (steps : List NamedArc) → All (IsBoundArc p readings) steps → IsContradiction arcs (map (λ (s : NamedArc). s.1) steps) → IsContradictionOf p (map weighed steps)
  named_contradiction arcs steps each is =
      let j = is.closed.0 in
      let start = begins_at steps j each is.closed.1.joined is.negative in
      record {
        closed = (start.0, leads steps j j start.0 start.0 each is.closed.1.joined start.1 start.1);
        negative = subst (λ (w : ℤ). w <ℤ pos 0) (same_sum steps) is.negative;
      }
