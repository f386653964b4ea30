-- Three nodes worked out: each definition holds of one thing and fails of another.
use Rattle.std.proofs.Common.{◌≡◌, ℕ, zero, suc, ◌<◌, Bool, true, false, List, [], ◌∷◌, length, refl, sym, arith}
use Rattle.std.specs.Prelude.{ℤ, pos, neg_ℤ, ◌+ℤ◌, ◌-ℤ◌, ◌≤ℤ◌, ◌<ℤ◌, Contains}
use Rattle.std.proofs.lemmas.Int.{ints}
use Rattle.std.proofs.lemmas.List.Elements.{All-from_recursion, All-contains}
use Rattle.problem_model.specs.Executions.{Arc, at, Obeys, IsExecution, AreWithin, values_by}
use Rattle.problem_model.specs.Paths.{sum_of, IsPath, IsContradiction, IsSimple}
use Rattle.problem_model.specs.Differences.{IsGreatest, IsUnbounded, IsLeast, IsAlwaysBefore, IsAfter, IsSimultaneous, IsOpen}
use Rattle.problem_model.specs.Earliest.{IsNonNegative, IsEarliest, AreUpTo}
use Rattle.problem_model.specs.Cuts.{IsCut, raised_outside}
use Rattle.problem_model.specs.Rows.{IsClosedRow, IsGreatestLead, IsLeastLead, attaining, least_differences}
use Rattle.problem_model.specs.Reversal.{reversed, all_reversed, walked_back}
use Rattle.problem_model.proofs.Paths.{no_execution, greatest_from, greatest_one, unbounded_not_greatest}
use Rattle.problem_model.proofs.Cuts.{cut_unbounded}
use Rattle.problem_model.proofs.Attaining.{greatest_lead_one, attaining_execution}
use Rattle.problem_model.proofs.Towards.{least_lead_one, towards_execution, towards_least}

-- x1 - x0 ≤ 5, x0 - x1 ≤ -2, x1 - x2 ≤ -1: node 1 comes 2 to 5 after node 0, and node 2 at least 1 after node 1
abbrev pub most_five : Arc
most_five = record { from = 0; to = 1; weight = pos 5 }

abbrev pub least_two : Arc
least_two = record { from = 1; to = 0; weight = neg_ℤ (pos 2) }

abbrev pub least_one : Arc
least_one = record { from = 2; to = 1; weight = neg_ℤ (pos 1) }

-- x2 - x0 ≤ 2, which the others leave no room for
abbrev pub most_two : Arc
most_two = record { from = 0; to = 2; weight = pos 2 }

abbrev pub three : List Arc
three = most_five ∷ least_two ∷ least_one ∷ []

abbrev pub four : List Arc
four = most_five ∷ least_two ∷ least_one ∷ most_two ∷ []

-- the values 0, 2 and 3, and the values 0, 5 and 6
abbrev pub low : List ℤ
low = pos 0 ∷ pos 2 ∷ pos 3 ∷ []

abbrev high : List ℤ
high = pos 0 ∷ pos 5 ∷ pos 6 ∷ []

pub less_not_equal : (m n : ℕ) → m < n → m ≡ n → ⊥
less_not_equal m n l e = omega arith

pub has_five : Contains three most_five
has_five = (0, omega arith, refl)

pub has_two : Contains three least_two
has_two = (1, omega arith, refl)

pub has_one : Contains three least_one
has_one = (2, omega arith, refl)

pub three-within : AreWithin 3 three
three-within = All-from_recursion (λ a. (a.from < 3) × (a.to < 3)) three ((omega arith, omega arith), ((omega arith, omega arith), ((omega arith, omega arith), tt)))

within_two : AreWithin 2 three → ⊥
within_two w = let l : (2 < 2) × (1 < 2) = All-contains (λ a. (a.from < 2) × (a.to < 2)) three least_one w has_one in let l0 : 2 < 2 = l.0 in omega arith

pub low-execution : IsExecution 3 three low
low-execution = record { one_each = refl; obeys = All-from_recursion (Obeys (at low)) three (omega (arith, ints), (omega (arith, ints), (omega (arith, ints), tt))) }

high-execution : IsExecution 3 three high
high-execution = record { one_each = refl; obeys = All-from_recursion (Obeys (at high)) three (omega (arith, ints), (omega (arith, ints), (omega (arith, ints), tt))) }

-- node 1 one too late
late_not_execution : IsExecution 3 three (pos 0 ∷ pos 6 ∷ pos 7 ∷ []) → ⊥
late_not_execution x = let o : Obeys (at (pos 0 ∷ pos 6 ∷ pos 7 ∷ [])) most_five = All-contains (Obeys (at (pos 0 ∷ pos 6 ∷ pos 7 ∷ []))) three most_five x.obeys has_five in omega (arith, ints)

-- one value too few
short_not_execution : IsExecution 3 [] (pos 0 ∷ pos 6 ∷ []) → ⊥
short_not_execution x = less_not_equal 2 3 (omega arith) x.one_each

direct : IsPath three 0 1 (most_five ∷ [])
direct = record { within = All-from_recursion (Contains three) (most_five ∷ []) (has_five, tt); joined = (refl, refl) }

back : IsPath three 2 0 (least_one ∷ least_two ∷ [])
back = record { within = All-from_recursion (Contains three) (least_one ∷ least_two ∷ []) (has_one, (has_two, tt)); joined = (refl, (refl, refl)) }

back-sum : sum_of (least_one ∷ least_two ∷ []) ≡ neg_ℤ (pos 3)
back-sum = refl

-- the two arcs in the other order do not join
unjoined_not_path : IsPath three 2 0 (least_two ∷ least_one ∷ []) → ⊥
unjoined_not_path p = less_not_equal 1 2 (omega arith) p.joined.0

once : IsSimple 1 (least_two ∷ [])
once zero zero li lj e = refl
once zero (suc zero) li lj e = absurd (less_not_equal 0 1 (omega arith) (sym e))
once (suc zero) zero li lj e = absurd (less_not_equal 0 1 (omega arith) e)
once (suc zero) (suc zero) li lj e = refl
once (suc (suc i)) j li lj e = absurd (omega arith)
once i (suc (suc j)) li lj e = absurd (omega arith)

-- there and back and there again comes to node 0 twice
again_not_simple : IsSimple 0 (most_five ∷ least_two ∷ most_five ∷ []) → ⊥
again_not_simple s = less_not_equal 0 2 (omega arith) (s 0 2 (omega arith) (omega arith) refl)

-- node 0 to node 2 and back through node 1 sums to -1
cycle : IsContradiction four (most_two ∷ least_one ∷ least_two ∷ [])
cycle = record {
  closed = (
    0,
    record {
      within = All-from_recursion (Contains four) (most_two ∷ least_one ∷ least_two ∷ []) ((3, omega arith, refl), ((2, omega arith, refl), ((1, omega arith, refl), tt)));
      joined = (refl, (refl, (refl, refl)));
    },
  );
  negative = omega (arith, ints);
}

-- a chain of sum 3 is none, and the three arcs have none
positive_not_contradiction : IsContradiction three (most_five ∷ least_two ∷ []) → ⊥
positive_not_contradiction c = let n : sum_of (most_five ∷ least_two ∷ []) <ℤ pos 0 = c.negative in omega (arith, ints)

three_without_contradiction : (steps : List Arc) → IsContradiction three steps → ⊥
three_without_contradiction steps c = no_execution 3 three steps low c low-execution

four_without_execution : (xs : List ℤ) → IsExecution 3 four xs → ⊥
four_without_execution xs x = no_execution 3 four (most_two ∷ least_one ∷ least_two ∷ []) xs cycle x

greatest-five : IsGreatest 3 three 0 1 (pos 5)
greatest-five = greatest_from 3 three 0 1 (pos 5) (most_five ∷ []) high direct refl high-execution refl

four_not_greatest : IsGreatest 3 three 0 1 (pos 4) → ⊥
four_not_greatest g = let e : pos 4 ≡ pos 5 = greatest_one 3 three 0 1 (pos 4) (pos 5) g greatest-five in omega (arith, ints)

-- node 2 comes at least 3 after node 0
least-three : IsLeast 3 three 0 2 (pos 3)
least-three = greatest_from 3 three 2 0 (neg_ℤ (pos 3)) (least_one ∷ least_two ∷ []) low back refl low-execution refl

two_not_least : IsLeast 3 three 0 2 (pos 2) → ⊥
two_not_least g = let e : neg_ℤ (pos 2) ≡ neg_ℤ (pos 3) = greatest_one 3 three 2 0 (neg_ℤ (pos 2)) (neg_ℤ (pos 3)) g least-three in omega (arith, ints)

-- nodes 0 and 1
abbrev pub first_two : ℕ → Bool
first_two zero = true
first_two (suc zero) = true
first_two (suc (suc k)) = false

abbrev pub only_first : ℕ → Bool
only_first zero = true
only_first (suc k) = false

cut : IsCut three first_two
cut = All-from_recursion (λ a. first_two a.from ≡ true → first_two a.to ≡ true) three ((λ e. refl), ((λ e. refl), ((λ e. refl), tt)))

one_node_not_cut : IsCut three only_first → ⊥
one_node_not_cut c = let e : only_first 1 ≡ true = All-contains (λ a. only_first a.from ≡ true → only_first a.to ≡ true) three most_five c has_five refl in
    let f : only_first 1 ≡ false = refl in cc

raised-seven : values_by (raised_outside first_two 7 low) 3 ≡ pos 0 ∷ pos 2 ∷ pos 10 ∷ []
raised-seven = refl

unbounded : IsUnbounded 3 three 0 2
unbounded = cut_unbounded 3 three first_two low 0 2 three-within cut low-execution (omega arith) (omega arith) refl refl

bounded : IsUnbounded 3 three 0 1 → ⊥
bounded u = unbounded_not_greatest 3 three 0 1 (pos 5) u greatest-five

before : IsAlwaysBefore 3 three 0 1
before xs x = let o : Obeys (at xs) least_two = All-contains (Obeys (at xs)) three least_two x.obeys has_two in omega (arith, ints)

after : IsAfter 3 three 1 0
after = before

not_before : IsAlwaysBefore 3 three 1 0 → ⊥
not_before b = let l : pos 2 <ℤ pos 0 = b low low-execution in omega (arith, ints)

-- x1 - x0 ≤ 0 and x0 - x1 ≤ 0
abbrev level : List Arc
level = record { from = 0; to = 1; weight = pos 0 } ∷ record { from = 1; to = 0; weight = pos 0 } ∷ []

same : IsSimultaneous 2 level 0 1
same xs x =
    let up : Obeys (at xs) (record { from = 0; to = 1; weight = pos 0 }) = All-contains (Obeys (at xs)) level (record { from = 0; to = 1; weight = pos 0 }) x.obeys (0, omega arith, refl) in
    let down : Obeys (at xs) (record { from = 1; to = 0; weight = pos 0 }) = All-contains (Obeys (at xs)) level (record { from = 1; to = 0; weight = pos 0 }) x.obeys (1, omega arith, refl) in
    omega (arith, ints)

not_same : IsSimultaneous 3 three 0 1 → ⊥
not_same s = let e : pos 0 ≡ pos 2 = s low low-execution in omega (arith, ints)

-- without any arc two nodes may lie each way
free : (xs : List ℤ) → length xs ≡ 2 → IsExecution 2 [] xs
free xs l = record { one_each = l; obeys = All-from_recursion (Obeys (at xs)) [] tt }

undecided : IsOpen 2 [] 0 1
undecided = (
  λ b. (let l : pos 1 <ℤ pos 0 = b (pos 1 ∷ pos 0 ∷ []) (free (pos 1 ∷ pos 0 ∷ []) refl) in omega (arith, ints)),
  λ b. (let l : pos 1 <ℤ pos 0 = b (pos 0 ∷ pos 1 ∷ []) (free (pos 0 ∷ pos 1 ∷ []) refl) in omega (arith, ints)),
  λ s. (let e : pos 0 ≡ pos 1 = s (pos 0 ∷ pos 1 ∷ []) (free (pos 0 ∷ pos 1 ∷ []) refl) in omega (arith, ints)),
)

decided : IsOpen 3 three 0 1 → ⊥
decided o = o.0 before

pub low-non_negative : IsNonNegative (at low)
low-non_negative zero = omega (arith, ints)
low-non_negative (suc zero) = omega (arith, ints)
low-non_negative (suc (suc zero)) = omega (arith, ints)
low-non_negative (suc (suc (suc k))) = omega (arith, ints)

below_zero : IsNonNegative (at (neg_ℤ (pos 1) ∷ [])) → ⊥
below_zero n = let l : pos 0 ≤ℤ neg_ℤ (pos 1) = n 0 in omega (arith, ints)

low_least : (ys : List ℤ) → IsExecution 3 three ys → IsNonNegative (at ys) → (k : ℕ) → at low k ≤ℤ at ys k
low_least ys y n k = cases k
  where
    oTwo : Obeys (at ys) least_two
    oTwo = All-contains (Obeys (at ys)) three least_two y.obeys has_two

    oOne : Obeys (at ys) least_one
    oOne = All-contains (Obeys (at ys)) three least_one y.obeys has_one

    cases : (k : ℕ) → at low k ≤ℤ at ys k
    cases zero = n 0
    cases (suc zero) = omega (arith, ints, n 0, oTwo)
    cases (suc (suc zero)) = omega (arith, ints, n 0, oTwo, oOne)
    cases (suc (suc (suc k))) = n (suc (suc (suc k)))

pub low-earliest : IsEarliest 3 three low
low-earliest = record { execution = low-execution; non_negative = low-non_negative; least = low_least }

high_not_earliest : IsEarliest 3 three high → ⊥
high_not_earliest e = let l : pos 5 ≤ℤ pos 2 = e.least low low-execution low-non_negative 1 in omega (arith, ints)

up_to_five : AreUpTo 5 three
up_to_five = All-from_recursion (λ a. (neg_ℤ (pos 5) ≤ℤ a.weight) × (a.weight ≤ℤ pos 5)) three
    ((omega (arith, ints), omega (arith, ints)), ((omega (arith, ints), omega (arith, ints)), ((omega (arith, ints), omega (arith, ints)), tt)))

not_up_to_four : AreUpTo 4 three → ⊥
not_up_to_four u = let l : (neg_ℤ (pos 4) ≤ℤ pos 5) × (pos 5 ≤ℤ pos 4) = All-contains (λ a. (neg_ℤ (pos 4) ≤ℤ a.weight) × (a.weight ≤ℤ pos 4)) three most_five u has_five in
    let l1 : pos 5 ≤ℤ pos 4 = l.1 in omega (arith, ints)

-- the row from node 0: 0 and 5, and no path to node 2
abbrev pub from_zero : ℕ → ℤ
from_zero zero = pos 0
from_zero (suc k) = pos 5

row : IsClosedRow three 0 first_two from_zero
row = record {
  own = (refl, refl);
  along = All-from_recursion (λ a. first_two a.from ≡ true → (first_two a.to ≡ true) × (from_zero a.to ≤ℤ (from_zero a.from +ℤ a.weight))) three
      ((λ e. (refl, omega (arith, ints))), ((λ e. (refl, omega (arith, ints))), ((λ e. absurd (let f : false ≡ true = e in let g : ⊥ = cc in g)), tt)));
  path = paths;
}
  where
    paths : (k : ℕ) → first_two k ≡ true → (steps : List Arc) × IsPath three 0 k steps × (sum_of steps ≡ from_zero k)
    paths zero e = ([], record { within = All-from_recursion (Contains three) [] tt; joined = refl }, refl)
    paths (suc zero) e = (most_five ∷ [], direct, refl)
    paths (suc (suc k)) e = absurd (let f : false ≡ true = e in let g : ⊥ = cc in g)

-- a distance of 6 is shortened by an arc
abbrev too_far : ℕ → ℤ
too_far zero = pos 0
too_far (suc k) = pos 6

far_not_row : IsClosedRow three 0 first_two too_far → ⊥
far_not_row r =
    let a : (first_two 1 ≡ true) × (pos 6 ≤ℤ (pos 0 +ℤ pos 5)) = All-contains
    (λ a. first_two a.from ≡ true → (first_two a.to ≡ true) × (too_far a.to ≤ℤ (too_far a.from +ℤ a.weight))) three most_five r.along has_five refl in
    let l : pos 6 ≤ℤ (pos 0 +ℤ pos 5) = a.1 in
    omega (arith, ints)

-- K is 5 - 2 = 3, at node 1
lead : IsGreatestLead 3 first_two from_zero low (pos 3)
lead = record { attained = (1, omega arith, refl, refl); most = leads }
  where
    leads : (k : ℕ) → k < 3 → first_two k ≡ true → (from_zero k -ℤ at low k) ≤ℤ pos 3
    leads zero l e = omega (arith, ints)
    leads (suc zero) l e = omega (arith, ints)
    leads (suc (suc k)) l e = absurd (let f : false ≡ true = e in let g : ⊥ = cc in g)

other_lead : IsGreatestLead 3 first_two from_zero low (pos 4) → ⊥
other_lead g = let e : pos 4 ≡ pos 3 = greatest_lead_one 3 first_two from_zero low (pos 4) (pos 3) g lead in omega (arith, ints)

-- so the greatest differences from node 0 are attained by 0, 5 and 3 + 3
attained : values_by (attaining first_two from_zero low (pos 3)) 3 ≡ high
attained = refl

attained_execution : IsExecution 3 three (values_by (attaining first_two from_zero low (pos 3)) 3)
attained_execution = attaining_execution 3 three 0 first_two from_zero low three-within row low-execution (pos 3) lead

-- the row towards node 1: 5 from node 0, -1 from node 2
abbrev pub all_three : ℕ → Bool
all_three zero = true
all_three (suc zero) = true
all_three (suc (suc zero)) = true
all_three (suc (suc (suc k))) = false

abbrev pub towards_one : ℕ → ℤ
towards_one zero = pos 5
towards_one (suc zero) = pos 0
towards_one (suc (suc k)) = neg_ℤ (pos 1)

three-reversed : all_reversed three ≡ record { from = 1; to = 0; weight = pos 5 } ∷ record { from = 0; to = 1; weight = neg_ℤ (pos 2) } ∷ record { from = 1; to = 2; weight = neg_ℤ (pos 1) } ∷ []
three-reversed = refl

back-walked : walked_back (reversed least_two ∷ reversed least_one ∷ []) ≡ least_one ∷ least_two ∷ []
back-walked = refl

row_towards : IsClosedRow (all_reversed three) 1 all_three towards_one
row_towards = record {
  own = (refl, refl);
  along = All-from_recursion (λ a. all_three a.from ≡ true → (all_three a.to ≡ true) × (towards_one a.to ≤ℤ (towards_one a.from +ℤ a.weight))) (all_reversed three)
      ((λ e. (refl, omega (arith, ints))), ((λ e. (refl, omega (arith, ints))), ((λ e. (refl, omega (arith, ints))), tt)));
  path = paths;
}
  where
    paths : (k : ℕ) → all_three k ≡ true → (steps : List Arc) × IsPath (all_reversed three) 1 k steps × (sum_of steps ≡ towards_one k)
    paths zero e = (reversed most_five ∷ [], record { within = All-from_recursion (Contains (all_reversed three)) (reversed most_five ∷ []) ((0, omega arith, refl), tt); joined = (refl, refl) }, refl)
    paths (suc zero) e = ([], record { within = All-from_recursion (Contains (all_reversed three)) [] tt; joined = refl }, refl)
    paths (suc (suc zero)) e = (reversed least_one ∷ [], record { within = All-from_recursion (Contains (all_reversed three)) (reversed least_one ∷ []) ((2, omega arith, refl), tt); joined = (refl, refl) }, refl)
    paths (suc (suc (suc k))) e = absurd (let f : false ≡ true = e in let g : ⊥ = cc in g)

-- K is -5 - 0, at node 0: the least of -5 - 0, 0 - 2 and 1 - 3
lead_towards : IsLeastLead 3 all_three (least_differences towards_one) low (neg_ℤ (pos 5))
lead_towards = record { attained = (0, omega arith, refl, refl); least_lead = leads }
  where
    leads : (k : ℕ) → k < 3 → all_three k ≡ true → neg_ℤ (pos 5) ≤ℤ (least_differences towards_one k -ℤ at low k)
    leads zero l e = omega (arith, ints)
    leads (suc zero) l e = omega (arith, ints)
    leads (suc (suc zero)) l e = omega (arith, ints)
    leads (suc (suc (suc k))) l e = absurd (omega arith)

other_lead_towards : IsLeastLead 3 all_three (least_differences towards_one) low (neg_ℤ (pos 4)) → ⊥
other_lead_towards g = let e : neg_ℤ (pos 4) ≡ neg_ℤ (pos 5) = least_lead_one 3 all_three (least_differences towards_one) low (neg_ℤ (pos 4)) (neg_ℤ (pos 5)) g lead_towards in omega (arith, ints)

-- the least differences from node 1 are attained by -5, 0 and 1
attained_towards : values_by (attaining all_three (least_differences towards_one) low (neg_ℤ (pos 5))) 3 ≡ neg_ℤ (pos 5) ∷ pos 0 ∷ pos 1 ∷ []
attained_towards = refl

attained_towards_execution : IsExecution 3 three (values_by (attaining all_three (least_differences towards_one) low (neg_ℤ (pos 5))) 3)
attained_towards_execution = towards_execution 3 three 1 all_three towards_one low three-within row_towards low-execution (neg_ℤ (pos 5)) lead_towards

least_from_one : IsLeast 3 three 1 2 (pos 1)
least_from_one = towards_least 3 three 1 all_three towards_one low three-within row_towards low-execution 2 (omega arith) (omega arith) refl
