-- The three nodes worked out further: tables, rows with parents, an insertion that succeeds, one that finds a contradiction, and the making of a row.
use Rattle.std.proofs.Common.{◌≡◌, ℕ, zero, suc, ◌<◌, ◌≤◌, Bool, true, false, List, [], ◌∷◌, length, get_or, refl, ap, sym, arith, inl, inr, ◌⊎◌}
use Rattle.std.specs.Prelude.{ℤ, pos, ◌+ℤ◌, ◌≤ℤ◌, ◌≢◌, Contains}
use Rattle.std.proofs.lemmas.Int.{ints}
use Rattle.std.proofs.lemmas.Bool.{cases_eq}
use Rattle.std.proofs.lemmas.List.Elements.{All-from_recursion, All-contains}
use Rattle.problem_model.specs.Executions.{Arc, at, Obeys, IsExecution, AreWithin}
use Rattle.problem_model.specs.Paths.{IsContradiction}
use Rattle.problem_model.specs.Earliest.{IsNonNegative, IsEarliest}
use Rattle.problem_model.specs.Tables.{ArcTable, Lists, ObeysAll, without, reversed_table}
use Rattle.problem_model.specs.Parents.{Cells, no_parent, LeadsBack, IsRow}
use Rattle.problem_model.specs.Insertions.{Raises, IsMet, IsRaising, IsKeptRaise, IsAsked, IsRaiseStep, HasChain, HaveChains, IsFirstRaise}
use Rattle.problem_model.specs.RowPops.{reduced, IsRelaxing, IsSameCell, IsNearer, IsRowStep, IsUnderWay}
use Rattle.problem_model.proofs.Instances.{most_five, least_two, least_one, most_two, three, four, low, three-within, low-execution, low-earliest, first_two, only_first, all_three, from_zero, towards_one, less_not_equal}
use Rattle.problem_model.proofs.Tables.{lists_listed, obeys_all, without-same, without_force}
use Rattle.problem_model.proofs.Insertions.{settled_earliest, stuck_contradiction, raising_step, chains_step, obeyed_elsewhere, first_raising, first_chains}
use Rattle.problem_model.proofs.RowStarts.{own_candidate}
use Rattle.problem_model.proofs.RowsUnderWay.{start_put, under_way_step, under_way_row}

abbrev arc_of : ℕ → Arc
arc_of zero = most_five
arc_of (suc zero) = least_two
arc_of (suc (suc zero)) = least_one
arc_of (suc (suc (suc k))) = most_two

abbrev first_three : ℕ → Bool
first_three zero = true
first_three (suc zero) = true
first_three (suc (suc zero)) = true
first_three (suc (suc (suc k))) = false

abbrev first_four : ℕ → Bool
first_four zero = true
first_four (suc k) = first_three k

-- arcs 0, 1 and 2 are in force, and arc 3 is not
abbrev table : ArcTable
table = record { arc = arc_of; in_force = first_three }

-- all four are
abbrev full : ArcTable
full = record { arc = arc_of; in_force = first_four }

below_three : (j : ℕ) → first_three j ≡ true → j < 3
below_three zero e = omega arith
below_three (suc zero) e = omega arith
below_three (suc (suc zero)) e = omega arith
below_three (suc (suc (suc k))) e = absurd (let f : false ≡ true = e in let g : ⊥ = cc in g)

below_four : (j : ℕ) → first_four j ≡ true → j < 4
below_four zero e = omega arith
below_four (suc k) e = let l : k < 3 = below_three k e in omega arith

table-lists : Lists table three
table-lists = lists_listed table 3 below_three

full-lists : Lists full four
full-lists = lists_listed full 4 below_four

-- a list that lacks an arc in force
lacking_not_list : Lists table (most_five ∷ least_two ∷ []) → ⊥
lacking_not_list l = let c : Contains (most_five ∷ least_two ∷ []) least_one = l.all 2 refl in absent c.0 c.1 c.2
  where
    absent : (k : ℕ) → k < 2 → get_or (most_five ∷ least_two ∷ []) k least_one ≡ least_one → ⊥
    absent zero lk e = less_not_equal 0 2 (omega arith) (ap (λ a. a.from) e)
    absent (suc zero) lk e = less_not_equal 1 2 (omega arith) (ap (λ a. a.from) e)
    absent (suc (suc k)) lk e = omega arith

-- the arcs without arc 2
abbrev two : List Arc
two = most_five ∷ least_two ∷ []

two-lists : Lists (without table 2) two
two-lists = lists_listed (without table 2) 3 (λ j h. below_three j (without_force table 2 j h))

three-lists : Lists (without full 3) three
three-lists = lists_listed (without full 3) 3 few
  where
    few : (j : ℕ) → (without full 3).in_force j ≡ true → j < 3
    few j h = let l : j < 4 = below_four j (without_force full 3 j h) in elim (cases_eq j 3) [
      | inl e ↦ absurd (let f : (without full 3).in_force j ≡ false = without-same full 3 j e in let g : ⊥ = cc in g)
      | inr n ↦ omega arith
    ]

-- the row from node 0: node 1 has arc 0 as parent
abbrev parents : ℕ → ℕ
parents zero = no_parent
parents (suc k) = 0

abbrev row_cells : Cells
row_cells = record { known = first_two; value = from_zero; parent = parents }

row_is : IsRow 3 table 0 row_cells
row_is = record { own = (refl, refl, refl); along = along; back = back; past = past }
  where
    along : (j : ℕ)
        → first_three j ≡ true → first_two (arc_of j).from ≡ true
        → (first_two (arc_of j).to ≡ true) × (from_zero (arc_of j).to ≤ℤ (from_zero (arc_of j).from +ℤ (arc_of j).weight))
    along zero f k = (refl, omega (arith, ints))
    along (suc zero) f k = (refl, omega (arith, ints))
    along (suc (suc zero)) f k = absurd (let e : false ≡ true = k in let g : ⊥ = cc in g)
    along (suc (suc (suc j))) f k = absurd (let e : false ≡ true = f in let g : ⊥ = cc in g)

    back : (k : ℕ) → first_two k ≡ true → (n : ℕ) × (n < 3) × LeadsBack table 0 row_cells n k
    back zero e = (0, omega arith, refl)
    back (suc zero) e = (1, omega arith, ((λ q. less_not_equal 0 1 (omega arith) (sym q)), record { in_force = refl; ends = refl; tail_known = refl; value = refl }, refl))
    back (suc (suc k)) e = absurd (let f : false ≡ true = e in let g : ⊥ = cc in g)

    past : (k : ℕ) → 3 ≤ k → first_two k ≡ false
    past zero l = absurd (omega arith)
    past (suc zero) l = absurd (omega arith)
    past (suc (suc k)) l = refl

-- a parent that does not lead to its node
abbrev astray : Cells
astray = record { known = first_two; value = from_zero; parent = λ _. 1 }

astray_not_row : IsRow 3 table 0 astray → ⊥
astray_not_row r = let b : (n : ℕ) × (n < 3) × LeadsBack table 0 astray n 1 = r.back 1 refl in nowhere b.0 b.2
  where
    nowhere : (n : ℕ) → LeadsBack table 0 astray n 1 → ⊥
    nowhere zero q = less_not_equal 0 1 (omega arith) (sym q)
    nowhere (suc n) q = less_not_equal 0 1 (omega arith) q.1.ends

-- the row towards node 1: node 0 has arc 0 as parent, node 2 has arc 2
abbrev onward : ℕ → ℕ
onward zero = 0
onward (suc zero) = no_parent
onward (suc (suc k)) = 2

abbrev towards_cells : Cells
towards_cells = record { known = all_three; value = towards_one; parent = onward }

towards_is : IsRow 3 (reversed_table table) 1 towards_cells
towards_is = record { own = (refl, refl, refl); along = along; back = back; past = past }
  where
    along : (j : ℕ)
        → first_three j ≡ true → all_three (arc_of j).to ≡ true
        → (all_three (arc_of j).from ≡ true) × (towards_one (arc_of j).from ≤ℤ (towards_one (arc_of j).to +ℤ (arc_of j).weight))
    along zero f k = (refl, omega (arith, ints))
    along (suc zero) f k = (refl, omega (arith, ints))
    along (suc (suc zero)) f k = (refl, omega (arith, ints))
    along (suc (suc (suc j))) f k = absurd (let e : false ≡ true = f in let g : ⊥ = cc in g)

    back : (k : ℕ) → all_three k ≡ true → (n : ℕ) × (n < 3) × LeadsBack (reversed_table table) 1 towards_cells n k
    back zero e = (1, omega arith, (less_not_equal 0 1 (omega arith), record { in_force = refl; ends = refl; tail_known = refl; value = refl }, refl))
    back (suc zero) e = (0, omega arith, refl)
    back (suc (suc zero)) e = (1, omega arith, ((λ q. less_not_equal 1 2 (omega arith) (sym q)), record { in_force = refl; ends = refl; tail_known = refl; value = refl }, refl))
    back (suc (suc (suc k))) e = absurd (let f : false ≡ true = e in let g : ⊥ = cc in g)

    past : (k : ℕ) → 3 ≤ k → all_three k ≡ false
    past zero l = absurd (omega arith)
    past (suc zero) l = absurd (omega arith)
    past (suc (suc zero)) l = absurd (omega arith)
    past (suc (suc (suc k))) l = refl

-- before arc 2 came, the earliest execution was 0, 2, 0
abbrev earlier : List ℤ
earlier = pos 0 ∷ pos 2 ∷ pos 0 ∷ []

earlier-earliest : IsEarliest 3 two earlier
earlier-earliest = record {
  execution = record { one_each = refl; obeys = All-from_recursion (Obeys (at earlier)) two (omega (arith, ints), (omega (arith, ints), tt)) };
  non_negative = not_below;
  least = λ ys y n k. least ys y n k;
}
  where
    not_below : IsNonNegative (at earlier)
    not_below zero = omega (arith, ints)
    not_below (suc zero) = omega (arith, ints)
    not_below (suc (suc zero)) = omega (arith, ints)
    not_below (suc (suc (suc k))) = omega (arith, ints)

    least : (ys : List ℤ) → IsExecution 3 two ys → IsNonNegative (at ys) → (k : ℕ) → at earlier k ≤ℤ at ys k
    least ys y n zero = n 0
    least ys y n (suc zero) = let o : Obeys (at ys) least_two = All-contains (Obeys (at ys)) two least_two y.obeys (1, omega arith, refl) in omega (arith, ints, n 0)
    least ys y n (suc (suc zero)) = n 2
    least ys y n (suc (suc (suc k))) = n (suc (suc (suc k)))

two-within : AreWithin 3 two
two-within = All-from_recursion (λ a. (a.from < 3) × (a.to < 3)) two ((omega arith, omega arith), ((omega arith, omega arith), tt))

-- arc 2 asks node 2 to rise by 3
abbrev at_two : ℤ → ℕ → ℤ
at_two r zero = pos 0
at_two r (suc zero) = pos 0
at_two r (suc (suc zero)) = r
at_two r (suc (suc (suc k))) = pos 0

abbrev asked : Raises
asked = record { value = at earlier; raise = at_two (pos 3); parent = λ _. 2 }

asked_first : IsFirstRaise table 2 (pos 3) (at earlier) asked
asked_first = record { value = λ k. refl; raise = refl; others = others; parent = refl; equal = refl; positive = omega (arith, ints) }
  where
    others : (k : ℕ) → k ≢ 2 → at_two (pos 3) k ≡ pos 0
    others zero n = refl
    others (suc zero) n = refl
    others (suc (suc zero)) n = absurd (n refl)
    others (suc (suc (suc k))) n = refl

asked_by_two : IsFirstRaise table 2 (pos 2) (at earlier) asked → ⊥
asked_by_two f = let e : pos 2 ≡ pos 3 = f.equal in omega (arith, ints)

-- node 2 gets its raise, and no arc leads to it
abbrev given : Raises
given = record { value = at low; raise = λ _. pos 0; parent = λ _. 2 }

given_step : IsRaiseStep table 2 asked given
given_step = record { lifted = refl; others = others; each = λ k. inl (each k); met = met }
  where
    others : (k : ℕ) → k ≢ 2 → at low k ≡ at earlier k
    others zero n = refl
    others (suc zero) n = refl
    others (suc (suc zero)) n = absurd (n refl)
    others (suc (suc (suc k))) n = refl

    each : (k : ℕ) → IsKeptRaise 2 asked given k
    each zero = record { raise = inr (less_not_equal 0 2 (omega arith), refl); parent = refl }
    each (suc zero) = record { raise = inr (less_not_equal 1 2 (omega arith), refl); parent = refl }
    each (suc (suc zero)) = record { raise = inl (refl, refl); parent = refl }
    each (suc (suc (suc k))) = record { raise = inr ((λ e. less_not_equal 2 (suc (suc (suc k))) (omega arith) (sym e)), refl); parent = refl }

    met : (j : ℕ) → first_three j ≡ true → (arc_of j).to ≡ 2 → IsMet table given j
    met zero f e = absurd (less_not_equal 1 2 (omega arith) e)
    met (suc zero) f e = absurd (less_not_equal 0 2 (omega arith) e)
    met (suc (suc zero)) f e = absurd (less_not_equal 1 2 (omega arith) e)
    met (suc (suc (suc j))) f e = absurd (let g : false ≡ true = f in let h : ⊥ = cc in h)

-- nothing happened, but the raise waits still
idle_not_step : IsRaiseStep table 2 asked asked → ⊥
idle_not_step s = let e : pos 0 ≡ pos 0 +ℤ pos 3 = s.lifted in omega (arith, ints)

asked_raising : IsRaising table 1 (pos 3) (pos 3) (at earlier) asked
asked_raising = first_raising 3 table three two 2 earlier table-lists two-lists two-within earlier-earliest (pos 3) asked refl asked_first

-- no raise that waits is above the top
low_top_not_raising : IsRaising table 1 (pos 3) (pos 2) (at earlier) asked → ⊥
low_top_not_raising b = let l : pos 3 ≤ℤ pos 2 = b.below_top 2 in omega (arith, ints)

at_two_upto : (k : ℕ) → at_two (pos 3) k ≤ℤ pos 3
at_two_upto zero = omega (arith, ints)
at_two_upto (suc zero) = omega (arith, ints)
at_two_upto (suc (suc zero)) = omega (arith, ints)
at_two_upto (suc (suc (suc k))) = omega (arith, ints)

-- so 0, 2, 3 is the earliest execution with arc 2
inserted : IsEarliest 3 three low
inserted = settled_earliest 3 table three 1 (pos 3) (pos 3) (at earlier) given low table-lists
    (raising_step 3 table 1 (pos 3) (pos 3) (at earlier) asked given 2 asked_raising (λ e. less_not_equal 1 2 (omega arith) (sym e)) (omega (arith, ints)) at_two_upto
    (obeyed_elsewhere 3 table three two 2 earlier table-lists two-lists two-within earlier-earliest) given_step)
    earlier-earliest.non_negative (λ k. omega (arith, ints)) refl (λ k. refl)

-- arc 3 asks node 0 to rise by 1, so arc 1 asks node 1, and arc 2 asks node 2, which is the head of arc 3
abbrev only : ℕ → ℕ → ℤ
only zero zero = pos 1
only zero (suc k) = pos 0
only (suc n) zero = pos 0
only (suc n) (suc k) = only n k

abbrev asks : ℕ → ℕ
asks zero = 3
asks (suc zero) = 1
asks (suc (suc k)) = 2

abbrev after_zero : ℕ → ℤ
after_zero = at (pos 1 ∷ pos 2 ∷ pos 3 ∷ [])

abbrev after_one : ℕ → ℤ
after_one = at (pos 1 ∷ pos 3 ∷ pos 3 ∷ [])

abbrev waits_zero : Raises
waits_zero = record { value = at low; raise = only 0; parent = asks }

abbrev waits_one : Raises
waits_one = record { value = after_zero; raise = only 1; parent = asks }

abbrev waits_two : Raises
waits_two = record { value = after_one; raise = only 2; parent = asks }

zero_first : IsFirstRaise full 3 (pos 1) (at low) waits_zero
zero_first = record { value = λ k. refl; raise = refl; others = others; parent = refl; equal = refl; positive = omega (arith, ints) }
  where
    others : (k : ℕ) → k ≢ 0 → only 0 k ≡ pos 0
    others zero n = absurd (n refl)
    others (suc k) n = refl

zero_step : IsRaiseStep full 0 waits_zero waits_one
zero_step = record { lifted = refl; others = others; each = each; met = met }
  where
    others : (k : ℕ) → k ≢ 0 → after_zero k ≡ at low k
    others zero n = absurd (n refl)
    others (suc k) n = refl

    each : (k : ℕ) → IsKeptRaise 0 waits_zero waits_one k ⊎ IsAsked full 0 waits_zero waits_one k
    each zero = inl (record { raise = inl (refl, refl); parent = refl })
    each (suc zero) = inr (record { in_force = refl; begins = refl; ends = refl; equal = refl; positive = omega (arith, ints); greater = inr (omega (arith, ints)) })
    each (suc (suc k)) = inl (record { raise = inr ((λ e. less_not_equal 0 (suc (suc k)) (omega arith) (sym e)), refl); parent = refl })

    met : (j : ℕ) → first_four j ≡ true → (arc_of j).to ≡ 0 → IsMet full waits_one j
    met zero f e = absurd (less_not_equal 0 1 (omega arith) (sym e))
    met (suc zero) f e = omega (arith, ints)
    met (suc (suc zero)) f e = absurd (less_not_equal 0 1 (omega arith) (sym e))
    met (suc (suc (suc j))) f e = absurd (less_not_equal 0 2 (omega arith) (sym e))

one_step : IsRaiseStep full 1 waits_one waits_two
one_step = record { lifted = refl; others = others; each = each; met = met }
  where
    others : (k : ℕ) → k ≢ 1 → after_one k ≡ after_zero k
    others zero n = refl
    others (suc zero) n = absurd (n refl)
    others (suc (suc k)) n = refl

    each : (k : ℕ) → IsKeptRaise 1 waits_one waits_two k ⊎ IsAsked full 1 waits_one waits_two k
    each zero = inl (record { raise = inr (less_not_equal 0 1 (omega arith), refl); parent = refl })
    each (suc zero) = inl (record { raise = inl (refl, refl); parent = refl })
    each (suc (suc zero)) = inr (record { in_force = refl; begins = refl; ends = refl; equal = refl; positive = omega (arith, ints); greater = inr (omega (arith, ints)) })
    each (suc (suc (suc k))) = inl (record { raise = inr ((λ e. less_not_equal 1 (suc (suc (suc k))) (omega arith) (sym e)), refl); parent = refl })

    met : (j : ℕ) → first_four j ≡ true → (arc_of j).to ≡ 1 → IsMet full waits_two j
    met zero f e = omega (arith, ints)
    met (suc zero) f e = absurd (less_not_equal 0 1 (omega arith) e)
    met (suc (suc zero)) f e = omega (arith, ints)
    met (suc (suc (suc j))) f e = absurd (less_not_equal 1 2 (omega arith) (sym e))

only_upto : (n k : ℕ) → only n k ≤ℤ pos 1
only_upto zero zero = omega (arith, ints)
only_upto zero (suc k) = omega (arith, ints)
only_upto (suc n) zero = omega (arith, ints)
only_upto (suc n) (suc k) = only_upto n k

zero_raising : IsRaising full 2 (pos 1) (pos 1) (at low) waits_zero
zero_raising = first_raising 3 full four three 3 low full-lists three-lists three-within low-earliest (pos 1) waits_zero refl zero_first

zero_chains : HaveChains 3 full (at low) waits_zero 2
zero_chains = first_chains 3 full four three 3 low full-lists three-lists three-within low-earliest (pos 1) waits_zero refl zero_first

elsewhere : (j : ℕ) → first_four j ≡ true → (arc_of j).to ≢ 2 → Obeys (at low) (arc_of j)
elsewhere = obeyed_elsewhere 3 full four three 3 low full-lists three-lists three-within low-earliest

one_raising : IsRaising full 2 (pos 1) (pos 1) (at low) waits_one
one_raising = raising_step 3 full 2 (pos 1) (pos 1) (at low) waits_zero waits_one 0 zero_raising
    (less_not_equal 0 2 (omega arith)) (omega (arith, ints)) (only_upto 0) elsewhere zero_step

one_chains : HaveChains 3 full (at low) waits_one 2
one_chains = chains_step 3 full 2 (pos 1) (pos 1) (at low) waits_zero waits_one 0 zero_raising
    (less_not_equal 0 2 (omega arith)) (omega (arith, ints)) (only_upto 0) elsewhere zero_step (omega arith) zero_chains

two_chains : HaveChains 3 full (at low) waits_two 2
two_chains = chains_step 3 full 2 (pos 1) (pos 1) (at low) waits_one waits_two 1 one_raising
    (less_not_equal 1 2 (omega arith)) (omega (arith, ints)) (only_upto 1) elsewhere one_step (omega arith) one_chains

-- so the four arcs have a contradiction of at most three arcs
found : (steps : List Arc) × IsContradiction four steps × (length steps ≤ 3)
found =
    let chain : HasChain 3 full (at low) waits_two 2 2 = two_chains 2 (inl (omega (arith, ints))) in
    let c : IsContradiction four (chain.first ∷ chain.rest) × (length (chain.first ∷ chain.rest) ≤ 3) =
    stuck_contradiction 3 full four (at low) waits_two 2 full-lists chain (omega arith) refl (omega (arith, ints)) in
    (chain.first ∷ chain.rest, c.0, c.1)

-- the making of the row from node 0: first nothing is known
abbrev nothing : Cells
nothing = record { known = λ _. false; value = from_zero; parent = parents }

abbrev never : ℕ → Bool
never k = false

-- then node 0 is known and waits
abbrev own_cell : Cells
own_cell = record { known = only_first; value = from_zero; parent = parents }

-- then node 1, while node 0 rests
abbrev only_one : ℕ → Bool
only_one zero = false
only_one (suc k) = only_first k

begun : IsUnderWay 3 table 0 (at low) 0 5 nothing own_cell only_first
begun = start_put 3 table 0 (at low) 0 5 nothing own_cell 0 (pos 0) no_parent never only_first (own_candidate table 0 nothing
    (λ k. refl)) (obeys_all 3 table three low table-lists low-execution) (λ k. refl) (inl refl)
    (record { known_is = refl; value_is = refl; parent_is = refl; waiting = refl; others = others }) (omega arith) (omega (arith, ints)) (λ k e. absurd (let f : false ≡ true = e in
    let g : ⊥ = cc in g)) (λ k l. refl)
  where
    others : (k : ℕ) → k ≢ 0 → (only_first k ≡ false) × (from_zero k ≡ from_zero k) × (parents k ≡ parents k) × (only_first k ≡ false)
    others zero n = absurd (n refl)
    others (suc k) n = (refl, refl, refl, refl)

light : (j : ℕ) → first_three j ≡ true → (arc_of j).weight ≤ℤ pos 5
light zero f = omega (arith, ints)
light (suc zero) f = omega (arith, ints)
light (suc (suc zero)) f = omega (arith, ints)
light (suc (suc (suc j))) f = absurd (let g : false ≡ true = f in let h : ⊥ = cc in h)

heads : (j : ℕ) → first_three j ≡ true → (arc_of j).to < 3
heads zero f = omega arith
heads (suc zero) f = omega arith
heads (suc (suc zero)) f = omega arith
heads (suc (suc (suc j))) f = absurd (let g : false ≡ true = f in let h : ⊥ = cc in h)

first_pop : IsRowStep table 0 own_cell row_cells only_first only_one
first_pop = record { each = each; met = met }
  where
    each : (k : ℕ) → IsSameCell 0 own_cell row_cells only_first only_one k ⊎ IsNearer table 0 own_cell row_cells only_one k
    each zero = inl (record { known = refl; value = refl; parent = refl; waiting = inl (refl, refl) })
    each (suc zero) = inr (record { in_force = refl; begins = refl; ends = refl; known = refl; waiting = refl; value = refl; nearer = inl refl })
    each (suc (suc k)) = inl (record { known = refl; value = refl; parent = refl; waiting = inr ((λ e. less_not_equal 0 (suc (suc k)) (omega arith) (sym e)), refl) })

    met : (j : ℕ)
        → first_three j ≡ true → (arc_of j).from ≡ 0
        → (first_two (arc_of j).to ≡ true) × (from_zero (arc_of j).to ≤ℤ (from_zero 0 +ℤ (arc_of j).weight))
    met zero f e = (refl, omega (arith, ints))
    met (suc zero) f e = absurd (less_not_equal 0 1 (omega arith) (sym e))
    met (suc (suc zero)) f e = absurd (less_not_equal 0 2 (omega arith) (sym e))
    met (suc (suc (suc j))) f e = absurd (let g : false ≡ true = f in let h : ⊥ = cc in h)

-- a pop that relaxes nothing
idle_not_pop : IsRowStep table 0 own_cell own_cell only_first never → ⊥
idle_not_pop s = let f : (only_first 1 ≡ true) × (from_zero 1 ≤ℤ (from_zero 0 +ℤ pos 5)) = s.met 0 refl refl in let e : false ≡ true = f.0 in cc

second_pop : IsRowStep table 1 row_cells row_cells only_one never
second_pop = record { each = λ k. inl (each k); met = met }
  where
    each : (k : ℕ) → IsSameCell 1 row_cells row_cells only_one never k
    each zero = record { known = refl; value = refl; parent = refl; waiting = inr (less_not_equal 0 1 (omega arith), refl) }
    each (suc zero) = record { known = refl; value = refl; parent = refl; waiting = inl (refl, refl) }
    each (suc (suc k)) = record { known = refl; value = refl; parent = refl; waiting = inr ((λ e. less_not_equal 1 (suc (suc k)) (omega arith) (sym e)), refl) }

    met : (j : ℕ)
        → first_three j ≡ true → (arc_of j).from ≡ 1
        → (first_two (arc_of j).to ≡ true) × (from_zero (arc_of j).to ≤ℤ (from_zero 1 +ℤ (arc_of j).weight))
    met zero f e = absurd (less_not_equal 0 1 (omega arith) e)
    met (suc zero) f e = (refl, omega (arith, ints))
    met (suc (suc zero)) f e = absurd (less_not_equal 1 2 (omega arith) (sym e))
    met (suc (suc (suc j))) f e = absurd (let g : false ≡ true = f in let h : ⊥ = cc in h)

-- the row before its own node's arc is relaxed
unrelaxed : IsRelaxing table 0 (at low) (pos 0) (λ _. 0) nothing own_cell never → ⊥
unrelaxed b = let f : (only_first 1 ≡ true) × (from_zero 1 ≤ℤ (from_zero 0 +ℤ pos 5)) = b.met 0 refl refl refl in let e : false ≡ true = f.0 in cc

made : IsRow 3 table 0 row_cells
made =
    let obeyed : ObeysAll table (at low) = obeys_all 3 table three low table-lists low-execution in
    let popped : IsUnderWay 3 table 0 (at low) 0 5 nothing row_cells only_one =
    under_way_step 3 table 0 (at low) 0 5 nothing own_cell row_cells only_first only_one 0 begun obeyed light heads refl least_zero first_pop (omega arith) in
    let both : IsUnderWay 3 table 0 (at low) 0 5 nothing row_cells never =
    under_way_step 3 table 0 (at low) 0 5 nothing row_cells row_cells only_one never 1 popped obeyed light heads refl least_one_waits second_pop (omega arith) in
    under_way_row 3 table 0 (at low) 0 5 nothing row_cells never both (λ k. refl) (λ k e. absurd (let f : false ≡ true = e in let g : ⊥ = cc in g))
  where
    least_zero : (k : ℕ) → only_first k ≡ true → reduced (at low) own_cell 0 ≤ℤ reduced (at low) own_cell k
    least_zero zero e = omega (arith, ints)
    least_zero (suc k) e = absurd (let f : false ≡ true = e in let g : ⊥ = cc in g)

    least_one_waits : (k : ℕ) → only_one k ≡ true → reduced (at low) row_cells 1 ≤ℤ reduced (at low) row_cells k
    least_one_waits zero e = absurd (let f : false ≡ true = e in let g : ⊥ = cc in g)
    least_one_waits (suc zero) e = omega (arith, ints)
    least_one_waits (suc (suc k)) e = absurd (let f : false ≡ true = e in let g : ⊥ = cc in g)
