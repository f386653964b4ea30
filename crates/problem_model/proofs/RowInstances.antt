-- The row of the three nodes from node 0: each relation on cells holds of one thing and fails of another.
use Rattle.std.proofs.Common.{ℕ, zero, suc, ◌+◌, ◌*◌, ◌<◌, ◌≤◌, Bool, true, false, List, [], ◌∷◌, ◌≡◌, refl, sym, arith, inl, inr, ◌⊎◌}
use Rattle.std.specs.Prelude.{ℤ, pos, neg_ℤ, ◌+ℤ◌, ◌-ℤ◌, ◌≤ℤ◌, ◌<ℤ◌, ◌≢◌, slice_index_or}
use Rattle.std.proofs.lemmas.Int.{ints}
use Rattle.problem_model.specs.Executions.{at, Obeys}
use Rattle.problem_model.specs.Tables.{ObeysAll}
use Rattle.problem_model.specs.Parents.{Cells, no_parent, IsReached, IsRelaxed, IsTight, LeadsBack}
use Rattle.problem_model.specs.RowPops.{reduced, IsFresh, IsFinal, IsUntouched, IsGiven, IsTouched, IsRelaxing, IsSameCell, IsNearer, IsSpread, IsAsBefore, IsPut, IsArcCandidate, IsCandidate, IsHigh, IsUnderWay}
use Rattle.problem_model.proofs.Instances.{most_five, low, less_not_equal}
use Rattle.problem_model.proofs.ArcInstances.{marked, three_numbered, four_numbered, false_not_true}

-- which nodes are known, their distances and their parents
abbrev cells : List Bool → List ℤ → List ℕ → Cells
cells known values parents = record { known = marked known; value = at values; parent = λ k. slice_index_or parents k 0 }

-- nothing is known; then node 0; then node 1 too, by A
abbrev nothing : Cells
nothing = cells [] [] []

abbrev own : Cells
own = cells (true ∷ []) (pos 0 ∷ []) (no_parent ∷ [])

abbrev row : Cells
row = cells (true ∷ true ∷ []) (pos 0 ∷ pos 5 ∷ []) (no_parent ∷ 0 ∷ [])

-- node 1 one too far
abbrev far : Cells
far = cells (true ∷ true ∷ []) (pos 0 ∷ pos 6 ∷ []) (no_parent ∷ 0 ∷ [])

-- node 1 with the parent B
abbrev astray : Cells
astray = cells (true ∷ true ∷ []) (pos 0 ∷ pos 5 ∷ []) (no_parent ∷ 1 ∷ [])

-- node 0 nearer than at 0, by B
abbrev around : Cells
around = cells (true ∷ true ∷ []) (pos 3 ∷ pos 5 ∷ []) (1 ∷ 0 ∷ [])

abbrev none_waits : ℕ → Bool
none_waits = marked []

abbrev zero_waits : ℕ → Bool
zero_waits = marked (true ∷ [])

abbrev one_waits : ℕ → Bool
one_waits = marked (false ∷ true ∷ [])

abbrev both_wait : ℕ → Bool
both_wait = marked (true ∷ true ∷ [])

-- node 1 ranks above node 0
abbrev ranks : ℕ → ℕ
ranks k = slice_index_or (0 ∷ 1 ∷ []) k 0

-- ---- rows with parents
-- A reaches node 1 at 5 from 0, and no node that is not known
is_reached : IsReached three_numbered row (pos 0) 0
is_reached = (refl, omega (arith, ints))

unknown_not_reached : IsReached three_numbered own (pos 0) 0 → ⊥
unknown_not_reached r = false_not_true r.0

is_relaxed : IsRelaxed three_numbered row 0
is_relaxed = (refl, omega (arith, ints))

far_not_relaxed : IsRelaxed three_numbered far 0 → ⊥
far_not_relaxed r = let l : pos 6 ≤ℤ (pos 0 +ℤ pos 5) = r.1 in omega (arith, ints)

is_tight : IsTight three_numbered row 1
is_tight = record { in_force = refl; ends = refl; tail_known = refl; value = refl }

astray_not_tight : IsTight three_numbered astray 1 → ⊥
astray_not_tight t = less_not_equal 0 1 (omega arith) t.ends

far_not_tight : IsTight three_numbered far 1 → ⊥
far_not_tight t = let e : pos 6 ≡ pos 0 +ℤ pos 5 = t.value in omega (arith, ints)

-- one step leads back from node 1, and two do not
leads_back : LeadsBack three_numbered 0 row 1 1
leads_back = ((λ e. less_not_equal 0 1 (omega arith) (sym e)), is_tight, refl)

long_not_back : LeadsBack three_numbered 0 row 2 1 → ⊥
long_not_back b = let rest : LeadsBack three_numbered 0 row 1 0 = b.2 in rest.0 refl

-- ---- the cells of a row under way, over the old row
-- newly known, or nearer
is_fresh : IsFresh nothing row 1
is_fresh = inl refl

nearer_fresh : IsFresh far row 1
nearer_fresh = inr (omega (arith, ints))

same_not_fresh : IsFresh row row 1 → ⊥
same_not_fresh f = elim f [ inl e ↦ false_not_true (sym e) | inr l ↦ (let m : pos 5 <ℤ pos 5 = l in omega (arith, ints)) ]

-- 5 less the value 2 is 3
is_final : IsFinal three_numbered 0 (at low) (pos 3) row 1
is_final = inl (omega (arith, ints))

-- above a top of 0, but 0, 5 and 6 attain it
attained_final : IsFinal three_numbered 0 (at low) (pos 0) row 1
attained_final = inr (at (pos 0 ∷ pos 5 ∷ pos 6 ∷ []), obeys, refl)
  where
    obeys : ObeysAll three_numbered (at (pos 0 ∷ pos 5 ∷ pos 6 ∷ []))
    obeys zero f = omega (arith, ints)
    obeys (suc zero) f = omega (arith, ints)
    obeys (suc (suc zero)) f = omega (arith, ints)
    obeys (suc (suc (suc j))) f = absurd (false_not_true f)

-- 6 less 2 is above the top, and no execution has node 1 at 6 behind node 0

far_not_final : IsFinal three_numbered 0 (at low) (pos 3) far 1 → ⊥
far_not_final f = elim f [
  | inl l ↦ (let m : (pos 6 -ℤ pos 2) ≤ℤ pos 3 = l in omega (arith, ints))
  | inr y ↦
      let o : Obeys y.0 most_five = y.1 0 refl in
      let e : y.0 1 -ℤ y.0 0 ≡ pos 6 = y.2 in
      omega (arith, ints)
]

-- node 0 was put, and node 1 was not
is_untouched : IsUntouched nothing own zero_waits 1
is_untouched = record { known = refl; value = refl; parent = refl; rests = refl }

put_not_untouched : IsUntouched nothing own zero_waits 0 → ⊥
put_not_untouched u = false_not_true (sym u.known)

-- node 0 gave node 1 its distance
is_given : IsGiven three_numbered 0 (at low) (pos 0) ranks nothing row one_waits 1
is_given = record { away = λ e. less_not_equal 0 1 (omega arith) (sym e); tight = is_tight; rests = refl; final = inl (omega (arith, ints)); ranked = λ f. (let l : 0 < 1 = omega arith in l) }

-- node 0 waits still
waiting_not_given : IsGiven three_numbered 0 (at low) (pos 0) ranks nothing row both_wait 1 → ⊥
waiting_not_given g = false_not_true (sym g.rests)

-- node 0 is of no lower rank
level_not_given : IsGiven three_numbered 0 (at low) (pos 0) (λ k. 0) nothing row one_waits 1 → ⊥
level_not_given g = let l : 0 < 0 = g.ranked (inl refl) in omega arith

is_touched : IsTouched three_numbered 0 (at low) (pos 0) ranks nothing row one_waits 1
is_touched = record { known = refl; fresh = is_fresh; given = inr is_given }

astray_not_touched : IsTouched three_numbered 0 (at low) (pos 0) ranks nothing astray one_waits 1 → ⊥
astray_not_touched t = elim t.given [ inl e ↦ less_not_equal 0 1 (omega arith) (sym e) | inr g ↦ astray_not_tight g.tight ]

-- ---- one pop, and one write
-- node 0 was popped, or waits still
is_same_cell : IsSameCell 0 own row zero_waits one_waits 0
is_same_cell = record { known = refl; value = refl; parent = refl; waiting = inl (refl, refl) }

waiting_not_same : IsSameCell 0 own own zero_waits zero_waits 0 → ⊥
waiting_not_same s = elim s.waiting [ inl w ↦ false_not_true (sym w.1) | inr w ↦ w.0 refl ]

is_nearer : IsNearer three_numbered 0 own row one_waits 1
is_nearer = record { in_force = refl; begins = refl; ends = refl; known = refl; waiting = refl; value = refl; nearer = inl refl }

-- B gives node 0 the distance 3, which is no nearer
around_not_nearer : IsNearer three_numbered 1 row around zero_waits 0 → ⊥
around_not_nearer n = elim n.nearer [ inl e ↦ false_not_true (sym e) | inr l ↦ (let m : pos 3 <ℤ pos 0 = l in omega (arith, ints)) ]

-- the only arc that leaves node 0 is A
is_spread : IsSpread three_numbered 0 (0 ∷ []) 1 own row zero_waits one_waits
is_spread = record { each = each; met = met }
  where
    each : (k : ℕ) → IsSameCell 0 own row zero_waits one_waits k ⊎ IsNearer three_numbered 0 own row one_waits k
    each zero = inl is_same_cell
    each (suc zero) = inr is_nearer
    each (suc (suc k)) = inl (record { known = refl; value = refl; parent = refl; waiting = inr ((λ e. less_not_equal 0 (suc (suc k)) (omega arith) (sym e)), refl) })

    met : (k : ℕ) → k < 1 → k < 1 → IsReached three_numbered row (pos 0) (slice_index_or (0 ∷ []) k 0)
    met zero l m = is_reached
    met (suc k) l m = absurd (omega arith)

-- A was not relaxed
idle_not_spread : IsSpread three_numbered 0 (0 ∷ []) 1 own own zero_waits none_waits → ⊥
idle_not_spread s = unknown_not_reached (s.met 0 (omega arith) (omega arith))

is_as_before : IsAsBefore own row none_waits one_waits 0
is_as_before = (refl, refl, refl, refl)

put_not_as_before : IsAsBefore own row none_waits one_waits 1 → ⊥
put_not_as_before b = false_not_true (sym b.0)

is_put : IsPut own row none_waits one_waits 1 (pos 5) 0
is_put = record { known_is = refl; value_is = refl; parent_is = refl; waiting = refl; others = others }
  where
    others : (k : ℕ) → k ≢ 1 → IsAsBefore own row none_waits one_waits k
    others zero n = is_as_before
    others (suc zero) n = absurd (n refl)
    others (suc (suc k)) n = (refl, refl, refl, refl)

-- the cell was put for node 1, and not for node 2
other_node_not_put : IsPut own row none_waits one_waits 2 (pos 5) 0 → ⊥
other_node_not_put p = false_not_true p.known_is

-- ---- candidates: A is new, and B and C were there
is_arc_candidate : IsArcCandidate three_numbered 0 own 1 (pos 5) 0
is_arc_candidate = record { own = (refl, refl, refl); in_force = refl; ends = refl; tail_known = refl; value_is = refl }

-- B begins at node 1, which is not known
unknown_not_candidate : IsArcCandidate three_numbered 0 own 0 (neg_ℤ (pos 2)) 1 → ⊥
unknown_not_candidate c = false_not_true c.tail_known

-- a distance one too far
six_not_candidate : IsArcCandidate three_numbered 0 own 1 (pos 6) 0 → ⊥
six_not_candidate c = let e : pos 6 ≡ pos 0 +ℤ pos 5 = c.value_is in omega (arith, ints)

is_candidate : IsCandidate three_numbered 0 own 1 (pos 5) 0
is_candidate = record { from = inr is_arc_candidate; met = met; bound = bound; chains = chains }
  where
    met : (j : ℕ)
        → marked (true ∷ true ∷ true ∷ []) j ≡ true → own.known (three_numbered.arc j).from ≡ true
        → IsRelaxed three_numbered own j ⊎ (((three_numbered.arc j).to ≡ 1) × (pos 5 ≤ℤ (own.value (three_numbered.arc j).from +ℤ (three_numbered.arc j).weight)))
    met zero f k = inr (refl, omega (arith, ints))
    met (suc zero) f k = absurd (false_not_true k)
    met (suc (suc zero)) f k = absurd (false_not_true k)
    met (suc (suc (suc j))) f k = absurd (false_not_true f)

    bound : (x : ℕ → ℤ) → ObeysAll three_numbered x → (k : ℕ) → own.known k ≡ true → (x k -ℤ x 0) ≤ℤ own.value k
    bound x o zero h = omega (arith, ints)
    bound x o (suc k) h = absurd (false_not_true h)

    chains : (k : ℕ) → own.known k ≡ true → (n : ℕ) × LeadsBack three_numbered 0 own n k
    chains zero h = (0, refl)
    chains (suc k) h = absurd (false_not_true h)

-- D would give node 2 the distance 2, but A leads from node 0 too, to a node that is not known
other_arc_not_candidate : IsCandidate four_numbered 0 own 2 (pos 2) 3 → ⊥
other_arc_not_candidate c = elim (c.met 0 refl refl) [ inl r ↦ false_not_true r.0 | inr m ↦ less_not_equal 1 2 (omega arith) m.0 ]

-- ---- bounds on the numbers
-- node 1 is of rank 1, and at most 5 with weights up to 5, but not up to 4
is_high : IsHigh 0 5 ranks row
is_high zero h = omega (arith, ints)
is_high (suc zero) h = (let l : pos 5 ≤ℤ pos 5 = omega (arith, ints) in l)
is_high (suc (suc k)) h = absurd (false_not_true h)

light_not_high : IsHigh 0 4 ranks row → ⊥
light_not_high h = let l : pos 5 ≤ℤ pos 4 = h 1 refl in omega (arith, ints)

-- node 0 has been popped, and node 1 waits
one_relaxing : IsRelaxing three_numbered 0 (at low) (pos 0) ranks nothing row one_waits
one_relaxing = record { own = (refl, refl, refl); each = each; above = above; below = below; met = met; bound = bound }
  where
    each : (k : ℕ) → IsUntouched nothing row one_waits k ⊎ IsTouched three_numbered 0 (at low) (pos 0) ranks nothing row one_waits k
    each zero = inr (record { known = refl; fresh = inl refl; given = inl refl })
    each (suc zero) = inr is_touched
    each (suc (suc k)) = inl (record { known = refl; value = refl; parent = refl; rests = refl })

    above : (k : ℕ) → one_waits k ≡ true → pos 0 ≤ℤ reduced (at low) row k
    above zero w = absurd (false_not_true w)
    above (suc zero) w = omega (arith, ints)
    above (suc (suc k)) w = absurd (false_not_true w)

    below : (k : ℕ) → one_waits k ≡ false → row.known k ≡ true → IsFresh nothing row k → reduced (at low) row k ≤ℤ pos 0
    below zero w h f = omega (arith, ints)
    below (suc zero) w h f = absurd (false_not_true (sym w))
    below (suc (suc k)) w h f = absurd (false_not_true h)

    met : (j : ℕ)
        → marked (true ∷ true ∷ true ∷ []) j ≡ true → row.known (three_numbered.arc j).from ≡ true → one_waits (three_numbered.arc j).from ≡ false
        → IsRelaxed three_numbered row j
    met zero f h w = is_relaxed
    met (suc zero) f h w = absurd (false_not_true (sym w))
    met (suc (suc zero)) f h w = absurd (false_not_true h)
    met (suc (suc (suc j))) f h w = absurd (false_not_true f)

    bound : (x : ℕ → ℤ) → ObeysAll three_numbered x → (k : ℕ) → row.known k ≡ true → (x k -ℤ x 0) ≤ℤ row.value k
    bound x o zero h = omega (arith, ints)
    bound x o (suc zero) h = let a : Obeys x most_five = o 0 refl in omega (arith, ints)
    bound x o (suc (suc k)) h = absurd (false_not_true h)

is_under_way : IsUnderWay 3 three_numbered 0 (at low) 0 5 nothing row one_waits
is_under_way = record { top = pos 0; rank = ranks; relaxing = one_relaxing; ranks = few; high = is_high; past = past }
  where
    few : (k : ℕ) → ranks k ≤ 1
    few zero = omega arith
    few (suc zero) = omega arith
    few (suc (suc k)) = omega arith

    past : (k : ℕ) → 3 ≤ k → row.known k ≡ false
    past zero l = absurd (omega arith)
    past (suc zero) l = absurd (omega arith)
    past (suc (suc k)) l = refl

-- one node is done, so the rank of node 1 is at most 1, and weights up to 4 do not take it to 5
light_not_under_way : IsUnderWay 3 three_numbered 0 (at low) 0 4 nothing row one_waits → ⊥
light_not_under_way u =
    let few : u.rank 1 ≤ 1 = u.ranks 1 in
    let high : pos 5 ≤ℤ pos (0 + u.rank 1 * 4) = u.high 1 refl in
    omega (arith, ints)
