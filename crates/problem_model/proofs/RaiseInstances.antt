-- Insertions into the three nodes: each relation on raises holds of one thing and fails of another.
use Rattle.std.proofs.Common.{ℕ, zero, suc, ◌<◌, ◌≤◌, List, [], ◌∷◌, ◌≡◌, refl, ap, sym, arith, inl, inr, ◌⊎◌}
use Rattle.std.specs.Prelude.{ℤ, pos, neg_ℤ, ◌+ℤ◌, ◌-ℤ◌, ◌≤ℤ◌, ◌<ℤ◌, ◌≢◌, slice_index_or}
use Rattle.std.proofs.lemmas.Int.{ints}
use Rattle.problem_model.specs.Executions.{Arc, at}
use Rattle.problem_model.specs.Insertions.{Raises, IsMet, IsLifted, IsKeptRaise, IsAsked, ChainGoesOn, FollowsParents, HasChain, HaveChains, IsAsking, IsRaisedTo}
use Rattle.problem_model.proofs.Instances.{most_five, least_two, least_one, most_two, low, less_not_equal}
use Rattle.problem_model.proofs.ArcInstances.{three_numbered, four_numbered}

-- values, raises and parents by node
abbrev raises : List ℤ → List ℤ → List ℕ → Raises
raises values waiting parents = record { value = at values; raise = at waiting; parent = λ k. slice_index_or parents k 0 }

-- A and B alone leave node 2 at 0, and C asks it to rise by 3
abbrev earlier : List ℤ
earlier = pos 0 ∷ pos 2 ∷ pos 0 ∷ []

abbrev asked : Raises
asked = raises earlier (pos 0 ∷ pos 0 ∷ pos 3 ∷ []) (0 ∷ 0 ∷ 2 ∷ [])

abbrev given : Raises
given = raises low [] (0 ∷ 0 ∷ 2 ∷ [])

-- D asks node 0 to rise by 1
abbrev zero_asked : Raises
zero_asked = raises low (pos 1 ∷ []) (3 ∷ [])

-- node 0 has risen
abbrev zero_given : Raises
zero_given = raises (pos 1 ∷ pos 2 ∷ pos 3 ∷ []) [] (3 ∷ [])

-- and B asks node 1
abbrev one_asked : Raises
one_asked = raises (pos 1 ∷ pos 2 ∷ pos 3 ∷ []) (pos 0 ∷ pos 1 ∷ []) (3 ∷ 1 ∷ [])

-- node 1 has risen, and C asks node 2
abbrev two_asked : Raises
two_asked = raises (pos 1 ∷ pos 3 ∷ pos 3 ∷ []) (pos 0 ∷ pos 0 ∷ pos 1 ∷ []) (3 ∷ 1 ∷ 2 ∷ [])

-- node 1 waits before node 0 has risen
abbrev too_soon : Raises
too_soon = raises low (pos 1 ∷ pos 1 ∷ []) (3 ∷ 1 ∷ [])

-- with its raise of 3 node 2 is as late as C asks, and with 2 it is not
is_met : IsMet three_numbered asked 2
is_met = omega (arith, ints)

two_not_met : IsMet three_numbered (raises earlier (pos 0 ∷ pos 0 ∷ pos 2 ∷ []) (0 ∷ 0 ∷ 2 ∷ [])) 2 → ⊥
two_not_met m = let l : (pos 2 -ℤ neg_ℤ (pos 1)) ≤ℤ (pos 0 +ℤ pos 2) = m in omega (arith, ints)

-- it has got the raise, or waits for it still
is_lifted : IsLifted (pos 3) (at earlier) given 2
is_lifted = record { rests = refl; risen = omega (arith, ints); enough = omega (arith, ints) }

waiting_not_lifted : IsLifted (pos 3) (at earlier) asked 2 → ⊥
waiting_not_lifted l = let e : pos 3 ≡ pos 0 = l.rests in omega (arith, ints)

-- it has got 2 of 3
less_not_lifted : IsLifted (pos 3) (at earlier) (raises (pos 0 ∷ pos 2 ∷ pos 2 ∷ []) [] (0 ∷ 0 ∷ 2 ∷ [])) 2 → ⊥
less_not_lifted l = let m : (pos 0 +ℤ pos 3) ≤ℤ pos 2 = l.enough in omega (arith, ints)

is_kept_raise : IsKeptRaise 2 asked given 2
is_kept_raise = record { raise = inl (refl, refl); parent = refl }

-- node 2 was popped, and its raise not taken
untaken_not_kept : IsKeptRaise 2 asked asked 2 → ⊥
untaken_not_kept k = elim k.raise [ inl r ↦ (let e : pos 3 ≡ pos 0 = r.1 in omega (arith, ints)) | inr r ↦ r.0 refl ]

-- node 0 has risen by 1, so B asks node 1 for 1
is_asked : IsAsked four_numbered 0 zero_asked one_asked 1
is_asked = record { in_force = refl; begins = refl; ends = refl; equal = refl; positive = omega (arith, ints); greater = inr (omega (arith, ints)) }

-- a raise one too high
two_not_asked : IsAsked four_numbered 0 zero_asked (raises (pos 1 ∷ pos 2 ∷ pos 3 ∷ []) (pos 0 ∷ pos 2 ∷ []) (3 ∷ 1 ∷ [])) 1 → ⊥
two_not_asked a = let e : pos 2 +ℤ pos 2 ≡ pos 1 -ℤ neg_ℤ (pos 2) = a.equal in omega (arith, ints)

-- the parent A, which begins at node 0
other_arc_not_asked : IsAsked four_numbered 0 zero_asked (raises (pos 1 ∷ pos 2 ∷ pos 3 ∷ []) (pos 0 ∷ pos 1 ∷ []) (3 ∷ 0 ∷ [])) 1 → ⊥
other_arc_not_asked a = less_not_equal 0 1 (omega arith) a.begins

-- a chain goes on at node 0, which has risen, and not at node 1
goes_on : ChainGoesOn (at low) one_asked 0 (most_two ∷ [])
goes_on = omega (arith, ints)

resting_not_on : ChainGoesOn (at low) one_asked 1 (least_two ∷ most_two ∷ []) → ⊥
resting_not_on g = let l : pos 2 <ℤ pos 2 = g in omega (arith, ints)

-- B and D lead from node 1 to the head of D
follows : FollowsParents four_numbered (at low) one_asked 2 1 (least_two ∷ most_two ∷ [])
follows = (refl, refl, refl, omega (arith, ints), (refl, refl, refl, tt, refl))

-- C, B and D lead from node 2 back to it, and not round once more, since node 2 has not risen
long_not_follows : FollowsParents four_numbered (at low) two_asked 2 2 (least_one ∷ least_two ∷ most_two ∷ least_one ∷ least_two ∷ most_two ∷ []) → ⊥
long_not_follows f =
    let from_one : FollowsParents four_numbered (at low) two_asked 2 1 (least_two ∷ most_two ∷ least_one ∷ least_two ∷ most_two ∷ []) = f.4 in
    let from_zero : FollowsParents four_numbered (at low) two_asked 2 0 (most_two ∷ least_one ∷ least_two ∷ most_two ∷ []) = from_one.4 in
    let l : pos 3 <ℤ pos 3 = from_zero.3 in
    omega (arith, ints)

-- A is not the parent of node 1
other_not_follows : FollowsParents four_numbered (at low) one_asked 2 1 (most_five ∷ []) → ⊥
other_not_follows f = less_not_equal 0 1 (omega arith) f.2

-- C, B and D sum to -1, as node 2 would rise by 1, and two nodes have risen
has_chain : HasChain 3 four_numbered (at low) two_asked 2 2
has_chain = record {
  first = least_one;
  rest = least_two ∷ most_two ∷ [];
  follows = (refl, refl, refl, omega (arith, ints), (refl, refl, refl, omega (arith, ints), (refl, refl, refl, tt, refl)));
  sum = refl;
  short = (let l : 2 ≤ 2 = omega arith in l);
}

-- B leads to node 0, and no chain goes on there
unchained : (first : Arc) (rest : List Arc) → FollowsParents four_numbered (at low) too_soon 2 1 (first ∷ rest) → ⊥
unchained first [] f =
    let e : least_two ≡ first = f.1 in
    let head : 0 ≡ first.to = ap (λ a. a.to) e in
    let end : first.to ≡ 2 = f.4 in
    omega arith
unchained first (a ∷ steps) f = let l : at low first.to <ℤ at low first.to = f.3 in omega (arith, ints)

soon_not_chained : HasChain 3 four_numbered (at low) too_soon 2 1 → ⊥
soon_not_chained c = unchained c.first c.rest c.follows

-- D is the chain of node 0, and no other node waits or has risen
have_chains : HaveChains 3 four_numbered (at low) zero_asked 2
have_chains zero w = record { first = most_two; rest = []; follows = (refl, refl, refl, tt, refl); sum = refl; short = omega arith }
have_chains (suc k) w = absurd (elim w [ inl l ↦ (let m : pos 0 <ℤ pos 0 = l in omega (arith, ints)) | inr l ↦ (let m : at low (suc k) <ℤ at low (suc k) = l in omega (arith, ints)) ])

soon_not_chains : HaveChains 3 four_numbered (at low) too_soon 2 → ⊥
soon_not_chains h = soon_not_chained (h 1 (inl (omega (arith, ints))))

-- node 0 has its raise, and B is met
is_asking : IsAsking four_numbered 0 (1 ∷ []) 1 zero_asked one_asked
is_asking = record { lifted = refl; others = others; each = each; met = met }
  where
    others : (k : ℕ) → k ≢ 0 → at (pos 1 ∷ pos 2 ∷ pos 3 ∷ []) k ≡ at low k
    others zero n = absurd (n refl)
    others (suc k) n = refl

    each : (k : ℕ) → IsKeptRaise 0 zero_asked one_asked k ⊎ IsAsked four_numbered 0 zero_asked one_asked k
    each zero = inl (record { raise = inl (refl, refl); parent = refl })
    each (suc zero) = inr is_asked
    each (suc (suc k)) = inl (record { raise = inr ((λ e. less_not_equal 0 (suc (suc k)) (omega arith) (sym e)), refl); parent = refl })

    met : (m : ℕ) → m < 1 → m < 1 → IsMet four_numbered one_asked (slice_index_or (1 ∷ []) m 0)
    met zero l n = omega (arith, ints)
    met (suc m) l n = absurd (omega arith)

-- B has not been met yet
unmet_not_asking : IsAsking four_numbered 0 (1 ∷ []) 1 zero_asked zero_given → ⊥
unmet_not_asking a = let l : (pos 1 -ℤ neg_ℤ (pos 2)) ≤ℤ (pos 2 +ℤ pos 0) = a.met 0 (omega arith) (omega arith) in omega (arith, ints)

-- it is node 1 that got the raise and the parent B, and not node 2
is_raised_to : IsRaisedTo zero_given one_asked 1 (pos 1) 1
is_raised_to = record { value = λ k. refl; raise = refl; parent_is = refl; others = others }
  where
    others : (k : ℕ) → k ≢ 1 → (one_asked.raise k ≡ zero_given.raise k) × (one_asked.parent k ≡ zero_given.parent k)
    others zero n = (refl, refl)
    others (suc zero) n = absurd (n refl)
    others (suc (suc k)) n = (refl, refl)

other_node_not_raised : IsRaisedTo zero_given one_asked 2 (pos 1) 1 → ⊥
other_node_not_raised r = let e : pos 0 ≡ pos 1 = r.raise in omega (arith, ints)
