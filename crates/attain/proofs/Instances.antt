-- Two nodes worked out: one arc between them has an earliest execution, and a second one closes a negative cycle.
use Rattle.std.proofs.Common.{◌≡◌, ◌<◌, [], ◌∷◌, Some, None, refl, arith}
use Rattle.std.specs.Prelude.{pos, neg_ℤ, ◌+ℤ◌, ◌≤ℤ◌, Contains}
use Rattle.std.proofs.lemmas.Int.{ints}
use Rattle.std.proofs.lemmas.List.Elements.{All-nil, All-cons, All-head}
use Rattle.problem_model.specs.Executions.{Arc, values_by}
use Rattle.problem_model.specs.Earliest.{IsEarliest}
use Rattle.problem_model.specs.Paths.{IsContradiction}
use Rattle.attain.proofs.Tables.{IsAtMost, Table, IsClosed, own_table, own_closed, IsThrough}
use Rattle.attain.proofs.Closing.{IsSoundArc, with_arc, next_closed}
use Rattle.attain.proofs.Values.{earliest_by, earliest_is}

-- node 1 comes at least 2 after node 0
abbrev apart : Arc
apart = record { from = 1; to = 0; weight = neg_ℤ (pos 2) }

-- and at most 1 after it
abbrev near : Arc
near = record { from = 0; to = 1; weight = pos 1 }

-- ---- the first arc alone
abbrev one_arc : Table
one_arc = with_arc own_table apart

-- the arc gives the only sum, and none leads back
along_it : one_arc 1 0 ≡ Some (neg_ℤ (pos 2))
along_it = refl

no_way_back : one_arc 0 1 ≡ None
no_way_back = refl

-- with no way back it closes no cycle
apart_sound : IsSoundArc own_table apart
apart_sound s is = absurd is

-- so the table is closed
one_arc_closed : IsClosed (apart ∷ []) one_arc
one_arc_closed = next_closed [] own_table own_closed apart apart_sound

-- without the arc the table is that of no arc, and not closed
own_not_closed : IsClosed (apart ∷ []) own_table → ⊥
own_not_closed closed = All-head (λ a. IsAtMost (own_table a.from a.to) a.weight) apart [] closed.along

-- node 0 comes at 0, and node 1 at 2
values_are : values_by (earliest_by 2 one_arc) 2 ≡ pos 0 ∷ pos 2 ∷ []
values_are = refl

-- and that is the earliest execution
values_earliest : IsEarliest 2 (apart ∷ []) (values_by (earliest_by 2 one_arc) 2)
values_earliest = earliest_is 2 (apart ∷ []) one_arc (All-cons (λ a. (a.from < 2) × (a.to < 2)) apart [] (omega arith, omega arith) (All-nil _)) one_arc_closed

-- ---- the second arc
-- the way back by the first one is too short for it
near_not_sound : IsSoundArc one_arc near → ⊥
near_not_sound sound = let low : pos 0 ≤ℤ (pos 1 +ℤ neg_ℤ (pos 2)) = sound (neg_ℤ (pos 2)) (omega (arith, ints)) in omega (arith, ints)

-- so the two arcs are a contradiction
both_contradict : IsContradiction (near ∷ apart ∷ []) (near ∷ apart ∷ [])
both_contradict = record {
  closed = (
    0,
    record {
      within = All-cons (Contains (near ∷ apart ∷ [])) near (apart ∷ []) (0, omega arith, refl) (All-cons (Contains (near ∷ apart ∷ [])) apart [] (1, omega arith, refl) (All-nil _));
      joined = (refl, (refl, refl));
    },
  );
  negative = omega (arith, ints);
}

-- ---- ways through an arc
-- from node 1 through the first arc to node 0
there_and_on : IsThrough (one_arc 1 1) (one_arc 0 0) (neg_ℤ (pos 2)) (neg_ℤ (pos 1))
there_and_on = record { before = pos 0; behind = pos 0; first = omega (arith, ints); last = omega (arith, ints); sum = omega (arith, ints) }

-- no way through is less than its parts, nor one where a part is not there
not_less : IsThrough (one_arc 1 1) (one_arc 0 0) (neg_ℤ (pos 2)) (neg_ℤ (pos 3)) → ⊥
not_less t =
    let first : pos 0 ≤ℤ t.before = t.first in
    let last : pos 0 ≤ℤ t.behind = t.last in
    let sum : ((t.before +ℤ neg_ℤ (pos 2)) +ℤ t.behind) ≤ℤ neg_ℤ (pos 3) = t.sum in
    omega (arith, ints)

not_there : IsThrough (one_arc 0 1) (one_arc 0 0) (neg_ℤ (pos 2)) (pos 5) → ⊥
not_there t = t.first
