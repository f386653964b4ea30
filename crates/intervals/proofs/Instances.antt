-- Each definition holds of one thing and fails of another.
use Rattle.std.proofs.Common.{◌≡◌, ◌^◌, zero, suc, refl, ap, arith}
use Rattle.std.specs.Prelude.{ℤ, pos, neg_ℤ, ◌+ℤ◌, ◌≤ℤ◌, ◌<ℤ◌}
use Rattle.std.proofs.lemmas.Int.{ints}
use Rattle.problem_model.specs.declared.items.Node.TheVariants as nodes
use Rattle.problem_model.specs.declared.items.Bound.{Bound}
use Rattle.problem_model.specs.declared.items.Bound.TheVariants.{SpanMost, SpanLeast, Late, Early, Follow, DelayMost, DelayLeast}
use Rattle.problem_model.specs.Problem.{empty_problem}
use Rattle.problem_model.specs.Bounds.{Constraint, Declares, Times, IsExecution}
use Rattle.row_pool.specs.declared.cell.Reach.TheVariants as reaches
use Rattle.row_pool.specs.declared.cell.Pair.{Pair}
use Rattle.intervals.specs.declared.ends.End.TheVariants.{At, Unbounded}
use Rattle.intervals.specs.declared.ends.Ends.{Ends}
use Rattle.intervals.specs.declared.order.Order.TheVariants.{Before, After, Same, Undecided}
use Rattle.intervals.specs.Ends.{IsSmall, FitsPair, ends_of, shifted}
use Rattle.intervals.specs.Orders.{IsInterval, IsOrder}
use Rattle.intervals.specs.Executions.{IsPairOf, time_difference, time_by, IsGreatestEnd, IsLeastEnd, AreEndsOf, IsOrderOf}
use Rattle.intervals.proofs.Times.{ends_are}
use Rattle.intervals.proofs.NodeOrders.{orders}

-- ---- greatest differences of 9 and -4: the interval from 4 to 9
abbrev pub nine_four : Pair
nine_four = record { up = reaches.At (pos 9); down = reaches.At (neg_ℤ (pos 4)) }

ends_of_nine_four : ends_of nine_four ≡ record { least = At (pos 4); greatest = At (pos 9) }
ends_of_nine_four = refl

not_exchanged : ends_of nine_four ≡ record { least = At (pos 9); greatest = At (pos 4) } → ⊥
not_exchanged is = let above : At (pos 9) ≡ At (pos 4) = ap (λ (e : Ends). e.greatest) is in absurd cc

fits : FitsPair nine_four
fits = ((omega (arith, ints), omega (arith, ints)), (omega (arith, ints), omega (arith, ints)))

not_small : IsSmall (pos (2 ^ 120)) → ⊥
not_small small = let l : pos (2 ^ 120) <ℤ pos (2 ^ 120) = small.1 in absurd (omega (arith, ints, l))

-- 3 units later it is from 7 to 12
three_later : shifted (pos 3) (ends_of nine_four) ≡ record { least = At (pos 7); greatest = At (pos 12) }
three_later = refl

before : IsOrder (ends_of nine_four) Before
before = omega (arith, ints)

not_after : IsOrder (ends_of nine_four) After → ⊥
not_after below = let b : pos 9 <ℤ pos 0 = below in absurd (omega (arith, ints, b))

not_undecided : IsOrder (ends_of nine_four) Undecided → ⊥
not_undecided u = u.0 before

in_order : IsInterval (ends_of nine_four)
in_order = omega (arith, ints)

-- with 9 and -10 the ends cross
crossed : IsInterval (ends_of (record { up = reaches.At (pos 9); down = reaches.At (neg_ℤ (pos 10)) })) → ⊥
crossed le = let l : pos 10 ≤ℤ pos 9 = le in absurd (omega (arith, ints, l))

-- ---- the problem that says nothing decides no order of two events, and an event comes when it comes
nothing_declared : (b : Bound) (a : Constraint) → Declares empty_problem b a → ⊥
nothing_declared (SpanMost clock s t) a d = let at = d.1 in absurd cc
nothing_declared (SpanLeast clock s t) a d = let at = d.1 in absurd cc
nothing_declared (Late e) a d = let at = d.2 in absurd cc
nothing_declared (Early e) a d = let at = d.2 in absurd cc
nothing_declared (Follow earlier s later t) a d = absurd (omega (arith, d.1.1))
nothing_declared (DelayMost send receive) a d = absurd (omega (arith, d.2.1))
nothing_declared (DelayLeast send receive) a d = absurd (omega (arith, d.1.1))

all_execute : (x : Times) → IsExecution empty_problem x
all_execute x b a declares = absurd (nothing_declared b a declares)

-- event 0 at the time g, event 1 at the time h
at_two : ℤ → ℤ → Times
at_two g h (nodes.Event zero) = g
at_two g h (nodes.Event (suc k)) = h
at_two g h (nodes.Reading c s) = pos 0

abbrev pub free : Pair
free = record { up = reaches.Never; down = reaches.Never }

free_pair : IsPairOf empty_problem (nodes.Event 0) (nodes.Event 1) free
unfolding at_two
free_pair = record {
  there = λ h. (at_two (pos 0) (h +ℤ pos 1), all_execute (at_two (pos 0) (h +ℤ pos 1)), omega (arith, ints));
  back = λ h. (at_two (h +ℤ pos 1) (pos 0), all_execute (at_two (h +ℤ pos 1) (pos 0)), omega (arith, ints));
}

free_ends : AreEndsOf empty_problem (time_difference (nodes.Event 0) (nodes.Event 1)) (record { least = Unbounded; greatest = Unbounded })
free_ends = ends_are empty_problem (nodes.Event 0) (nodes.Event 1) free free_pair

free_undecided : IsOrderOf empty_problem (nodes.Event 0) (nodes.Event 1) Undecided
free_undecided = (orders empty_problem (nodes.Event 0) (nodes.Event 1) free free_pair Undecided).0 ((λ no. no), (λ no. no), (λ no. no.0))

free_not_same : IsOrderOf empty_problem (nodes.Event 0) (nodes.Event 1) Same → ⊥
free_not_same s = free_undecided.2 s

abbrev pub none : Pair
none = record { up = reaches.At (pos 0); down = reaches.At (pos 0) }

own_pair : IsPairOf empty_problem (nodes.Event 0) (nodes.Event 0) none
own_pair = record {
  there = record { attained = ((λ n. pos 0), all_execute (λ n. pos 0), refl); most = λ x e. omega (arith, ints) };
  back = record { attained = ((λ n. pos 0), all_execute (λ n. pos 0), refl); most = λ x e. omega (arith, ints) };
}

own_not_free : IsPairOf empty_problem (nodes.Event 0) (nodes.Event 0) free → ⊥
own_not_free is = let found = (is.there (pos 0)).2 in absurd (omega (arith, ints, found))

own_same : IsOrderOf empty_problem (nodes.Event 0) (nodes.Event 0) Same
own_same = λ x e. refl

own_not_before : IsOrderOf empty_problem (nodes.Event 0) (nodes.Event 0) Before → ⊥
own_not_before b = let l : pos 0 <ℤ pos 0 = b (λ n. pos 0) (all_execute (λ n. pos 0)) in absurd (omega (arith, ints, l))

own_ends : AreEndsOf empty_problem (time_difference (nodes.Event 0) (nodes.Event 0)) (record { least = At (pos 0); greatest = At (pos 0) })
own_ends = ends_are empty_problem (nodes.Event 0) (nodes.Event 0) none own_pair

own_not_unbounded : IsGreatestEnd empty_problem (time_difference (nodes.Event 0) (nodes.Event 0)) Unbounded → ⊥
own_not_unbounded past = let found = (past (pos 0)).2 in absurd (omega (arith, ints, found))

own_not_below : IsLeastEnd empty_problem (time_difference (nodes.Event 0) (nodes.Event 0)) (At (neg_ℤ (pos 1))) → ⊥
own_not_below is = let found = is.attained.2 in absurd (omega (arith, ints, found))

-- an event with its reading of 3 ns
time_by_three : time_by 0 3 (nodes.Event 0) (λ n. pos 0) ≡ pos 3000000000
time_by_three = refl
