-- Small problems worked out: their earliest executions and contradictions.
use Rattle.std.proofs.Common.{◌≡◌, ◌*◌, ℕ, zero, suc, List, [], ◌∷◌, Some, None, refl, sym, ◌∙◌, ap, subst, arith}
use Rattle.std.specs.Prelude.{pos, neg_ℤ, ◌≤ℤ◌, ◌<ℤ◌, codes}
use Rattle.std.proofs.lemmas.Int.{ints}
use Rattle.problem_model.specs.declared.items.Event.{Event}
use Rattle.problem_model.specs.declared.items.Message.{Message}
use Rattle.problem_model.specs.declared.items.Node.TheVariants as nodes
use Rattle.problem_model.specs.declared.items.Bound.TheVariants as bounds
use Rattle.problem_model.specs.declared.items.Bound.TheVariants.{SpanMost, SpanLeast, Late, Early, DelayMost, DelayLeast}
use Rattle.problem_model.specs.Problem.{ProblemLists}
use Rattle.problem_model.specs.Bounds.{Constraint, Declares, IsReading, IsExecution, Obeys, Times, early_of, late_of}
use Rattle.problem_model.specs.ProblemArcs.{IsArcOf}
use Rattle.problem_model.specs.Solutions.{IsNodeOf, IsFromZero, IsEarliestExecution, WeighedBound, Leads, weight_of, IsContradictionOf, IsBoundArc}
use Rattle.problem_model.proofs.ProblemInstances.{one, one_clock, one_event, one_reading, late_arc, early_arc, late_bound, late_arc_of, not_arc, late_is}

-- ---- one event on one clock: all at 0 is the earliest execution
abbrev all_zero : Times
all_zero n = pos 0

abbrev all_one : Times
all_one n = pos 1

event_node : IsNodeOf one (nodes.Event 0)
event_node = omega arith

not_node : IsNodeOf one (nodes.Event 1) → ⊥
not_node inside = omega (arith, inside)

stamp_zero : (clock stamp : ℕ) → IsReading one clock stamp → stamp ≡ 0
stamp_zero clock stamp (e, (zero, inside, is), on, shows) = sym shows ∙ sym (ap (λ (v : Event). v.stamp) is)
stamp_zero clock stamp (e, (suc k, inside, is), on, shows) = absurd (omega (arith, inside))

from_zero : (n : ℕ) → pos 0 ≤ℤ pos n
from_zero n = omega (arith, ints)

obeys_at_zero : (a : Constraint) (n : ℕ) → a.weight ≡ pos n → Obeys all_zero a
obeys_at_zero a n weighs = let low : pos 0 ≤ℤ pos n = from_zero n in omega (arith, ints, weighs)

zero_executes : IsExecution one all_zero
zero_executes (SpanMost clock s t) a (c, at, from, to, rises, is) =
    let low : s ≡ 0 = stamp_zero clock s from in
    let high : t ≡ 0 = stamp_zero clock t to in
    absurd (omega (arith, rises, low, high))
zero_executes (SpanLeast clock s t) a (c, at, from, to, rises, is) =
    let low : s ≡ 0 = stamp_zero clock s from in
    let high : t ≡ 0 = stamp_zero clock t to in
    absurd (omega (arith, rises, low, high))
zero_executes (Late e) a (v, c, at, on, is) = obeys_at_zero a (late_of c v * 1000000000) (ap (λ (k : Constraint). k.weight) is)
zero_executes (Early e) a (v, c, at, on, is) = obeys_at_zero a (early_of c v * 1000000000) (ap (λ (k : Constraint). k.weight) is)
zero_executes (bounds.Follow c s d' t) a d = let inside = d.1.1 in absurd (omega (arith, inside))
zero_executes (DelayMost send receive) a d = let inside = d.2.1 in absurd (omega (arith, inside))
zero_executes (DelayLeast send receive) a d = let inside = d.1.1 in absurd (omega (arith, inside))

earliest : IsEarliestExecution one all_zero
earliest = record {
  execution = zero_executes;
  from_zero = λ n inside. from_zero 0;
  least = λ y execution low n inside. low n inside;
}

-- all at 1 is an execution too, and not the earliest
not_earliest : IsEarliestExecution one all_one → ⊥
not_earliest e =
    let low : pos 1 ≤ℤ pos 0 = e.least all_zero zero_executes (λ n inside. from_zero 0) (nodes.Event 0) event_node in
    absurd (omega (arith, ints, low))

not_from_zero : IsFromZero one (λ n. neg_ℤ (pos 1)) → ⊥
not_from_zero low = let first : pos 0 ≤ℤ neg_ℤ (pos 1) = low (nodes.Event 0) event_node in absurd (omega (arith, ints, first))

-- ---- a message of at least 2 ns and at most 1 ns: the two bounds are a closed chain of sum -1 ns
abbrev crossed : ProblemLists
crossed = record {
  clocks = one_clock ∷ [];
  follows = [];
  events = one_event ∷ (let q : Event = record { name = codes "q"; clock = 0; stamp = 0; bounds = None } in q) ∷ [];
  messages = (let m : Message = record { send = 0; receive = 1; least = 2; most = Some 1 } in m) ∷ [];
}

abbrev message : Message
message = record { send = 0; receive = 1; least = 2; most = Some 1 }

abbrev most_bound : Constraint
most_bound = record { from = nodes.Event 0; to = nodes.Event 1; weight = pos 1000000000 }

abbrev least_bound : Constraint
least_bound = record { from = nodes.Event 1; to = nodes.Event 0; weight = neg_ℤ (pos 2000000000) }

abbrev both : List WeighedBound
both = (DelayMost 0 1, pos 1000000000) ∷ (DelayLeast 0 1, neg_ℤ (pos 2000000000)) ∷ []

most_declared : Declares crossed (DelayMost 0 1) most_bound
most_declared = (message, 1, (0, omega arith, refl), refl, refl, refl, refl)

least_declared : Declares crossed (DelayLeast 0 1) least_bound
least_declared = (message, (0, omega arith, refl), refl, refl, refl)

there_and_back : Leads crossed (nodes.Event 0) both (nodes.Event 0)
there_and_back = (most_bound, most_declared, refl, refl, (least_bound, least_declared, refl, refl, refl))

contradiction : IsContradictionOf crossed both
contradiction = record { closed = (nodes.Event 0, there_and_back); negative = omega (arith, ints) }

-- the first alone does not lead back, and the two bounds of a stamp lead back with a sum that is not negative
not_back : Leads crossed (nodes.Event 0) ((DelayMost 0 1, pos 1000000000) ∷ []) (nodes.Event 0) → ⊥
not_back (c, (m, most, inside, sent, received, limit, is), weighs, begins, ends) =
    let to : nodes.Event 1 ≡ nodes.Event 0 = sym (ap (λ (k : Constraint). k.to) is) ∙ ends in
    absurd cc

not_negative : IsContradictionOf one ((Late 0, pos 7000000000) ∷ (Early 0, pos 0) ∷ []) → ⊥
not_negative c = let low : weight_of ((Late 0, pos 7000000000) ∷ (Early 0, pos 0) ∷ []) <ℤ pos 0 = c.negative in absurd (omega (arith, ints, low))

-- ---- an arc is a bound by its ends and its weight
late_is_bound : IsBoundArc one one_reading (Late 0, late_arc)
late_is_bound = (late_bound, (one_event, one_clock, refl, refl, refl), late_arc_of)

not_bound : IsBoundArc one one_reading (Late 0, early_arc) → ⊥
not_bound (c, declares, arc) = not_arc (subst (λ (k : Constraint). IsArcOf one one_reading k early_arc) (sym (late_is c declares)) arc)
