-- Small problems worked out: each definition on problems holds of one thing and fails of another.
use Rattle.std.proofs.Common.{◌≡◌, ◌<◌, ◌*◌, ℕ, zero, suc, List, [], ◌∷◌, slice_get, Some, None, refl, sym, ◌∙◌, ap, subst, arith}
use Rattle.std.specs.Prelude.{ℤ, pos, ◌+ℤ◌, Contains, codes}
use Rattle.std.proofs.lemmas.Int.{ints}
use Rattle.std.proofs.lemmas.List.Elements.{All-from_recursion}
use Rattle.problem_model.specs.declared.items.Clock.{Clock}
use Rattle.problem_model.specs.declared.items.Event.{Event}
use Rattle.problem_model.specs.declared.items.Node.TheVariants as nodes
use Rattle.problem_model.specs.declared.items.Bound.{Bound}
use Rattle.problem_model.specs.declared.items.Bound.TheVariants as bounds
use Rattle.problem_model.specs.declared.items.Bound.TheVariants.{SpanMost, SpanLeast, Late, Early, DelayMost, DelayLeast}
use Rattle.problem_model.specs.Problem.{ProblemLists, empty_problem}
use Rattle.problem_model.specs.Bounds.{Constraint, Declares, Times, IsExecution, early_of, late_of}
use Rattle.problem_model.specs.Nodes.{Reading}
use Rattle.problem_model.specs.Executions.{Arc}
use Rattle.problem_model.specs.ProblemArcs.{IsNodeAt, IsArcOf, StandsFor, IsGreatestOf, IsUnboundedOf}

-- one event, at most 7 ns behind the reading of its stamp and not before it
abbrev pub one_clock : Clock
one_clock = record { name = codes "c"; rate = record { short = 0; long = 0 }; early = 0; late = 7 }

abbrev pub one_event : Event
one_event = record { name = codes "p"; clock = 0; stamp = 0; bounds = None }

abbrev pub one : ProblemLists
one = record { clocks = one_clock ∷ []; follows = []; events = one_event ∷ []; messages = [] }

abbrev pub one_reading : List Reading
one_reading = (0, 0) ∷ []

abbrev pub late_arc : Arc
late_arc = record { from = 1; to = 0; weight = pos 7000000000 }

abbrev pub early_arc : Arc
early_arc = record { from = 0; to = 1; weight = pos 0 }

abbrev pub late_bound : Constraint
late_bound = record { from = nodes.Reading 0 0; to = nodes.Event 0; weight = pos 7000000000 }

abbrev early_bound : Constraint
early_bound = record { from = nodes.Event 0; to = nodes.Reading 0 0; weight = pos 0 }

some_same : {X : Type 0} (a b : X) → Some a ≡ Some b → a ≡ b
some_same a b e = cc

event_is : (e : ℕ) (v : Event) → e ≡ 0 → slice_get one.events e ≡ Some v → one_event ≡ v
event_is e v is at = some_same one_event v (subst (λ (k : ℕ). slice_get one.events k ≡ Some v) is at)

clock_is : (v : Event) (c : Clock) → one_event ≡ v → slice_get one.clocks v.clock ≡ Some c → one_clock ≡ c
clock_is v c is at = some_same one_clock c (subst (λ (w : Event). slice_get one.clocks w.clock ≡ Some c) (sym is) at)

pub late_is : (a : Constraint) → Declares one (Late 0) a → late_bound ≡ a
late_is a (v, c, at, on, is) =
    let event = event_is 0 v refl at in
    let clock = clock_is v c event on in
    ap (λ (w : Event). record { from = nodes.Reading w.clock w.stamp; to = nodes.Event 0; weight = pos (late_of one_clock w * 1000000000) }) event
    ∙ ap (λ (k : Clock). record { from = nodes.Reading v.clock v.stamp; to = nodes.Event 0; weight = pos (late_of k v * 1000000000) }) clock ∙ sym is

early_is : (a : Constraint) → Declares one (Early 0) a → early_bound ≡ a
early_is a (v, c, at, on, is) =
    let event = event_is 0 v refl at in
    let clock = clock_is v c event on in
    ap (λ (w : Event). record { from = nodes.Event 0; to = nodes.Reading w.clock w.stamp; weight = pos (early_of one_clock w * 1000000000) }) event
    ∙ ap (λ (k : Clock). record { from = nodes.Event 0; to = nodes.Reading v.clock v.stamp; weight = pos (early_of k v * 1000000000) }) clock ∙ sym is

pub late_arc_of : IsArcOf one one_reading late_bound late_arc
late_arc_of = record { tail = refl; head = refl; weighs = refl }

early_arc_of : IsArcOf one one_reading early_bound early_arc
early_arc_of = record { tail = refl; head = refl; weighs = refl }

-- both arcs stand for the problem
stands : StandsFor one one_reading (late_arc ∷ early_arc ∷ [])
stands = record {
  chained = record {
    follow_ends = λ k d inside. absurd (omega (arith, inside));
    laters_differ = λ i j d below inside. absurd (omega (arith, inside));
  };
  each = All-from_recursion (λ a. (b : Bound) × (c : Constraint) × Declares one b c × IsArcOf one one_reading c a) (late_arc ∷ early_arc ∷ []) (
    (Late 0, late_bound, (one_event, one_clock, refl, refl, refl), late_arc_of),
    ((Early 0, early_bound, (one_event, one_clock, refl, refl, refl), early_arc_of), tt),
  );
  every = All-from_recursion (λ b. (c : Constraint) → Declares one b c → (a : Arc) × Contains (late_arc ∷ early_arc ∷ []) a × IsArcOf one one_reading c a) (Late 0 ∷ Early 0 ∷ []) (
    λ c declares. (late_arc, (0, omega arith, refl), subst (λ (b : Constraint). IsArcOf one one_reading b late_arc) (late_is c declares) late_arc_of),
    (λ c declares. (early_arc, (1, omega arith, refl), subst (λ (b : Constraint). IsArcOf one one_reading b early_arc) (early_is c declares) early_arc_of), tt),
  );
}

-- no arcs do not
not_stands : StandsFor one one_reading [] → ⊥
not_stands none =
    let found = none.every 0 (Late 0) (omega arith) late_bound (one_event, one_clock, refl, refl, refl) in
    absurd (omega (arith, found.1.1))

-- a node is at one place, and an arc of another weight is not the bound's
not_at : IsNodeAt one one_reading 1 (nodes.Event 0) → ⊥
not_at at = absurd cc

pub not_arc : IsArcOf one one_reading late_bound early_arc → ⊥
not_arc arc = let is : pos 0 ≡ pos 7000000000 = arc.weighs in absurd (omega (arith, ints, is))

-- ---- the problem that says nothing bounds nothing
nothing_declared : (b : Bound) (a : Constraint) → Declares empty_problem b a → ⊥
nothing_declared (SpanMost clock s t) a d = let at = d.1 in absurd cc
nothing_declared (SpanLeast clock s t) a d = let at = d.1 in absurd cc
nothing_declared (Late e) a d = let at = d.2 in absurd cc
nothing_declared (Early e) a d = let at = d.2 in absurd cc
nothing_declared (bounds.Follow c s d' t) a d = absurd (omega (arith, d.1.1))
nothing_declared (DelayMost send receive) a d = absurd (omega (arith, d.2.1))
nothing_declared (DelayLeast send receive) a d = absurd (omega (arith, d.1.1))

all_execute : (x : Times) → IsExecution empty_problem x
all_execute x b a declares = absurd (nothing_declared b a declares)

-- event 1 at the time h, all else at 0
at_one : ℤ → Times
at_one h (nodes.Event zero) = pos 0
at_one h (nodes.Event (suc k)) = h
at_one h (nodes.Reading c s) = pos 0

unbounded : IsUnboundedOf empty_problem (nodes.Event 0) (nodes.Event 1)
unfolding at_one
unbounded h = (at_one (h +ℤ pos 1), all_execute (at_one (h +ℤ pos 1)), omega (arith, ints))

own_greatest : IsGreatestOf empty_problem (nodes.Event 0) (nodes.Event 0) (pos 0)
own_greatest = record {
  attained = ((λ n. pos 0), all_execute (λ n. pos 0), refl);
  most = λ x execution. omega (arith, ints);
}

not_unbounded : IsUnboundedOf empty_problem (nodes.Event 0) (nodes.Event 0) → ⊥
not_unbounded more = let found = (more (pos 0)).2 in absurd (omega (arith, ints, found))

not_greatest : (h : ℤ) → IsGreatestOf empty_problem (nodes.Event 0) (nodes.Event 1) h → ⊥
not_greatest h greatest =
    let more = unbounded h in
    let most = greatest.most more.0 more.1 in
    let above = more.2 in
    absurd (omega (arith, ints, most, above))
