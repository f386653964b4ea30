-- Bounds whose names are there are declared.
use Rattle.std.proofs.Common.{◌≡◌, ◌<◌, ◌*◌, ◌-◌, ℕ, List, [], ◌∷◌, length, get_or, slice_get, Some, Result, Ok, Err, true, refl, arith}
use Rattle.std.specs.Prelude.{OnOk, is_ok, pos, neg_ℤ}
use Rattle.std.proofs.lemmas.Option.{slice_get-get_or, slice_get_within, get_or_from_slice_get}
use Rattle.atto.specs.Span.{least_of, most_of}
use Rattle.problem_model.specs.declared.items.Clock.{Clock}
use Rattle.problem_model.specs.declared.items.Event.{Event}
use Rattle.problem_model.specs.declared.items.Node.TheVariants as nodes
use Rattle.problem_model.specs.declared.items.Bound.TheVariants.{SpanMost, SpanLeast, Late, Early}
use Rattle.problem_model.specs.Problem.{ProblemLists, IsWellFormed}
use Rattle.problem_model.specs.Bounds.{Constraint, Declares, IsReading, early_of, late_of}
use Rattle.problem_model.proofs.Walking.{clock_there}

pub there_is : {X : Type 0} (xs : List X) (k : ℕ) → k < length xs → (x : X) × (slice_get xs k ≡ Some x)
there_is [] k inside = absurd (omega (arith, inside))
there_is (y ∷ ys) k inside = (get_or (y ∷ ys) k y, slice_get-get_or (y ∷ ys) k y inside)

pub on_ok : {A E : Type 0} (r : Result A E) (P : Type 0) → OnOk r P → true ≡ is_ok r → P
on_ok (Ok a) P p is = p
on_ok (Err e) P p is = absurd cc

module _ (p : ProblemLists) (lawful : IsWellFormed p) where
  clock_of : (e : ℕ) (v : Event) → slice_get p.events e ≡ Some v → (c : Clock) × (slice_get p.clocks v.clock ≡ Some c)
  clock_of e v at = there_is p.clocks v.clock (clock_there p v.clock v.stamp lawful (v, (e, slice_get_within p.events e v at, get_or_from_slice_get p.events e v v at), refl, refl))

  pub late_named : (e : ℕ) → e < length p.events → (c : Constraint) × Declares p (Late e) c
  late_named e inside = let event = there_is p.events e inside in let clock = clock_of e event.0 event.1 in
      (record { from = nodes.Reading event.0.clock event.0.stamp; to = nodes.Event e; weight = pos (late_of clock.0 event.0 * 1000000000) }, (event.0, clock.0, event.1, clock.1, refl))

  pub early_named : (e : ℕ) → e < length p.events → (c : Constraint) × Declares p (Early e) c
  early_named e inside = let event = there_is p.events e inside in let clock = clock_of e event.0 event.1 in
      (record { from = nodes.Event e; to = nodes.Reading event.0.clock event.0.stamp; weight = pos (early_of clock.0 event.0 * 1000000000) }, (event.0, clock.0, event.1, clock.1, refl))

  pub most_named : (clock s t : ℕ) → IsReading p clock s → IsReading p clock t → s < t → (c : Constraint) × Declares p (SpanMost clock s t) c
  most_named clock s t reading reading' less = let c = there_is p.clocks clock (clock_there p clock s lawful reading) in
      (record { from = nodes.Reading clock s; to = nodes.Reading clock t; weight = pos (most_of c.0.rate (t - s)) }, (c.0, c.1, reading, reading', less, refl))

  pub least_named : (clock s t : ℕ) → IsReading p clock s → IsReading p clock t → s < t → (c : Constraint) × Declares p (SpanLeast clock s t) c
  least_named clock s t reading reading' less = let c = there_is p.clocks clock (clock_there p clock s lawful reading) in
      (record { from = nodes.Reading clock t; to = nodes.Reading clock s; weight = neg_ℤ (pos (least_of c.0.rate (t - s))) }, (c.0, c.1, reading, reading', less, refl))
