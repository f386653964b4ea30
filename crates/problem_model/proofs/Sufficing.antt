-- The bounds of the short list say all that the declared bounds say.
use Rattle.std.proofs.Common.{◌≡◌, ◌<◌, ◌-◌, ◌+◌, ℕ, zero, suc, List, [], ◌∷◌, ◌++◌, length, slice_get, Option, Some, None, true, cond, nat_eq, refl, sym, ◌∙◌, subst, arith, inl, inr}
use Rattle.std.specs.Prelude.{All, ℤ, ◌↔◌, ◌≤ℤ◌}
use Rattle.std.proofs.lemmas.Bool.{cases_lt}
use Rattle.std.proofs.lemmas.Int.{ints}
use Rattle.std.specs.List.{AllByRecursion, flat_map}
use Rattle.std.proofs.lemmas.List.Elements.{recursion_from_All, All-contains_itself}
use Rattle.problem_model.specs.declared.items.Clock.{Clock}
use Rattle.problem_model.specs.declared.items.Event.{Event}
use Rattle.problem_model.specs.declared.items.Message.{Message}
use Rattle.problem_model.specs.declared.items.Bound.{Bound}
use Rattle.problem_model.specs.declared.items.Bound.TheVariants as bounds
use Rattle.problem_model.specs.declared.items.Bound.TheVariants.{SpanMost, SpanLeast, Late, Early, DelayMost, DelayLeast}
use Rattle.problem_model.specs.declared.items.Node.TheVariants as nodes
use Rattle.problem_model.specs.Problem.{ProblemLists, IsChained}
use Rattle.problem_model.specs.Bounds.{Constraint, Obeys, Times, IsReading, ClockAt, IsExecution}
use Rattle.problem_model.specs.Nodes.{Reading, IsEarlierReading, AreReadings}
use Rattle.problem_model.specs.ShortList.{ObeysNamed, short_list, span_bounds, event_bounds, message_bounds, most_bound, clocks_before, first_reading, nearest_reading, follow_bound, follow_bounds}
use Rattle.problem_model.proofs.Chains.{Among, among, Rises, rises, all_append_left, all_append_right, SpansNeighbours, all_spans, AtMost, AtLeast, most_joined, least_joined}
use Rattle.problem_model.proofs.Following.{RunsOn, every_before}
use Rattle.problem_model.proofs.OneList.{contained}

equal_true : (a b : ℕ) → a ≡ b → nat_eq a b ≡ true
equal_true a b is = grind (arith, is)

neighbour_less : (a b : Reading) → IsEarlierReading a b → a.0 ≡ b.0 → a.1 < b.1
neighbour_less a b (inl less) same = absurd (omega (arith, less, same))
neighbour_less a b (inr later) same = later.1

module _ (p : ProblemLists) (x : Times) where
  abbrev AllObeyed : List Bound → Type 0
  AllObeyed bounds = AllByRecursion (ObeysNamed p x) bounds

  -- the real time of a reading of the clock
  abbrev time_on : ℕ → ℕ → ℤ
  time_on clock stamp = x (nodes.Reading clock stamp)

  both_spans : (a b : Reading) (rest : List Bound) → a.0 ≡ b.0 → AllObeyed (cond (nat_eq a.0 b.0) (SpanMost a.0 a.1 b.1 ∷ SpanLeast a.0 a.1 b.1 ∷ []) [] ++ rest) →
      ObeysNamed p x (SpanMost a.0 a.1 b.1) × ObeysNamed p x (SpanLeast a.0 a.1 b.1)
  both_spans a b rest same all =
      let here : AllObeyed ((SpanMost a.0 a.1 b.1 ∷ SpanLeast a.0 a.1 b.1 ∷ []) ++ rest) = subst (λ v. AllObeyed (cond v (SpanMost a.0 a.1 b.1 ∷ SpanLeast a.0 a.1 b.1 ∷ []) [] ++ rest)) (equal_true a.0 b.0 same) all in
      (here.0, here.1.0)

  module _ (clock : ℕ) (c : Clock) (at : ClockAt p clock c) where
    most_named : (s t : ℕ) → IsReading p clock s → IsReading p clock t → s < t → ObeysNamed p x (SpanMost clock s t) → AtMost (time_on clock) (1000000000 + c.rate.long) s t
    most_named s t from to below obeys = obeys _ (c, at, from, to, below, refl)

    least_named : (s t : ℕ) → IsReading p clock s → IsReading p clock t → s < t → ObeysNamed p x (SpanLeast clock s t) → AtLeast (time_on clock) (1000000000 - c.rate.short) s t
    least_named s t from to below obeys = obeys _ (c, at, from, to, below, refl)

    spans_most : (readings : List Reading) → AllByRecursion (λ r. IsReading p r.0 r.1) readings → Rises readings → AllObeyed (span_bounds readings) →
        SpansNeighbours clock (AtMost (time_on clock) (1000000000 + c.rate.long)) (most_joined (time_on clock) (1000000000 + c.rate.long)) readings
    spans_most [] are rising all = tt
    spans_most (a ∷ []) are rising all = tt
    spans_most (a ∷ b ∷ rest) are rising all = (
      λ first second.
          let same : a.0 ≡ b.0 = first ∙ sym second in
          let named : ObeysNamed p x (SpanMost clock a.1 b.1) = subst (λ k. ObeysNamed p x (SpanMost k a.1 b.1)) first (both_spans a b (span_bounds (b ∷ rest)) same all).0 in
          most_named a.1 b.1 (subst (λ k. IsReading p k a.1) first are.0) (subst (λ k. IsReading p k b.1) second are.1.0) (neighbour_less a b rising.0.0 same) named,
      spans_most (b ∷ rest) are.1 rising.1 (all_append_right (ObeysNamed p x) (cond (nat_eq a.0 b.0) (SpanMost a.0 a.1 b.1 ∷ SpanLeast a.0 a.1 b.1 ∷ []) []) (span_bounds (b ∷ rest)) all),
    )

    spans_least : (readings : List Reading) → AllByRecursion (λ r. IsReading p r.0 r.1) readings → Rises readings → AllObeyed (span_bounds readings) →
        SpansNeighbours clock (AtLeast (time_on clock) (1000000000 - c.rate.short)) (least_joined (time_on clock) (1000000000 - c.rate.short)) readings
    spans_least [] are rising all = tt
    spans_least (a ∷ []) are rising all = tt
    spans_least (a ∷ b ∷ rest) are rising all = (
      λ first second.
          let same : a.0 ≡ b.0 = first ∙ sym second in
          let named : ObeysNamed p x (SpanLeast clock a.1 b.1) = subst (λ k. ObeysNamed p x (SpanLeast k a.1 b.1)) first (both_spans a b (span_bounds (b ∷ rest)) same all).1 in
          least_named a.1 b.1 (subst (λ k. IsReading p k a.1) first are.0) (subst (λ k. IsReading p k b.1) second are.1.0) (neighbour_less a b rising.0.0 same) named,
      spans_least (b ∷ rest) are.1 rising.1 (all_append_right (ObeysNamed p x) (cond (nat_eq a.0 b.0) (SpanMost a.0 a.1 b.1 ∷ SpanLeast a.0 a.1 b.1 ∷ []) []) (span_bounds (b ∷ rest)) all),
    )

  -- ---- follows
  follows_obeyed : (readings : List Reading) (k j : ℕ) (clocks : List Clock) → AllObeyed (follow_bounds p.follows readings k clocks) → j < length clocks
      → AllObeyed (follow_bound (nearest_reading readings (clocks_before p.follows (k + j) (k + j))) (first_reading readings (k + j)))
  follows_obeyed readings k j [] all inside = absurd (omega (arith, inside))
  follows_obeyed readings k zero (c ∷ clocks) all inside =
      let same : k ≡ k + 0 = omega arith in
      subst (λ (n : ℕ). AllObeyed (follow_bound (nearest_reading readings (clocks_before p.follows n n)) (first_reading readings n))) same
      (all_append_left (ObeysNamed p x) (follow_bound (nearest_reading readings (clocks_before p.follows k k)) (first_reading readings k)) (follow_bounds p.follows readings (k + 1) clocks) all)
  follows_obeyed readings k (suc j) (c ∷ clocks) all inside =
      let same : k + 1 + j ≡ k + suc j = omega arith in
      subst (λ (n : ℕ). AllObeyed (follow_bound (nearest_reading readings (clocks_before p.follows n n)) (first_reading readings n))) same
      (follows_obeyed readings (k + 1) j clocks
      (all_append_right (ObeysNamed p x) (follow_bound (nearest_reading readings (clocks_before p.follows k k)) (first_reading readings k)) (follow_bounds p.follows readings (k + 1) clocks) all) (omega (arith, inside)))

  -- ---- events and messages
  stamps_obeyed : (k j : ℕ) (events : List Event) (e : Event) → AllObeyed (event_bounds k events) → slice_get events j ≡ Some e → ObeysNamed p x (Late (k + j)) × ObeysNamed p x (Early (k + j))
  stamps_obeyed k j [] e all at = absurd cc
  stamps_obeyed k zero (v ∷ events) e all at =
      let same : k ≡ k + 0 = omega arith in (subst (λ n. ObeysNamed p x (Late n)) same all.0, subst (λ n. ObeysNamed p x (Early n)) same all.1.0)
  stamps_obeyed k (suc j) (v ∷ events) e all at =
      let same : k + 1 + j ≡ k + suc j = omega arith in
      let rest = stamps_obeyed (k + 1) j events e all.1.1 at in
      (subst (λ n. ObeysNamed p x (Late n)) same rest.0, subst (λ n. ObeysNamed p x (Early n)) same rest.1)

  delays_obeyed : (messages : List Message) (m : Message) → AllObeyed (flat_map message_bounds messages) → Among messages m → AllObeyed (message_bounds m)
  delays_obeyed [] m all at = absurd at
  delays_obeyed (n ∷ messages) m all (inl is) = subst (λ (v : Message). AllObeyed (message_bounds v)) is (all_append_left (ObeysNamed p x) (message_bounds n) (flat_map message_bounds messages) all)
  delays_obeyed (n ∷ messages) m all (inr at) = delays_obeyed messages m (all_append_right (ObeysNamed p x) (message_bounds n) (flat_map message_bounds messages) all) at

  most_obeyed : (m : Message) (o : Option ℕ) (most : ℕ) → o ≡ Some most → AllObeyed (most_bound m o) → ObeysNamed p x (DelayMost m.send m.receive)
  most_obeyed m None most is all = absurd cc
  most_obeyed m (Some n) most is all = all.0

  module _ (chained : IsChained p) (readings : List Reading) (are : AreReadings p readings) (all : AllObeyed (short_list p readings)) where
    short_parts : (spans stamps follows delays : List Bound) → AllObeyed (spans ++ stamps ++ follows ++ delays) → AllObeyed spans × AllObeyed stamps × AllObeyed follows × AllObeyed delays
    short_parts spans stamps follows delays all =
        let three : AllObeyed (spans ++ stamps ++ follows) = all_append_left (ObeysNamed p x) (spans ++ stamps ++ follows) delays all in
        let two : AllObeyed (spans ++ stamps) = all_append_left (ObeysNamed p x) (spans ++ stamps) follows three in
        (all_append_left (ObeysNamed p x) spans stamps two, all_append_right (ObeysNamed p x) spans stamps two, all_append_right (ObeysNamed p x) (spans ++ stamps) follows three, all_append_right (ObeysNamed p x) (spans ++ stamps ++ follows) delays all)

    parts : AllObeyed (span_bounds readings) × AllObeyed (event_bounds 0 p.events) × AllObeyed (follow_bounds p.follows readings 0 p.clocks) × AllObeyed (flat_map message_bounds p.messages)
    parts = short_parts (span_bounds readings) (event_bounds 0 p.events) (follow_bounds p.follows readings 0 p.clocks) (flat_map message_bounds p.messages) all

    each_is : AllByRecursion (λ r. IsReading p r.0 r.1) readings
    each_is = recursion_from_All (λ r. IsReading p r.0 r.1) readings (λ k d inside. let at = All-contains_itself readings k d inside in are.each _ _ at)

    span_least : (clock s t : ℕ) → ObeysNamed p x (SpanLeast clock s t)
    span_least clock s t a declared =
        let rising = rises readings are.rising in
        let bound = all_spans clock (AtLeast (time_on clock) (1000000000 - declared.0.rate.short)) (least_joined (time_on clock) (1000000000 - declared.0.rate.short)) readings s t rising
        (spans_least clock declared.0 declared.1 readings each_is rising parts.0) (among readings (clock, s) (are.every clock s declared.2)) (among readings (clock, t) (are.every clock t declared.3)) declared.4 in
        subst (λ (v : Constraint). Obeys x v) (sym declared.5) bound

    is_read : (r : Reading) → Among readings r → IsReading p r.0 r.1
    is_read r at = are.each r.0 r.1 (contained readings r at)

    runs_on : RunsOn p chained readings (rises readings are.rising) x is_read
    runs_on c s t known from to below = elim (cases_lt s t) [ inl less ↦ steps less | inr least ↦ stays (omega (arith, least, below)) ]
      where
        clock : (v : Clock) × ClockAt p c v
        clock = clock_of p.clocks c known
          where
            clock_of : (clocks : List Clock) (k : ℕ) → k < length clocks → (v : Clock) × (slice_get clocks k ≡ Some v)
            clock_of [] k inside = absurd (omega (arith, inside))
            clock_of (v ∷ clocks) zero inside = (v, refl)
            clock_of (v ∷ clocks) (suc k) inside = clock_of clocks k (omega (arith, inside))

        steps : s < t → time_on c s ≤ℤ time_on c t
        steps less = let bound = span_least c s t _ (clock.0, clock.1, is_read (c, s) from, is_read (c, t) to, less, refl) in omega (arith, ints, bound)

        stays : s ≡ t → time_on c s ≤ℤ time_on c t
        stays same = subst (λ (u : ℕ). time_on c s ≤ℤ time_on c u) same (omega (arith, ints))

    named_obeyed : (b : Bound) → ObeysNamed p x b
    named_obeyed (SpanMost clock s t) a declared =
        let rising = rises readings are.rising in
        let bound = all_spans clock (AtMost (time_on clock) (1000000000 + declared.0.rate.long)) (most_joined (time_on clock) (1000000000 + declared.0.rate.long)) readings s t rising
        (spans_most clock declared.0 declared.1 readings each_is rising parts.0) (among readings (clock, s) (are.every clock s declared.2)) (among readings (clock, t) (are.every clock t declared.3)) declared.4 in
        subst (λ (v : Constraint). Obeys x v) (sym declared.5) bound
    named_obeyed (SpanLeast clock s t) a declared = span_least clock s t a declared
    named_obeyed (Late e) a declared = subst (λ k. ObeysNamed p x (Late k)) (omega arith) (stamps_obeyed 0 e p.events declared.0 parts.1 declared.2).0 a declared
    named_obeyed (Early e) a declared = subst (λ k. ObeysNamed p x (Early k)) (omega arith) (stamps_obeyed 0 e p.events declared.0 parts.1 declared.2).1 a declared
    named_obeyed (bounds.Follow c s d t) a declared =
        let keeps = every_before p chained readings (rises readings are.rising) x is_read runs_on (λ k inside. subst (λ (n : ℕ). AllObeyed (follow_bound (nearest_reading readings (clocks_before p.follows n n)) (first_reading readings n))) (omega arith) (follows_obeyed readings 0 k p.clocks parts.2 inside))
        (suc d) d c s t (omega arith) declared.3 (among readings (c, s) (are.every c s declared.4)) (among readings (d, t) (are.every d t declared.5)) declared.0 declared.1 declared.2 in
        subst (λ (v : Constraint). Obeys x v) (sym declared.6) keeps
    named_obeyed (DelayMost send receive) a declared =
        let m = declared.0 in
        let all_of = delays_obeyed p.messages m parts.3 (among p.messages m declared.2) in
        let here : ObeysNamed p x (DelayMost m.send m.receive) = most_obeyed m m.most declared.1 declared.5 (all_append_left (ObeysNamed p x) (most_bound m m.most) (DelayLeast m.send m.receive ∷ []) all_of) in
        subst (λ s. ObeysNamed p x (DelayMost s receive)) declared.3 (subst (λ r. ObeysNamed p x (DelayMost m.send r)) declared.4 here) a declared
    named_obeyed (DelayLeast send receive) a declared =
        let m = declared.0 in
        let all_of = delays_obeyed p.messages m parts.3 (among p.messages m declared.1) in
        let here : ObeysNamed p x (DelayLeast m.send m.receive) = (all_append_right (ObeysNamed p x) (most_bound m m.most) (DelayLeast m.send m.receive ∷ []) all_of).0 in
        subst (λ s. ObeysNamed p x (DelayLeast s receive)) declared.2 (subst (λ r. ObeysNamed p x (DelayLeast m.send r)) declared.3 here) a declared

  pub suffices : IsChained p → (readings : List Reading) → AreReadings p readings → (All (ObeysNamed p x) (short_list p readings) ↔ IsExecution p x)
  suffices chained readings are = (
    λ all b. named_obeyed chained readings are (recursion_from_All (ObeysNamed p x) (short_list p readings) all) b,
    λ execution k d inside a declared. execution _ a declared,
  )
