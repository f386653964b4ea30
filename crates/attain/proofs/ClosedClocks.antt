-- Nodes that no arc in force leaves: no declared bound leaves them, and they are all nodes of some clocks.
use Rattle.std.proofs.Common.{◌≡◌, ◌↔◌, ◌<◌, ◌-◌, ◌*◌, ℕ, Bool, true, false, List, [], ◌∷◌, length, get_or, slice_get, Some, refl, sym, ◌∙◌, ap, subst, arith, inl, inr}
use Rattle.std.specs.Prelude.{ℤ, pos, neg_ℤ, ◌-ℤ◌, ◌≤ℤ◌, ◌<ℤ◌, All, Contains}
use Rattle.std.proofs.lemmas.Int.{ints}
use Rattle.std.proofs.lemmas.Bool.{cases_Bool, cases_lt}
use Rattle.std.proofs.lemmas.List.Elements.{All-contains, Contains-get_or}
use Rattle.std.proofs.lemmas.Option.{same_Some, slice_get_within, slice_get_read, slice_get-get_or}
use Rattle.atto.specs.Span.{least_of, most_of}
use Rattle.problem_model.specs.declared.items.Clock.{Clock}
use Rattle.problem_model.specs.declared.items.Event.{Event}
use Rattle.problem_model.specs.declared.items.Node.{Node}
use Rattle.problem_model.specs.declared.items.Node.TheVariants as nodes
use Rattle.problem_model.specs.declared.items.Bound.{Bound}
use Rattle.problem_model.specs.declared.items.Bound.TheVariants.{SpanMost, SpanLeast, Late, Early}
use Rattle.problem_model.specs.Problem.{ProblemLists, IsProblem}
use Rattle.problem_model.specs.Bounds.{Constraint, Declares, ClockAt, EventAt, IsReading, early_of, late_of}
use Rattle.problem_model.specs.Nodes.{Reading}
use Rattle.problem_model.specs.Executions.{Arc, IsExecution}
use Rattle.problem_model.specs.Cuts.{IsCut}
use Rattle.problem_model.specs.ProblemArcs.{IsUnboundedOf}
use Rattle.problem_model.specs.Solutions.{IsNodeOf, WeighedBound, Leads}
use Rattle.problem_model.proofs.Cuts.{cut_unbounded}
use Rattle.sync_graph.specs.Graph.{GraphLists, IsGraph, table_of}
use Rattle.sync_graph.specs.InForce.{arcs_of}
use Rattle.problem_graph.specs.ListedStanding.{IsNodeBy, StandsForListed}
use Rattle.problem_graph.proofs.BoundEnds.{event_of, contains_at, reading_of, ends_are}
use Rattle.sync_graph.proofs.InForce.{arcs_listed, arcs_within}
use Rattle.problem_graph.proofs.ListedExecutions.{unbounded_of}
use Rattle.problem_graph.proofs.NodeNumbers.{number_below, is_node, number_of, one_number, stamps_at, listed_by, readings_count}
use Rattle.problem.proofs.ListedNodes.{stamp_of}
use Rattle.problem.specs.Listing.{Listed}
use Rattle.cert.specs.Shows.{IsOnClock, IsCutOf, Parts}

-- ---- nodes on clocks
-- the node has this clock and stamp
abbrev IsStampOf : ProblemLists → Node → ℕ → ℕ → Type 0
IsStampOf p (nodes.Event e) clock stamp = (v : Event) × EventAt p e v × (v.clock ≡ clock) × (v.stamp ≡ stamp)
IsStampOf p (nodes.Reading place s) clock stamp = (place ≡ clock) × (s ≡ stamp)

stamp_on : (p : ProblemLists) (n : Node) (clock : ℕ) → IsOnClock p n clock → (stamp : ℕ) × IsStampOf p n clock stamp
stamp_on p (nodes.Event e) clock (v, at, on) = (v.stamp, (v, at, on, refl))
stamp_on p (nodes.Reading place s) clock on = (s, (on, refl))

stamp_read : (p : ProblemLists) (n : Node) (clock stamp : ℕ) → IsNodeOf p n → IsStampOf p n clock stamp → IsReading p clock stamp
stamp_read p (nodes.Event e) clock stamp inside (v, at, on, is) = (v, contains_at p e v at, on, is)
stamp_read p (nodes.Reading place s) clock stamp reading (on, is) = subst (λ (k : ℕ). IsReading p k stamp) on (subst (λ (t : ℕ). IsReading p place t) is reading)

pub some_clock : (p : ProblemLists) (n : Node) → IsNodeOf p n → (clock : ℕ) × IsOnClock p n clock
some_clock p (nodes.Event e) inside = let v = event_of p e inside in (v.0.clock, (v.0, v.1, refl))
some_clock p (nodes.Reading place s) reading = (place, refl)

clock_of : (p : ProblemLists) (clock stamp : ℕ) → IsProblem p → IsReading p clock stamp → (c : Clock) × ClockAt p clock c
clock_of p clock stamp lawful (v, has, on, is) =
    let known : v.clock < length p.clocks = All-contains (λ (e : Event). e.clock < length p.clocks) p.events v lawful.formed.event_clocks has in
    let none : Clock = record { name = []; rate = record { short = 0; long = 0 }; early = 0; late = 0 } in
    (get_or p.clocks clock none, slice_get-get_or p.clocks clock none (subst (λ (k : ℕ). k < length p.clocks) on known))

module _ (l : Listed) (p : ProblemLists) (readings : List Reading) (g : GraphLists) (stands : StandsForListed l p readings g) where
  -- each reading of the problem is listed
  reading_listed : (clock stamp : ℕ) → IsReading p clock stamp → (r : ℕ × ℕ × ℕ) × Contains l.readings r × (r.0 ≡ clock) × (r.1 ≡ stamp)
  reading_listed clock stamp reading =
      let found = stands.are_readings.every clock stamp reading in
      let j : ℕ = found.0 in
      let s : Reading = (clock, stamp) in
      let inside : j < length l.readings = omega (arith, found.1, readings_count l p readings g stands) in
      let r : ℕ × ℕ × ℕ = get_or l.readings j (0, 0, 0) in
      let at : slice_get l.readings j ≡ Some r = slice_get-get_or l.readings j (0, 0, 0) inside in
      let here : slice_get {X = Reading} readings j ≡ Some s = slice_get_read readings (length readings) j s refl found.1 (sym found.2) in
      let same : stamp_of r ≡ s = same_Some (stamp_of r) s (sym (stamps_at l p readings g stands j r at) ∙ here) in
      (r, Contains-get_or l.readings j (0, 0, 0) inside, ap (λ (v : Reading). v.0) same, ap (λ (v : Reading). v.1) same)

-- ---- nodes inside, where no arc in force leaves them
module _ (l : Listed) (p : ProblemLists) (readings : List Reading) (g : GraphLists) (stands : StandsForListed l p readings g)
    (is : IsGraph g)
    (values : List ℤ)
    (execution : IsExecution (length g.nodes) (arcs_of g) values)
    (inside : ℕ → Bool)
    (closed : (j : ℕ) → (table_of g).in_force j ≡ true → inside ((table_of g).arc j).from ≡ true → inside ((table_of g).arc j).to ≡ true)
  where
    cut : IsCut (arcs_of g) inside
    cut k d there =
        let r = (arcs_listed g is).only (get_or (arcs_of g) k d) (Contains-get_or (arcs_of g) k d there) in
        subst (λ (a : Arc). inside a.from ≡ true → inside a.to ≡ true) r.2 (closed r.0 r.1)

    pub outside_unbounded : (j k : ℕ) (m n : Node) → IsNodeBy l p readings j m → IsNodeBy l p readings k n → inside j ≡ true → inside k ≡ false → IsUnboundedOf p m n
    outside_unbounded j k m n by by' held out =
        unbounded_of l p readings g stands is j k m n by by'
        (cut_unbounded (length g.nodes) (arcs_of g) inside values j k (arcs_within g is) cut execution (number_below l p readings g stands j m by) (number_below l p readings g stands k n by') held out)

    -- the node is one of them
    abbrev pub Holds : Node → Type 0
    Holds n = (k : ℕ) × IsNodeBy l p readings k n × (inside k ≡ true)

    pub holds_by : (k : ℕ) (n : Node) → IsNodeBy l p readings k n → Holds n → inside k ≡ true
    holds_by k n by (j, by', held) = subst (λ (i : ℕ). inside i ≡ true) (one_number l p readings g stands j k n by' by) held

    closed_bound : (b : Bound) (c : Constraint) → Declares p b c → Holds c.from → Holds c.to
    closed_bound b c declares (j, by, held) =
        let other = number_of l p readings g stands c.to (ends_are p b c stands.lawful declares).1 in
        elim (cases_Bool (inside other.0)) [
          | inl held' ↦ (other.0, other.1, held')
          | inr out ↦ absurd (
              let more = outside_unbounded j other.0 c.from c.to by other.1 held out c.weight in
              let above : c.weight <ℤ (more.0 c.to -ℤ more.0 c.from) = more.2 in
              let most : (more.0 c.to -ℤ more.0 c.from) ≤ℤ c.weight = more.1 b c declares in
              omega (arith, ints, above, most))
        ]

    -- declared bounds lead only to others of them
    pub closed_path : (m n : Node) (steps : List WeighedBound) → Leads p m steps n → Holds m → Holds n
    closed_path m n [] leads holds = subst Holds leads holds
    closed_path m n (s ∷ steps) (c, declares, weighs, begins, rest) holds = closed_path c.to n steps rest (closed_bound s.0 c declares (subst Holds (sym begins) holds))

    -- ---- the nodes of one clock
    to_reading : (n : Node) (clock stamp : ℕ) → IsNodeOf p n → IsStampOf p n clock stamp → Holds n → Holds (nodes.Reading clock stamp)
    to_reading (nodes.Event e) clock stamp there (v, at, on, is_stamp) holds =
        let c = clock_of p v.clock v.stamp stands.lawful (reading_of p e v at) in
        let here : Holds (nodes.Reading v.clock v.stamp) = closed_bound (Early e) (record { from = nodes.Event e; to = nodes.Reading v.clock v.stamp; weight = pos (early_of c.0 v * 1000000000) }) (v, c.0, at, c.1, refl) holds in
        subst (λ (k : ℕ). Holds (nodes.Reading k stamp)) on (subst (λ (t : ℕ). Holds (nodes.Reading v.clock t)) is_stamp here)
    to_reading (nodes.Reading place s) clock stamp there (on, is_stamp) holds = subst (λ (k : ℕ). Holds (nodes.Reading k stamp)) on (subst (λ (t : ℕ). Holds (nodes.Reading place t)) is_stamp holds)

    from_reading : (n : Node) (clock stamp : ℕ) → IsNodeOf p n → IsStampOf p n clock stamp → Holds (nodes.Reading clock stamp) → Holds n
    from_reading (nodes.Event e) clock stamp there (v, at, on, is_stamp) holds =
        let c = clock_of p v.clock v.stamp stands.lawful (reading_of p e v at) in
        let here : Holds (nodes.Reading v.clock v.stamp) = subst (λ (k : ℕ). Holds (nodes.Reading k v.stamp)) (sym on) (subst (λ (t : ℕ). Holds (nodes.Reading clock t)) (sym is_stamp) holds) in
        closed_bound (Late e) (record { from = nodes.Reading v.clock v.stamp; to = nodes.Event e; weight = pos (late_of c.0 v * 1000000000) }) (v, c.0, at, c.1, refl) here
    from_reading (nodes.Reading place s) clock stamp there (on, is_stamp) holds =
        subst (λ (k : ℕ). Holds (nodes.Reading k s)) (sym on) (subst (λ (t : ℕ). Holds (nodes.Reading clock t)) (sym is_stamp) holds)

    between_readings : (clock s t : ℕ) → IsReading p clock s → IsReading p clock t → Holds (nodes.Reading clock s) → Holds (nodes.Reading clock t)
    between_readings clock s t reading reading' holds =
        let c = clock_of p clock s stands.lawful reading in
        elim (cases_lt s t) [
          | inl below ↦ closed_bound (SpanMost clock s t) (record { from = nodes.Reading clock s; to = nodes.Reading clock t; weight = pos (most_of c.0.rate (t - s)) }) (c.0, c.1, reading, reading', below, refl) holds
          | inr above ↦ elim (cases_lt t s) [
            | inl below ↦ closed_bound (SpanLeast clock t s) (record { from = nodes.Reading clock s; to = nodes.Reading clock t; weight = neg_ℤ (pos (least_of c.0.rate (s - t))) }) (c.0, c.1, reading', reading, below, refl) holds
            | inr above' ↦ (let same : s ≡ t = omega (arith, above, above') in subst (λ (u : ℕ). Holds (nodes.Reading clock u)) same holds)
          ]
        ]

    alike : (m n : Node) (clock : ℕ) → IsNodeOf p m → IsNodeOf p n → IsOnClock p m clock → IsOnClock p n clock → Holds m → Holds n
    alike m n clock there there' on on' holds =
        let s = stamp_on p m clock on in
        let t = stamp_on p n clock on' in
        from_reading n clock t.0 there' t.1
        (between_readings clock s.0 t.0 (stamp_read p m clock s.0 there s.1) (stamp_read p n clock t.0 there' t.1) (to_reading m clock s.0 there s.1 holds))

    -- ---- their clocks
    module _ (clocks : List ℕ) (each : (clock : ℕ) → Contains clocks clock ↔ ((r : ℕ × ℕ × ℕ) × Contains l.readings r × (r.0 ≡ clock) × (inside r.2 ≡ true))) where
      pub has_clock : (n : Node) (clock : ℕ) → IsNodeOf p n → IsOnClock p n clock → Holds n → Contains clocks clock
      has_clock n clock there on holds =
          let s = stamp_on p n clock on in
          let r = reading_listed l p readings g stands clock s.0 (stamp_read p n clock s.0 there s.1) in
          let here : Holds (nodes.Reading r.0.0 r.0.1) =
          subst (λ (k : ℕ). Holds (nodes.Reading k r.0.1)) (sym r.2) (subst (λ (t : ℕ). Holds (nodes.Reading clock t)) (sym r.3) (to_reading n clock s.0 there s.1 holds)) in
          (each clock).1 (r.0, r.1, r.2, holds_by r.0.2 (nodes.Reading r.0.0 r.0.1) (listed_by l p readings g stands r.0 r.1) here)

      pub clock_holds : (n : Node) (clock : ℕ) → IsNodeOf p n → IsOnClock p n clock → Contains clocks clock → Holds n
      clock_holds n clock there on has =
          let r = (each clock).0 has in
          let by = listed_by l p readings g stands r.0 r.1 in
          alike (nodes.Reading r.0.0 r.0.1) n clock (is_node l p readings g stands r.0.2 (nodes.Reading r.0.0 r.0.1) by) there r.2 on (r.0.2, by, r.3)

      -- an inside clock has one of them
      pub clock_there : (clock : ℕ) → Contains clocks clock → (n : Node) × IsNodeOf p n × IsOnClock p n clock × Holds n
      clock_there clock has =
          let r = (each clock).0 has in
          let by = listed_by l p readings g stands r.0 r.1 in
          (nodes.Reading r.0.0 r.0.1, is_node l p readings g stands r.0.2 (nodes.Reading r.0.0 r.0.1) by, r.2, (r.0.2, by, r.3))

      pub clocks_below : All (λ k. k < length p.clocks) clocks
      clocks_below i d within =
          let r = (each (get_or clocks i d)).0 (Contains-get_or clocks i d within) in
          let reading : IsReading p r.0.0 r.0.1 = is_node l p readings g stands r.0.2 (nodes.Reading r.0.0 r.0.1) (listed_by l p readings g stands r.0 r.1) in
          let c = clock_of p r.0.0 r.0.1 stands.lawful reading in
          subst (λ (k : ℕ). k < length p.clocks) r.2 (slice_get_within p.clocks r.0.0 c.0 c.1)

      leaves_none : IsCutOf p clocks
      leaves_none b c declares (clock, on, has) =
          let ends = ends_are p b c stands.lawful declares in
          let holds : Holds c.to = closed_bound b c declares (clock_holds c.from clock ends.0 on has) in
          let other = some_clock p c.to ends.1 in
          (other.0, other.1, has_clock c.to other.0 ends.1 other.1 holds)

      -- their clocks are a cut between an event inside and one outside
      pub parts : (from to : ℕ) → from < length p.events → to < length p.events → Holds (nodes.Event from) → (Holds (nodes.Event to) → ⊥) → Parts p clocks from to
      parts from to there there' holds out = record {
        home = (let clock = some_clock p (nodes.Event from) there in (clock.0, clock.1, has_clock (nodes.Event from) clock.0 there clock.1 holds));
        away = λ (clock, on, has). out (clock_holds (nodes.Event to) clock there' on has);
        cut = leaves_none;
      }
