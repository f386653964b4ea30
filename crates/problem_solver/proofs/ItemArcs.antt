-- The arcs of items among the nodes of a problem.
use Rattle.std.proofs.Common.{◌≡◌, ◌<◌, ◌+◌, ◌-◌, ℕ, List, [], ◌∷◌, length, get_or, slice_get, Some, refl, sym, ◌∙◌, ap, subst, arith, inl, inr}
use Rattle.std.specs.Prelude.{Contains}
use Rattle.std.proofs.lemmas.Option.{slice_get_within, slice_get-get_or, slice_get_read}
use Rattle.std.proofs.lemmas.List.Elements.{All-contains, All-nil, Contains-get_or}
use Rattle.problem_model.specs.declared.items.Clock.{Clock}
use Rattle.problem_model.specs.declared.items.Event.{Event}
use Rattle.problem_model.specs.declared.items.Message.{Message}
use Rattle.problem_model.specs.declared.items.Node.{Node}
use Rattle.problem_model.specs.declared.items.Node.TheVariants as nodes
use Rattle.problem_model.specs.declared.items.Bound.{Bound}
use Rattle.problem_model.specs.declared.items.Bound.TheVariants.{SpanMost, SpanLeast, Late, Early, Follow}
use Rattle.problem_model.specs.Problem.{ProblemLists, IsProblem}
use Rattle.problem_model.specs.Bounds.{Declares, ClockAt, EventAt, IsReading}
use Rattle.problem_model.specs.ShortList.{neighbour_bounds, message_bounds}
use Rattle.problem_model.specs.Nodes.{Reading, IsEarlierReading, AreReadings, nodes_of}
use Rattle.problem.specs.Nearest.{gap_between}
use Rattle.problem_model.proofs.OneList.{readings_one}
use Rattle.problem_model.proofs.Places.{event_stands, reading_stands}
use Rattle.problem_model.proofs.Walking.{clock_there, neighbours_are}
use Rattle.sync_graph.specs.declared.arc.Arc.{Arc}
use Rattle.problem_graph.specs.BoundArcs.{AreArcsOf, FitsNodes, HaveNumbers, IsBoundAmong}
use Rattle.problem_solver.specs.declared.items.Item.TheVariants as items
use Rattle.problem_solver.specs.Items.{reading_at, IsItem, bounds_of}
use Rattle.problem_solver.specs.Pushing.{AreBoundsAmong}

-- the arcs of a thing that the problem has
module _ (p : ProblemLists) (all : List Node) (bounds : List Bound) (N : List Node → Type 0) (H : ProblemLists → Type 0) (arcs : List Arc) where
  pub among : AreArcsOf bounds N H arcs → N all → H p → AreBoundsAmong p all bounds arcs
  among made is has = record { named = made.named; fit = made.fit all is; declared = made.declared p all is has }

pub none_among : (p : ProblemLists) (all : List Node) → AreBoundsAmong p all [] []
none_among p all = record { named = refl; fit = All-nil (FitsNodes all); declared = All-nil (IsBoundAmong p all) }

module _ (p : ProblemLists) (readings : List Reading) (are : AreReadings p readings) where
  -- ---- spans
  module _ (k : ℕ) (item : IsItem p readings (items.Span k)) where
    abbrev first : Reading
    first = reading_at readings k

    abbrev second : Reading
    second = reading_at readings (k + 1)

    first_there : slice_get readings k ≡ Some first
    first_there = slice_get-get_or readings k (0, 0) (let inside = item.0 in omega (arith, inside))

    second_there : slice_get readings (k + 1) ≡ Some second
    second_there = slice_get-get_or readings (k + 1) (0, 0) item.0

    pub first_reading : IsReading p first.0 first.1
    first_reading = are.each first.0 first.1 (Contains-get_or readings k (0, 0) (let inside = item.0 in omega (arith, inside)))

    second_reading : IsReading p first.0 second.1
    second_reading = subst (λ (n : ℕ). IsReading p n second.1) (sym item.1) (are.each second.0 second.1 (Contains-get_or readings (k + 1) (0, 0) item.0))

    pub stamps_rise : first.1 < second.1
    stamps_rise =
        let before : IsEarlierReading first second = are.rising k (k + 1) (0, 0) (omega arith) item.0 in
        elim before [
          | inl less ↦ absurd (omega (arith, less, item.1))
          | inr later ↦ later.1
        ]

    at_first : (n : ℕ) → n ≡ length p.events + k → slice_get (nodes_of p readings) n ≡ Some (nodes.Reading first.0 first.1)
    at_first n is = ap (slice_get (nodes_of p readings)) is ∙ reading_stands p readings k first first_there

    at_second : (n : ℕ) → n ≡ length p.events + k + 1 → slice_get (nodes_of p readings) n ≡ Some (nodes.Reading first.0 second.1)
    at_second n is =
        let there : n ≡ length p.events + (k + 1) = omega (arith, is) in
        ap (slice_get (nodes_of p readings)) there ∙ reading_stands p readings (k + 1) second second_there ∙ ap (λ (m : ℕ). Some (nodes.Reading m second.1)) (sym item.1)

    module _ (c : Clock) (at : ClockAt p first.0 c) (n : ℕ) (n_is : n ≡ length p.events + k) (arcs : List Arc) where
      -- the arcs of the span of this clock, whose readings have these numbers
      abbrev AreSpan : Reading → Reading → Type 0
      AreSpan a b = AreArcsOf (SpanMost a.0 a.1 b.1 ∷ SpanLeast a.0 a.1 b.1 ∷ []) (HaveNumbers n (nodes.Reading a.0 a.1) (n + 1) (nodes.Reading a.0 b.1))
          (λ q. ClockAt q a.0 c × IsReading q a.0 a.1 × IsReading q a.0 b.1) arcs

      span_among : AreSpan first second → AreBoundsAmong p (nodes_of p readings) (SpanMost first.0 first.1 second.1 ∷ SpanLeast first.0 first.1 second.1 ∷ []) arcs
      span_among made =
          among p (nodes_of p readings) (SpanMost first.0 first.1 second.1 ∷ SpanLeast first.0 first.1 second.1 ∷ []) (HaveNumbers n (nodes.Reading first.0 first.1) (n + 1) (nodes.Reading first.0 second.1))
          (λ q. ClockAt q first.0 c × IsReading q first.0 first.1 × IsReading q first.0 second.1) arcs made
          (at_first n n_is, at_second (n + 1) (ap (λ (m : ℕ). m + 1) n_is)) (at, first_reading, second_reading)

  -- ---- stamps
  module _ (e : ℕ) (v : Event) (there : EventAt p e v) (c : Clock) (at : ClockAt p v.clock c) (k : ℕ) (reading : slice_get readings k ≡ Some (v.clock, v.stamp)) (n : ℕ) (n_is : n ≡ length p.events + k) (arcs : List Arc) where
    abbrev HasStamped : ProblemLists → Type 0
    HasStamped q = (w : Event) × EventAt q e w × (w.clock ≡ v.clock) × (w.stamp ≡ v.stamp) × (w.bounds ≡ v.bounds) × ClockAt q v.clock c

    pub event_among : AreArcsOf (Late e ∷ Early e ∷ []) (HaveNumbers n (nodes.Reading v.clock v.stamp) e (nodes.Event e)) (λ q. (w : Event) × EventAt q e w × (w.clock ≡ v.clock) × (w.stamp ≡ v.stamp) × (w.bounds ≡ v.bounds) × ClockAt q v.clock c) arcs
        → AreBoundsAmong p (nodes_of p readings) (Late e ∷ Early e ∷ []) arcs
    event_among made =
        among p (nodes_of p readings) (Late e ∷ Early e ∷ []) (HaveNumbers n (nodes.Reading v.clock v.stamp) e (nodes.Event e)) HasStamped arcs made
        (ap (slice_get (nodes_of p readings)) n_is ∙ reading_stands p readings k (v.clock, v.stamp) reading, event_stands p readings e (slice_get_within p.events e v there))
        (v, there, refl, refl, refl, at)

  -- ---- follows
  module _ (c s d t gap k l : ℕ) (declares : Declares p (Follow c s d t) (gap_between c s d t gap)) (first : slice_get readings k ≡ Some (c, s)) (second : slice_get readings l ≡ Some (d, t))
      (m n : ℕ) (m_is : m ≡ length p.events + k) (n_is : n ≡ length p.events + l) (arcs : List Arc)
    where
      pub follow_among : AreArcsOf (Follow c s d t ∷ []) (HaveNumbers m (nodes.Reading c s) n (nodes.Reading d t)) (λ q. Declares q (Follow c s d t) (gap_between c s d t gap)) arcs
          → AreBoundsAmong p (nodes_of p readings) (Follow c s d t ∷ []) arcs
      follow_among made =
          among p (nodes_of p readings) (Follow c s d t ∷ []) (HaveNumbers m (nodes.Reading c s) n (nodes.Reading d t)) (λ q. Declares q (Follow c s d t) (gap_between c s d t gap)) arcs made
          (ap (slice_get (nodes_of p readings)) m_is ∙ reading_stands p readings k (c, s) first, ap (slice_get (nodes_of p readings)) n_is ∙ reading_stands p readings l (d, t) second) declares

  -- ---- delays
  module _ (lawful : IsProblem p) (m : Message) (has : Contains p.messages m) (arcs : List Arc) where
    pub message_among : AreArcsOf (message_bounds m) (HaveNumbers m.send (nodes.Event m.send) m.receive (nodes.Event m.receive)) (λ q. Contains q.messages m) arcs
        → AreBoundsAmong p (nodes_of p readings) (message_bounds m) arcs
    message_among made =
        among p (nodes_of p readings) (message_bounds m) (HaveNumbers m.send (nodes.Event m.send) m.receive (nodes.Event m.receive)) (λ q. Contains q.messages m) arcs made (
          event_stands p readings m.send (All-contains (λ (w : Message). w.send < length p.events) p.messages m lawful.formed.sends has),
          event_stands p readings m.receive (All-contains (λ (w : Message). w.receive < length p.events) p.messages m lawful.formed.receives has),
        ) has

-- the names of both bounds over a span
pub span_names : (p : ProblemLists) (readings : List Reading) (k : ℕ) (a b : Reading) → IsItem p readings (items.Span k) → a ≡ reading_at readings k → b ≡ reading_at readings (k + 1)
    → bounds_of p readings (items.Span k) ≡ SpanMost a.0 a.1 b.1 ∷ SpanLeast a.0 a.1 b.1 ∷ []
span_names p readings k a b item a_is b_is =
    ap (λ (r : Reading). neighbour_bounds r (reading_at readings (k + 1))) (sym a_is) ∙ ap (λ (r : Reading). neighbour_bounds a r) (sym b_is)
    ∙ neighbours_are a.0 b.0 a.1 b.1 (ap (λ (r : Reading). r.0) a_is ∙ item.1 ∙ ap (λ (r : Reading). r.0) (sym b_is))

-- ---- by what is at hand
module _ (p : ProblemLists) (readings : List Reading) (lawful : IsProblem p) (are : AreReadings p readings) (k : ℕ) where
  pub below_all : k < length readings → (others : List Reading) → AreReadings p others → k < length others
  below_all inside others are' = subst (λ (rs : List Reading). k < length rs) (readings_one p readings others are are') inside

  module _ (item : IsItem p readings (items.Span k)) (a b : Reading) (a_is : a ≡ reading_at readings k) (b_is : b ≡ reading_at readings (k + 1)) where
    pub clock_below : a.0 < length p.clocks
    clock_below =
        let there : (reading_at readings k).0 < length p.clocks = clock_there p (reading_at readings k).0 (reading_at readings k).1 lawful.formed (first_reading p readings are k item) in
        omega (arith, there, ap (λ (r : Reading). r.0) a_is)

    pub rising : a.1 < b.1
    rising = omega (arith, stamps_rise p readings are k item, ap (λ (r : Reading). r.1) a_is, ap (λ (r : Reading). r.1) b_is)

    module _ (c : Clock) (clocks : List Clock) (value : clocks ≡ p.clocks) (is : c ≡ get_or clocks a.0 c) (first : ℕ) (first_is : first ≡ length p.events + k) where
      at : ClockAt p (reading_at readings k).0 c
      at =
          let inside : a.0 < length clocks = subst (λ (cs : List Clock). a.0 < length cs) (sym value) clock_below in
          let here : slice_get clocks a.0 ≡ Some c = slice_get_read clocks (length clocks) a.0 c refl inside is in
          subst (λ (r : Reading). ClockAt p r.0 c) a_is (subst (λ (cs : List Clock). slice_get cs a.0 ≡ Some c) value here)

      pub span_of_item : (arcs : List Arc) → AreArcsOf (SpanMost a.0 a.1 b.1 ∷ SpanLeast a.0 a.1 b.1 ∷ []) (HaveNumbers first (nodes.Reading a.0 a.1) (first + 1) (nodes.Reading a.0 b.1))
          (λ q. ClockAt q a.0 c × IsReading q a.0 a.1 × IsReading q a.0 b.1) arcs → AreBoundsAmong p (nodes_of p readings) (bounds_of p readings (items.Span k)) arcs
      span_of_item arcs made =
          let r : Reading = reading_at readings k in
          let moved : AreSpan p readings are k item c at first first_is arcs r (reading_at readings (k + 1)) =
          subst (AreSpan p readings are k item c at first first_is arcs r) b_is (subst (λ (x : Reading). AreSpan p readings are k item c at first first_is arcs x b) a_is made) in
          subst (λ (bs : List Bound). AreBoundsAmong p (nodes_of p readings) bs arcs) (sym (span_names p readings k r (reading_at readings (k + 1)) item refl refl))
          (span_among p readings are k item c at first first_is arcs moved)
