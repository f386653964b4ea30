-- A problem with its events by number, and the same with its events by place.
use Rattle.std.proofs.Common.{◌≡◌, ℕ, List, length, map, slice_get, Some, Contains, refl, sym, ◌∙◌, ap, subst, arith, inl, inr}
use Rattle.std.specs.Prelude.{neg_ℤ, pos, ◌*◌}
use Rattle.std.proofs.lemmas.List.{length-map}
use Rattle.std.proofs.lemmas.Option.{slice_get_within, same_Some}
use Rattle.problem_model.specs.declared.items.Clock.{Clock}
use Rattle.problem_model.specs.declared.items.Event.{Event}
use Rattle.problem_model.specs.declared.items.Message.{Message}
use Rattle.problem_model.specs.declared.items.Node.{Node}
use Rattle.problem_model.specs.declared.items.Node.TheVariants as nodes
use Rattle.problem_model.specs.declared.items.Bound.{Bound}
use Rattle.problem_model.specs.declared.items.Bound.TheVariants as bounds
use Rattle.problem_model.specs.declared.items.Bound.TheVariants.{SpanMost, SpanLeast, Late, Early, DelayMost, DelayLeast}
use Rattle.problem_model.specs.Problem.{ProblemLists}
use Rattle.problem_model.specs.Bounds.{Constraint, Declares, EventAt, ClockAt, IsReading}
use Rattle.problem_model.specs.Nodes.{Reading}
use Rattle.problem.specs.Listing.{Listed, name_at}
use Rattle.problem.proofs.ListedNodes.{map_at}
use Rattle.problem_graph.specs.ListedProblem.{IsListedBy, StandsAt, IsCarried}
use Rattle.traces.proofs.Lists.{got}
use Rattle.roster.specs.Entered.{IsReadingOf, AreNeighbours, AreLinked, IsDue, all_events}
use Rattle.roster.specs.ByNumber.{IsByNumber, IsCarriedMessage}
use Rattle.roster.proofs.Leading.{follow_over, after_over}
use Rattle.roster.proofs.DueShort.{read_all, all_read}
use Rattle.roster.proofs.Counting.{one_place}

-- the same node, with events by number and by place
abbrev pub SameNode : Listed → Node → Node → Type 0
SameNode l (nodes.Event v) n = (place : ℕ) × StandsAt l v place × (n ≡ nodes.Event place)
SameNode l (nodes.Reading clock stamp) n = n ≡ nodes.Reading clock stamp

-- the second problem declares the bound between the same nodes
abbrev pub DeclaresSame : Listed → ProblemLists → Constraint → Bound → Type 0
DeclaresSame l q c b = (k : Constraint) × Declares q b k × SameNode l c.from k.from × SameNode l c.to k.to × (k.weight ≡ c.weight)

module _ (l : Listed) (p q : ProblemLists) (readings : List Reading) (listed : IsListedBy l q readings) (by : IsByNumber l p q) where
  pub events_many : length l.events ≡ length q.events
  events_many = omega (arith, ap length listed.events, length-map l.events (λ (e : ℕ × ℕ). name_at l.event_names e.0), length-map q.events (λ (e : Event). e.name))

  -- the number of the event at a place
  pub number_at : (place : ℕ) (e : Event) → EventAt q place e → (v : ℕ) × StandsAt l v place × EventAt p v e
  number_at place e at =
      let inside = slice_get_within q.events place e at in
      let x = got l.events place (omega (arith, inside, events_many)) in
      let stands : StandsAt l x.0.0 place = (x.0.1, x.1) in
      let own = by.numbered x.0.0 place stands in
      let same : own.0 ≡ e = same_Some own.0 e (sym (by.placed x.0.0 place own.0 stands own.1) ∙ at) in
      (x.0.0, stands, subst (EventAt p x.0.0) same own.1)

  pub one_place_of : (v j k : ℕ) → StandsAt l v j → StandsAt l v k → j ≡ k
  one_place_of v j k (m, at) (n, at') =
      one_place (map {A = ℕ × ℕ} (λ e. e.0) l.events) j k v by.numbers_differ (map_at {X = ℕ × ℕ} (λ e. e.0) l.events j (v, m) at) (map_at {X = ℕ × ℕ} (λ e. e.0) l.events k (v, n) at')

  -- ---- readings
  pub read_by_place : (clock stamp : ℕ) → IsReadingOf p all_events clock stamp → IsReadingOf q all_events clock stamp
  read_by_place clock stamp (v, e, has, on, is) = let place = by.every_event v e has.0 in (place.0, e, (by.placed v place.0 e place.1 has.0, refl), on, is)

  pub read_by_number : (clock stamp : ℕ) → IsReadingOf q all_events clock stamp → IsReadingOf p all_events clock stamp
  read_by_number clock stamp (k, e, has, on, is) = let v = number_at k e has.0 in (v.0, e, (v.2, refl), on, is)

  read_there : (clock stamp : ℕ) → IsReading p clock stamp → IsReading q clock stamp
  read_there clock stamp read = all_read q clock stamp (read_by_place clock stamp (read_all p clock stamp read))

  neighbours_by_number : (clock s t : ℕ) → AreNeighbours q all_events clock s t → AreNeighbours p all_events clock s t
  neighbours_by_number clock s t are = record {
    first = read_by_number clock s are.first;
    second = read_by_number clock t are.second;
    rising = are.rising;
    none = λ u read. are.none u (read_by_place clock u read);
  }

  linked_by_number : (c s d t : ℕ) → AreLinked q all_events c s d t → AreLinked p all_events c s d t
  linked_by_number c s d t are = record {
    comes = after_over q p by.follows c d are.comes;
    nearest = λ b u after read. elim (are.nearest b u (after_over p q (sym by.follows) b d after) (read_by_place b u read)) [ inl same ↦ inl same | inr before ↦ inr (after_over q p by.follows b c before) ];
    last = read_by_number c s are.last;
    none_after = λ u read. are.none_after u (read_by_place c u read);
    first = read_by_number d t are.first;
    none_before = λ u read. are.none_before u (read_by_place d u read);
  }

  -- ---- what is due
  pub due_by_number : (b : Bound) → IsDue q all_events b → (a : Bound) × IsCarried l a b × IsDue p all_events a
  due_by_number (SpanMost clock s t) due = (SpanMost clock s t, refl, neighbours_by_number clock s t due)
  due_by_number (SpanLeast clock s t) due = (SpanLeast clock s t, refl, neighbours_by_number clock s t due)
  due_by_number (Late place) (e, has) = let v = number_at place e has.0 in (Late v.0, (place, v.1, refl), (e, (v.2, refl)))
  due_by_number (Early place) (e, has) = let v = number_at place e has.0 in (Early v.0, (place, v.1, refl), (e, (v.2, refl)))
  due_by_number (bounds.Follow c s d t) due = (bounds.Follow c s d t, refl, linked_by_number c s d t due)
  due_by_number (DelayMost send receive) (n, most, is, most_is) =
      let m = by.messages.back n is.among in
      let c = m.2 in (
        DelayMost m.0.send m.0.receive,
        (send, receive, subst (StandsAt l m.0.send) is.send_is c.send, subst (StandsAt l m.0.receive) is.receive_is c.receive, refl),
        (m.0, most, record { among = m.1; send_is = refl; receive_is = refl; send_in = refl; receive_in = refl }, sym c.most ∙ most_is),
      )
  due_by_number (DelayLeast send receive) (n, is) =
      let m = by.messages.back n is.among in
      let c = m.2 in (
        DelayLeast m.0.send m.0.receive,
        (send, receive, subst (StandsAt l m.0.send) is.send_is c.send, subst (StandsAt l m.0.receive) is.receive_is c.receive, refl),
        (m.0, record { among = m.1; send_is = refl; receive_is = refl; send_in = refl; receive_in = refl }),
      )

  -- ---- what is declared
  clock_there : (k : ℕ) (c : Clock) → ClockAt p k c → ClockAt q k c
  clock_there k c at = subst (λ (cs : List Clock). slice_get cs k ≡ Some c) (sym by.clocks) at

  message_there : (m : Message) (j k : ℕ) → Contains p.messages m → StandsAt l m.send j → StandsAt l m.receive k → (n : Message) × Contains q.messages n × IsCarriedMessage l m n × (n.send ≡ j) × (n.receive ≡ k)
  message_there m j k among from to =
      let n = by.messages.forth m among in
      (n.0, n.1, n.2, one_place_of m.send n.0.send j n.2.send from, one_place_of m.receive n.0.receive k n.2.receive to)

  pub carried : (b : Bound) (c : Constraint) → Declares p b c → (a : Bound) × IsCarried l b a
  carried (SpanMost clock s t) c d = (SpanMost clock s t, refl)
  carried (SpanLeast clock s t) c d = (SpanLeast clock s t, refl)
  carried (Late v) c (e, k, at, on, is) = let place = by.every_event v e at in (Late place.0, (place.0, place.1, refl))
  carried (Early v) c (e, k, at, on, is) = let place = by.every_event v e at in (Early place.0, (place.0, place.1, refl))
  carried (bounds.Follow b s d t) c d' = (bounds.Follow b s d t, refl)
  carried (DelayMost send receive) c (m, most, among, from, to, most_is, is) =
      let n = by.messages.forth m among in
      (DelayMost n.0.send n.0.receive, (n.0.send, n.0.receive, subst (λ (v : ℕ). StandsAt l v n.0.send) from n.2.send, subst (λ (v : ℕ). StandsAt l v n.0.receive) to n.2.receive, refl))
  carried (DelayLeast send receive) c (m, among, from, to, is) =
      let n = by.messages.forth m among in
      (DelayLeast n.0.send n.0.receive, (n.0.send, n.0.receive, subst (λ (v : ℕ). StandsAt l v n.0.send) from n.2.send, subst (λ (v : ℕ). StandsAt l v n.0.receive) to n.2.receive, refl))

  as_declared : (b : Bound) (c k : Constraint) → c ≡ k → DeclaresSame l q k b → DeclaresSame l q c b
  as_declared b c k is same = subst (λ (x : Constraint). DeclaresSame l q x b) (sym is) same

  pub declares_there : (b a : Bound) (c : Constraint) → IsCarried l b a → Declares p b c → DeclaresSame l q c a
  declares_there (SpanMost clock s t) a c same (k, at, first, second, less, is) =
      subst (DeclaresSame l q c) (sym same) (as_declared (SpanMost clock s t) c _ is (_, (k, clock_there clock k at, read_there clock s first, read_there clock t second, less, refl), refl, refl, refl))
  declares_there (SpanLeast clock s t) a c same (k, at, first, second, less, is) =
      subst (DeclaresSame l q c) (sym same) (as_declared (SpanLeast clock s t) c _ is (_, (k, clock_there clock k at, read_there clock s first, read_there clock t second, less, refl), refl, refl, refl))
  declares_there (Late v) a c (place, stands, same) (e, k, at, on, is) =
      subst (DeclaresSame l q c) (sym same) (as_declared (Late place) c _ is (_, (e, k, by.placed v place e stands at, clock_there e.clock k on, refl), refl, (place, stands, refl), refl))
  declares_there (Early v) a c (place, stands, same) (e, k, at, on, is) =
      subst (DeclaresSame l q c) (sym same) (as_declared (Early place) c _ is (_, (e, k, by.placed v place e stands at, clock_there e.clock k on, refl), (place, stands, refl), refl, refl))
  declares_there (bounds.Follow b s d t) a c same (f, among, later, comes, first, second, is) =
      let there' = sym by.follows in
      subst (DeclaresSame l q c) (sym same) (as_declared (bounds.Follow b s d t) c _ is (_, (f, follow_over p q there' f among, later, after_over p q there' b d comes, read_there b s first, read_there d t second, refl), refl, refl, refl))
  declares_there (DelayMost send receive) a c (j, k, from, to, same) (m, most, among, send_is, receive_is, most_is, is) =
      let n = message_there m j k among (subst (λ (v : ℕ). StandsAt l v j) (sym send_is) from) (subst (λ (v : ℕ). StandsAt l v k) (sym receive_is) to) in
      subst (DeclaresSame l q c) (sym same) (as_declared (DelayMost j k) c _ is (_, (n.0, most, n.1, n.3, n.4, n.2.most ∙ most_is, refl), (j, from, refl), (k, to, refl), refl))
  declares_there (DelayLeast send receive) a c (j, k, from, to, same) (m, among, send_is, receive_is, is) =
      let n = message_there m j k among (subst (λ (v : ℕ). StandsAt l v j) (sym send_is) from) (subst (λ (v : ℕ). StandsAt l v k) (sym receive_is) to) in
      subst (DeclaresSame l q c) (sym same)
      (as_declared (DelayLeast j k) c _ is (_, (n.0, n.1, n.3, n.4, refl), (k, to, refl), (j, from, refl), ap (λ (w : ℕ). neg_ℤ (pos (w * 1000000000))) n.2.least))
