-- Arcs of withdrawn messages are out of force.
use Rattle.std.proofs.Common.{◌≡◌, ◌<◌, ℕ, zero, suc, Bool, true, List, [], ◌∷◌, ◌++◌, length, slice_get, Some, Contains, refl, sym, ◌∙◌, ap, subst, arith, inl, inr}
use Rattle.std.specs.Prelude.{nat_lt}
use Rattle.std.proofs.lemmas.Bool.Decides.{nat_tests}
use Rattle.std.proofs.lemmas.List.Elements.{Contains-append_left}
use Rattle.std.proofs.lemmas.Option.{none-some, slice_get_within}
use Rattle.problem_model.specs.declared.items.Clock.{Clock}
use Rattle.problem_model.specs.declared.items.Event.{Event}
use Rattle.problem_model.specs.declared.items.Message.{Message}
use Rattle.problem_model.specs.declared.items.Node.{Node}
use Rattle.problem_model.specs.declared.items.Node.TheVariants as nodes
use Rattle.problem_model.specs.declared.items.Bound.{Bound}
use Rattle.problem_model.specs.declared.items.Bound.TheVariants as bounds
use Rattle.problem_model.specs.declared.items.Bound.TheVariants.{SpanMost, SpanLeast, Late, Early, DelayMost, DelayLeast}
use Rattle.problem_model.specs.Problem.{ProblemLists}
use Rattle.problem_model.specs.Bounds.{Constraint, Declares, EventAt, ClockAt, IsReading}
use Rattle.sync_graph.specs.Graph.{GraphLists}
use Rattle.traces.proofs.Members.{none_in}
use Rattle.roster.specs.Entered.{HasEntered, IsReadingOf, IsEnteredNode, AreNeighbours, AreLinked, IsMessageOf, IsDue, all_events, events_below}
use Rattle.roster.specs.Growing.{IsGrownTo}
use Rattle.roster.specs.Withdrawing.{IsMore, IsDelayOf, Withdraws}
use Rattle.roster.proofs.Leading.{follow_over, after_over}

front : {X : Type 0} (xs ys : List X) (k : ℕ) (x : X) → slice_get xs k ≡ Some x → slice_get (xs ++ ys) k ≡ Some x
front [] ys k x at = absurd (none-some x at)
front (a ∷ xs) ys zero x at = at
front (a ∷ xs) ys (suc k) x at = front xs ys k x at

in_front : {X : Type 0} (xs ys : List X) (k : ℕ) (x : X) → slice_get (xs ++ ys) k ≡ Some x → k < length xs → slice_get xs k ≡ Some x
in_front [] ys k x at inside = absurd (omega (arith, inside))
in_front (a ∷ xs) ys zero x at inside = at
in_front (a ∷ xs) ys (suc k) x at inside = in_front xs ys k x at (omega (arith, inside))

is_below : (v n : ℕ) → v < n → nat_lt v n ≡ true
is_below v n less = grind (arith, nat_tests)

below_is : (v n : ℕ) → nat_lt v n ≡ true → v < n
below_is v n is = grind (arith, nat_tests)

module _ (before after : ProblemLists) (withdrawn : List Message) (more : IsMore before after withdrawn) where
  abbrev old : ℕ → Bool
  old = events_below (length before.events)

  event_after : (v : ℕ) (e : Event) → EventAt before v e → EventAt after v e
  event_after v e at = subst (λ (es : List Event). slice_get es v ≡ Some e) (sym more.events) (front before.events more.more v e at)

  event_before : (v : ℕ) (e : Event) → EventAt after v e → old v ≡ true → EventAt before v e
  event_before v e at is_old = in_front before.events more.more v e (subst (λ (es : List Event). slice_get es v ≡ Some e) more.events at) (below_is v (length before.events) is_old)

  read_after : (clock stamp : ℕ) → IsReading before clock stamp → IsReading after clock stamp
  read_after clock stamp (e, among, on, is) = (e, subst (λ (es : List Event). Contains es e) (sym more.events) (Contains-append_left before.events more.more e among), on, is)

  clock_after : (k : ℕ) (c : Clock) → ClockAt before k c → ClockAt after k c
  clock_after k c at = subst (λ (cs : List Clock). slice_get cs k ≡ Some c) (sym more.clocks) at

  declared_after : (b : Bound) (c : Constraint) → Declares before b c → (IsDelayOf withdrawn b → ⊥) → Declares after b c
  declared_after (SpanMost clock s t) c (k, at, first, second, less, is) stays = (k, clock_after clock k at, read_after clock s first, read_after clock t second, less, is)
  declared_after (SpanLeast clock s t) c (k, at, first, second, less, is) stays = (k, clock_after clock k at, read_after clock s first, read_after clock t second, less, is)
  declared_after (Late e) c (v, k, at, on, is) stays = (v, k, event_after e v at, clock_after v.clock k on, is)
  declared_after (Early e) c (v, k, at, on, is) stays = (v, k, event_after e v at, clock_after v.clock k on, is)
  declared_after (bounds.Follow b s d t) c (f, among, later, comes, first, second, is) stays =
      (f, follow_over before after (sym more.follows) f among, later, after_over before after (sym more.follows) b d comes, read_after b s first, read_after d t second, is)
  declared_after (DelayMost send receive) c (m, most, among, from, to, most_is, is) stays = elim (more.messages.kept m among) [
    | inl has ↦ (m, most, has, from, to, most_is, is)
    | inr went ↦ absurd (stays (m, went, from, to))
  ]
  declared_after (DelayLeast send receive) c (m, among, from, to, is) stays = elim (more.messages.kept m among) [
    | inl has ↦ (m, has, from, to, is)
    | inr went ↦ absurd (stays (m, went, from, to))
  ]

  entered_after : (v : ℕ) (e : Event) → HasEntered before all_events v e → HasEntered after old v e
  entered_after v e has = (event_after v e has.0, is_below v (length before.events) (slice_get_within before.events v e has.0))

  entered_before : (v : ℕ) (e : Event) → HasEntered after old v e → HasEntered before all_events v e
  entered_before v e has = (event_before v e has.0 has.1, refl)

  reading_after : (clock stamp : ℕ) → IsReadingOf before all_events clock stamp → IsReadingOf after old clock stamp
  reading_after clock stamp (v, e, has, on, is) = (v, e, entered_after v e has, on, is)

  reading_before : (clock stamp : ℕ) → IsReadingOf after old clock stamp → IsReadingOf before all_events clock stamp
  reading_before clock stamp (v, e, has, on, is) = (v, e, entered_before v e has, on, is)

  node_after : (n : Node) → IsEnteredNode before all_events n → IsEnteredNode after old n
  node_after (nodes.Event v) (e, has) = (e, entered_after v e has)
  node_after (nodes.Reading clock stamp) is = reading_after clock stamp is

  node_before : (n : Node) → IsEnteredNode after old n → IsEnteredNode before all_events n
  node_before (nodes.Event v) (e, has) = (e, entered_before v e has)
  node_before (nodes.Reading clock stamp) is = reading_before clock stamp is

  neighbours_before : (clock s t : ℕ) → AreNeighbours after old clock s t → AreNeighbours before all_events clock s t
  neighbours_before clock s t are = record {
    first = reading_before clock s are.first;
    second = reading_before clock t are.second;
    rising = are.rising;
    none = λ u read. are.none u (reading_after clock u read);
  }

  linked_before : (c s d t : ℕ) → AreLinked after old c s d t → AreLinked before all_events c s d t
  linked_before c s d t are = record {
    comes = after_over after before more.follows c d are.comes;
    nearest = λ b u comes read. elim (are.nearest b u (after_over before after (sym more.follows) b d comes) (reading_after b u read)) [
      | inl same ↦ inl same
      | inr further ↦ inr (after_over after before more.follows b c further)
    ];
    last = reading_before c s are.last;
    none_after = λ u read. are.none_after u (reading_after c u read);
    first = reading_before d t are.first;
    none_before = λ u read. are.none_before u (reading_after d u read);
  }

  message_before : (send receive : ℕ) (m : Message) → IsMessageOf after old send receive m → IsMessageOf before all_events send receive m
  message_before send receive m is =
      let from : m.send < length before.events = below_is m.send (length before.events) (ap old is.send_is ∙ is.send_in) in
      let to : m.receive < length before.events = below_is m.receive (length before.events) (ap old is.receive_is ∙ is.receive_in) in
      record { among = more.messages.none m is.among from to; send_is = is.send_is; receive_is = is.receive_is; send_in = refl; receive_in = refl }

  due_before : (b : Bound) → IsDue after old b → IsDue before all_events b
  due_before (SpanMost clock s t) due = neighbours_before clock s t due
  due_before (SpanLeast clock s t) due = neighbours_before clock s t due
  due_before (Late v) (e, has) = (e, entered_before v e has)
  due_before (Early v) (e, has) = (e, entered_before v e has)
  due_before (bounds.Follow c s d t) due = linked_before c s d t due
  due_before (DelayMost send receive) (m, most, is, most_is) = (m, most, message_before send receive m is, most_is)
  due_before (DelayLeast send receive) (m, is) = (m, message_before send receive m is)

  not_gone : (b : Bound) → IsDue after old b → IsDelayOf withdrawn b → ⊥
  not_gone (SpanMost clock s t) due went = went
  not_gone (SpanLeast clock s t) due went = went
  not_gone (Late v) due went = went
  not_gone (Early v) due went = went
  not_gone (bounds.Follow c s d t) due went = went
  not_gone (DelayMost send receive) (m, most, is, most_is) (n, among, from, to) = more.messages.gone n m among is.among (is.send_is ∙ sym from) (is.receive_is ∙ sym to)
  not_gone (DelayLeast send receive) (m, is) (n, among, from, to) = more.messages.gone n m among is.among (is.send_is ∙ sym from) (is.receive_is ∙ sym to)

  module _ (g h : GraphLists) (went : Withdraws withdrawn g h) (grown : IsGrownTo before all_events g) where
    pub grown_after : IsGrownTo after (events_below (length before.events)) h
    grown_after = record {
      nodes = λ n (k, at). node_after n (grown.nodes n (k, subst (λ (ns : List Node). slice_get ns k ≡ Some n) went.nodes at));
      every_node = λ n is. (let has = grown.every_node n (node_before n is) in (has.0, subst (λ (ns : List Node). slice_get ns has.0 ≡ Some n) (sym went.nodes) has.1));
      each = λ a force. (
          let b = grown.each a (went.each a force) in (
            b.0,
            declared_after a.name b.0 b.1 (went.gone a force),
            subst (λ (ns : List Node). slice_get ns a.from ≡ Some b.0.from) (sym went.nodes) b.2,
            subst (λ (ns : List Node). slice_get ns a.to ≡ Some b.0.to) (sym went.nodes) b.3,
            b.4,
          ));
      every = λ b due. elim (grown.every b (due_before b due)) [
        | inl none ↦ absurd (none_in b none)
        | inr (a, force, name) ↦ elim (went.every a force) [
          | inl delay ↦ absurd (not_gone b due (subst (IsDelayOf withdrawn) name delay))
          | inr stays ↦ inr (a, stays, name)
        ]
      ];
    }
