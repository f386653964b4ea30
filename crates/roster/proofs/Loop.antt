-- Where a growing graph begins, how nodes come, and which flags are told apart.
use Rattle.std.proofs.Common.{◌≡◌, ◌⊎◌, ◌<◌, ℕ, Bool, false, zero, suc, List, [], ◌∷◌, ◌++◌, length, slice_get, get_or, Some, Contains, All, refl, sym, ◌∙◌, subst, arith, inl, inr}
use Rattle.std.proofs.lemmas.List.{get_or_past}
use Rattle.std.proofs.lemmas.List.Elements.{All-contains}
use Rattle.std.proofs.lemmas.Option.{none-some, same_Some, slice_get_within}
use Rattle.problem_model.specs.declared.items.Event.{Event}
use Rattle.problem_model.specs.declared.items.Message.{Message}
use Rattle.problem_model.specs.declared.items.Node.{Node}
use Rattle.problem_model.specs.declared.items.Node.TheVariants as nodes
use Rattle.problem_model.specs.declared.items.Bound.{Bound}
use Rattle.problem_model.specs.declared.items.Bound.TheVariants as bounds
use Rattle.problem_model.specs.declared.items.Bound.TheVariants.{SpanMost, SpanLeast, Late, Early, DelayMost, DelayLeast}
use Rattle.problem_model.specs.Problem.{ProblemLists}
use Rattle.problem_model.specs.Bounds.{EventAt}
use Rattle.sync_graph.specs.Graph.{GraphLists, no_graph, with_node}
use Rattle.problem_graph.specs.Standing.{HasNode}
use Rattle.traces.proofs.Members.{none_in, no_pairs}
use Rattle.roster.proofs.Pushing.{get_left, get_right, get_cases}
use Rattle.roster.specs.Entered.{HasEntered, IsReadingOf, IsEnteredNode, AreNeighbours, AreLinked, IsMessageOf, IsDue, all_events}
use Rattle.roster.specs.Growing.{IsGrowing, IsGrownTo}
use Rattle.roster.specs.Entering.{Enters}
use Rattle.roster.specs.Once.{IsOn, HasEachOnce}

-- ---- nothing yet
none_on : (k : ℕ) → IsOn no_graph k → ⊥
none_on k on = let none : List Bool = [] in let off : get_or none k false ≡ false = get_or_past none k false (omega arith) in absurd (cc)

module _ (p : ProblemLists) (no_events : p.events ≡ []) (no_messages : p.messages ≡ []) where
  no_event : (v : ℕ) (e : Event) → EventAt p v e → ⊥
  no_event v e at = none-some e (subst (λ (es : List Event). slice_get es v ≡ Some e) no_events at)

  no_message : (m : Message) → Contains p.messages m → ⊥
  no_message m among = none_in m (subst (λ (ms : List Message). Contains ms m) no_messages among)

  no_node : (n : Node) → IsEnteredNode p all_events n → ⊥
  no_node (nodes.Event v) (e, has) = no_event v e has.0
  no_node (nodes.Reading clock stamp) (v, e, has, on, is) = no_event v e has.0

  none_due : (b : Bound) → IsDue p all_events b → ⊥
  none_due (SpanMost clock s t) due = no_node (nodes.Reading clock s) due.first
  none_due (SpanLeast clock s t) due = no_node (nodes.Reading clock s) due.first
  none_due (Late v) (e, has) = no_event v e has.0
  none_due (Early v) (e, has) = no_event v e has.0
  none_due (bounds.Follow c s d t) due = no_node (nodes.Reading c s) due.last
  none_due (DelayMost send receive) (m, most, is, most_is) = no_message m is.among
  none_due (DelayLeast send receive) (m, is) = no_message m is.among

  pub nothing_grown : IsGrownTo p all_events no_graph × HasEachOnce [] no_graph
  nothing_grown = (
    record {
      nodes = λ n (k, at). absurd (none-some n at);
      every_node = λ n is. absurd (no_node n is);
      each = λ a (k, on, is). absurd (none_on k on);
      every = λ b due. absurd (none_due b due);
    },
    record {
      once = λ j k on_j on_k same. absurd (none_on j on_j);
      left_out = λ b among has. none_in b among;
      left_differ = no_pairs (λ (a b : Bound). (a ≡ b → ⊥));
    },
  )

-- ---- flags that say the same of each event
module _ (p : ProblemLists) (one other : ℕ → Bool) (alike : (v : ℕ) → v < length p.events → one v ≡ other v) (sends : All (λ (m : Message). m.send < length p.events) p.messages) (receives : All (λ (m : Message). m.receive < length p.events) p.messages) where
  entered_there : (v : ℕ) (e : Event) → HasEntered p one v e → HasEntered p other v e
  entered_there v e has = (has.0, sym (alike v (slice_get_within p.events v e has.0)) ∙ has.1)

  entered_back : (v : ℕ) (e : Event) → HasEntered p other v e → HasEntered p one v e
  entered_back v e has = (has.0, alike v (slice_get_within p.events v e has.0) ∙ has.1)

  read_there : (clock stamp : ℕ) → IsReadingOf p one clock stamp → IsReadingOf p other clock stamp
  read_there clock stamp (v, e, has, on, is) = (v, e, entered_there v e has, on, is)

  read_back : (clock stamp : ℕ) → IsReadingOf p other clock stamp → IsReadingOf p one clock stamp
  read_back clock stamp (v, e, has, on, is) = (v, e, entered_back v e has, on, is)

  node_there : (n : Node) → IsEnteredNode p one n → IsEnteredNode p other n
  node_there (nodes.Event v) (e, has) = (e, entered_there v e has)
  node_there (nodes.Reading clock stamp) is = read_there clock stamp is

  node_back : (n : Node) → IsEnteredNode p other n → IsEnteredNode p one n
  node_back (nodes.Event v) (e, has) = (e, entered_back v e has)
  node_back (nodes.Reading clock stamp) is = read_back clock stamp is

  neighbours_back : (clock s t : ℕ) → AreNeighbours p other clock s t → AreNeighbours p one clock s t
  neighbours_back clock s t are = record { first = read_back clock s are.first; second = read_back clock t are.second; rising = are.rising; none = λ u read. are.none u (read_there clock u read) }

  linked_back : (c s d t : ℕ) → AreLinked p other c s d t → AreLinked p one c s d t
  linked_back c s d t are = record {
    comes = are.comes;
    nearest = λ b u after read. are.nearest b u after (read_there b u read);
    last = read_back c s are.last;
    none_after = λ u read. are.none_after u (read_there c u read);
    first = read_back d t are.first;
    none_before = λ u read. are.none_before u (read_there d u read);
  }

  message_back : (send receive : ℕ) (m : Message) → IsMessageOf p other send receive m → IsMessageOf p one send receive m
  message_back send receive m is =
      let from : send < length p.events = subst (λ (v : ℕ). v < length p.events) is.send_is (All-contains (λ (n : Message). n.send < length p.events) p.messages m sends is.among) in
      let to : receive < length p.events = subst (λ (v : ℕ). v < length p.events) is.receive_is (All-contains (λ (n : Message). n.receive < length p.events) p.messages m receives is.among) in
      record { among = is.among; send_is = is.send_is; receive_is = is.receive_is; send_in = alike send from ∙ is.send_in; receive_in = alike receive to ∙ is.receive_in }

  due_back : (b : Bound) → IsDue p other b → IsDue p one b
  due_back (SpanMost clock s t) due = neighbours_back clock s t due
  due_back (SpanLeast clock s t) due = neighbours_back clock s t due
  due_back (Late v) (e, has) = (e, entered_back v e has)
  due_back (Early v) (e, has) = (e, entered_back v e has)
  due_back (bounds.Follow c s d t) due = linked_back c s d t due
  due_back (DelayMost send receive) (m, most, is, most_is) = (m, most, message_back send receive m is, most_is)
  due_back (DelayLeast send receive) (m, is) = (m, message_back send receive m is)

  pub grown_alike : (left : List Bound) (g : GraphLists) → IsGrowing p one left g → IsGrowing p other left g
  grown_alike left g grown = record {
    nodes = λ n has. node_there n (grown.nodes n has);
    every_node = λ n is. grown.every_node n (node_back n is);
    each = grown.each;
    every = λ b due. grown.every b (due_back b due);
  }

-- ---- nodes that come
last_node : (xs : List Node) (n : Node) → (k : ℕ) × (slice_get (xs ++ n ∷ []) k ≡ Some n)
last_node xs n = (length xs, get_right xs (n ∷ []) (length xs) 0 (omega arith))

of_nodes : (xs : List Node) (n m : Node) (k : ℕ) → slice_get (xs ++ n ∷ []) k ≡ Some m → ((j : ℕ) × (slice_get xs j ≡ Some m)) ⊎ (m ≡ n)
of_nodes xs n m k at = elim (get_cases xs (n ∷ []) k m at) [
  | inl before ↦ inl (k, before)
  | inr (j, is, there') ↦ inr (only j there')
]
  where
    only : (j : ℕ) → slice_get (n ∷ []) j ≡ Some m → m ≡ n
    only zero at' = sym (same_Some n m at')
    only (suc j) at' = absurd (none-some m at')

pub event_enters : (v : ℕ) (e : Event) (g : GraphLists) → HasNode g (nodes.Reading e.clock e.stamp) → Enters v e g (with_node g (nodes.Event v))
event_enters v e g known = record {
  kept = λ k n at. get_left g.nodes (nodes.Event v ∷ []) k n at;
  only = λ n (k, at). elim (of_nodes g.nodes (nodes.Event v) n k at) [ inl old ↦ inl old | inr is ↦ inr (inl is) ];
  event = last_node g.nodes (nodes.Event v);
  reading = (known.0, get_left g.nodes (nodes.Event v ∷ []) known.0 (nodes.Reading e.clock e.stamp) known.1);
  arcs = refl;
  in_force = refl;
}

pub both_enter : (v : ℕ) (e : Event) (g : GraphLists) → Enters v e g (with_node (with_node g (nodes.Event v)) (nodes.Reading e.clock e.stamp))
both_enter v e g =
    let first : List Node = g.nodes ++ nodes.Event v ∷ [] in
    let r : Node = nodes.Reading e.clock e.stamp in
    let own = last_node g.nodes (nodes.Event v) in
    record {
      kept = λ k n at. get_left first (r ∷ []) k n (get_left g.nodes (nodes.Event v ∷ []) k n at);
      only = λ n (k, at). elim (of_nodes first r n k at) [
        | inl (j, old) ↦ elim (of_nodes g.nodes (nodes.Event v) n j old) [ inl there' ↦ inl there' | inr is ↦ inr (inl is) ]
        | inr is ↦ inr (inr is)
      ];
      event = (own.0, get_left first (r ∷ []) own.0 (nodes.Event v) own.1);
      reading = last_node first r;
      arcs = refl;
      in_force = refl;
    }
