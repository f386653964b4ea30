-- A graph of a problem with other messages.
use Rattle.std.proofs.Common.{◌≡◌, ◌≢◌, ◌⊎◌, ℕ, Bool, List, [], ◌∷◌, ◌++◌, Option, Some, None, Contains, All, AllPairs, refl, ◌∙◌, subst, inl, inr}
use Rattle.std.proofs.lemmas.List.Elements.{All-append, All-cons, All-nil, All-contains, Contains-append_left, Contains-append_right}
use Rattle.std.proofs.lemmas.List.Kept.{AllPairs-cons}
use Rattle.problem_model.specs.declared.items.Clock.{Clock}
use Rattle.problem_model.specs.declared.items.Event.{Event}
use Rattle.problem_model.specs.declared.items.Follow.{Follow}
use Rattle.problem_model.specs.declared.items.Message.{Message}
use Rattle.problem_model.specs.declared.items.Node.{Node}
use Rattle.problem_model.specs.declared.items.Node.TheVariants as nodes
use Rattle.problem_model.specs.declared.items.Bound.{Bound}
use Rattle.problem_model.specs.declared.items.Bound.TheVariants as bounds
use Rattle.problem_model.specs.declared.items.Bound.TheVariants.{SpanMost, SpanLeast, Late, Early, DelayMost, DelayLeast}
use Rattle.problem_model.specs.Problem.{ProblemLists}
use Rattle.problem_model.specs.Bounds.{Constraint, Declares}
use Rattle.problem_model.specs.ShortList.{message_bounds, most_bound}
use Rattle.sync_graph.specs.Graph.{GraphLists}
use Rattle.traces.proofs.Members.{here, none_in, no_pairs}
use Rattle.roster.specs.Entered.{IsEnteredNode, IsDue}
use Rattle.roster.specs.Growing.{IsGrowing, IsGrownTo, HasBound}
use Rattle.roster.specs.Once.{HasEachOnce}
use Rattle.roster.proofs.Leading.{after_over}

-- ---- the bounds of a message
most_has : (m : Message) (o : Option ℕ) (w : ℕ) → o ≡ Some w → Contains (most_bound m o) (DelayMost m.send m.receive)
most_has m None w is = absurd (cc)
most_has m (Some n) w is = here (DelayMost m.send m.receive) []

pub most_in : (m : Message) (w : ℕ) → m.most ≡ Some w → Contains (message_bounds m) (DelayMost m.send m.receive)
most_in m w is = Contains-append_left (most_bound m m.most) (DelayLeast m.send m.receive ∷ []) (DelayMost m.send m.receive) (most_has m m.most w is)

pub least_in : (m : Message) → Contains (message_bounds m) (DelayLeast m.send m.receive)
least_in m = Contains-append_right (most_bound m m.most) (DelayLeast m.send m.receive ∷ []) (DelayLeast m.send m.receive) (here (DelayLeast m.send m.receive) [])

-- a bound on the delay of a message
abbrev pub OfMessage : Message → Bound → Type 0
OfMessage m b = (b ≡ DelayMost m.send m.receive) ⊎ (b ≡ DelayLeast m.send m.receive)

own_most : (m : Message) (o : Option ℕ) → All (OfMessage m) (most_bound m o)
own_most m None = All-nil (OfMessage m)
own_most m (Some n) = All-cons (OfMessage m) (DelayMost m.send m.receive) [] (inl refl) (All-nil (OfMessage m))

pub own_of : (m : Message) → All (OfMessage m) (message_bounds m)
own_of m = All-append (OfMessage m) (most_bound m m.most) (DelayLeast m.send m.receive ∷ []) (own_most m m.most) (All-cons (OfMessage m) (DelayLeast m.send m.receive) [] (inr refl) (All-nil (OfMessage m)))

abbrev Differ : Bound → Bound → Type 0
Differ a b = a ≢ b

differ_by : (m : Message) (o : Option ℕ) → AllPairs Differ (most_bound m o ++ DelayLeast m.send m.receive ∷ [])
differ_by m None = AllPairs-cons Differ (DelayLeast m.send m.receive) [] (All-nil (Differ (DelayLeast m.send m.receive))) (no_pairs Differ)
differ_by m (Some n) =
    AllPairs-cons Differ (DelayMost m.send m.receive) (DelayLeast m.send m.receive ∷ [])
    (All-cons (Differ (DelayMost m.send m.receive)) (DelayLeast m.send m.receive) [] (λ same. absurd (cc)) (All-nil (Differ (DelayMost m.send m.receive))))
    (AllPairs-cons Differ (DelayLeast m.send m.receive) [] (All-nil (Differ (DelayLeast m.send m.receive))) (no_pairs Differ))

-- ---- other messages
module _ (clocks : List Clock) (follows : List Follow) (events : List Event) (old new : List Message) (left : List Bound) (forth : (m : Message) → Contains old m → Contains new m)
    (back : (m : Message) → Contains new m → Contains old m ⊎ ((b : Bound) → Contains (message_bounds m) b → Contains left b)) (entered : ℕ → Bool) (g : GraphLists)
    (grown : IsGrownTo (record { clocks = clocks; follows = follows; events = events; messages = old }) entered g) where
  abbrev p : ProblemLists
  p = record { clocks = clocks; follows = follows; events = events; messages = old }

  abbrev q : ProblemLists
  q = record { clocks = clocks; follows = follows; events = events; messages = new }

  declared : (b : Bound) (c : Constraint) → Declares p b c → Declares q b c
  declared (SpanMost clock s t) c d = d
  declared (SpanLeast clock s t) c d = d
  declared (Late e) c d = d
  declared (Early e) c d = d
  declared (bounds.Follow b s e t) c d = (d.0, d.1, d.2, after_over p q refl b e d.3, d.4, d.5, d.6)
  declared (DelayMost send receive) c d = (d.0, d.1, forth d.0 d.2, d.3, d.4, d.5, d.6)
  declared (DelayLeast send receive) c d = (d.0, forth d.0 d.1, d.2, d.3, d.4)

  node_over : (n : Node) → IsEnteredNode p entered n → IsEnteredNode q entered n
  node_over (nodes.Event v) is = is
  node_over (nodes.Reading clock stamp) is = is

  node_under : (n : Node) → IsEnteredNode q entered n → IsEnteredNode p entered n
  node_under (nodes.Event v) is = is
  node_under (nodes.Reading clock stamp) is = is

  due_under : (b : Bound) → IsDue q entered b → IsDue p entered b ⊎ Contains left b
  due_under (SpanMost clock s t) due = inl (record { first = due.first; second = due.second; rising = due.rising; none = due.none })
  due_under (SpanLeast clock s t) due = inl (record { first = due.first; second = due.second; rising = due.rising; none = due.none })
  due_under (Late v) due = inl due
  due_under (Early v) due = inl due
  due_under (bounds.Follow c s d t) due = inl (record {
    comes = after_over q p refl c d due.comes;
    nearest = λ b u after read. elim (due.nearest b u (after_over p q refl b d after) read) [
      | inl same ↦ inl same
      | inr further ↦ inr (after_over q p refl b c further)
    ];
    last = due.last;
    none_after = due.none_after;
    first = due.first;
    none_before = due.none_before;
  })
  due_under (DelayMost send receive) (m, most, is, most_is) = elim (back m is.among) [
    | inl was ↦ inl (m, most, record { among = was; send_is = is.send_is; receive_is = is.receive_is; send_in = is.send_in; receive_in = is.receive_in }, most_is)
    | inr own ↦ inr (subst (λ (k : ℕ). Contains left (DelayMost send k)) is.receive_is (subst (λ (k : ℕ). Contains left (DelayMost k m.receive)) is.send_is (own (DelayMost m.send m.receive) (most_in m most most_is))))
  ]
  due_under (DelayLeast send receive) (m, is) = elim (back m is.among) [
    | inl was ↦ inl (m, record { among = was; send_is = is.send_is; receive_is = is.receive_is; send_in = is.send_in; receive_in = is.receive_in })
    | inr own ↦ inr (subst (λ (k : ℕ). Contains left (DelayLeast send k)) is.receive_is (subst (λ (k : ℕ). Contains left (DelayLeast k m.receive)) is.send_is (own (DelayLeast m.send m.receive) (least_in m))))
  ]

  pub with_messages : IsGrowing (record { clocks = clocks; follows = follows; events = events; messages = new }) entered left g
  with_messages = record {
    nodes = λ n has. node_over n (grown.nodes n has);
    every_node = λ n is. grown.every_node n (node_under n is);
    each = λ a force. (let own = grown.each a force in (own.0, declared a.name own.0 own.1, own.2, own.3, own.4));
    every = λ b due. elim (due_under b due) [
      | inl was ↦ elim (grown.every b was) [ inl none ↦ absurd (none_in b none) | inr has ↦ inr has ]
      | inr own ↦ inl own
    ];
  }

-- ---- a message that comes: its bounds are not in force, and no two of them are one
module _ (p : ProblemLists) (entered : ℕ → Bool) (g : GraphLists) (grown : IsGrownTo p entered g) (m : Message) (fresh : (n : Message) → Contains p.messages n → n.send ≢ m.send) where
  not_yet : (b : Bound) → OfMessage m b → HasBound g b → ⊥
  not_yet b (inl is) (a, force, name) =
      let own = grown.each a force in
      let declares : Declares p (DelayMost m.send m.receive) own.0 = subst (λ (x : Bound). Declares p x own.0) (name ∙ is) own.1 in
      fresh declares.0 declares.2 declares.3
  not_yet b (inr is) (a, force, name) =
      let own = grown.each a force in
      let declares : Declares p (DelayLeast m.send m.receive) own.0 = subst (λ (x : Bound). Declares p x own.0) (name ∙ is) own.1 in
      fresh declares.0 declares.1 declares.2

  pub message_once : HasEachOnce [] g → HasEachOnce (message_bounds m) g
  message_once each = record {
    once = each.once;
    left_out = λ b among has. not_yet b (All-contains (OfMessage m) (message_bounds m) b (own_of m) among) has;
    left_differ = differ_by m m.most;
  }
