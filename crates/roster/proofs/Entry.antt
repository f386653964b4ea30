-- An event enters a graph.
use Rattle.std.proofs.Common.{◌≡◌, ◌⊎◌, ◌≤◌, ◌==◌, ◌||◌, ℕ, Bool, true, false, List, [], ◌∷◌, ◌++◌, Option, Some, None, slice_get, get_or, Contains, refl, sym, ◌∙◌, ap, subst, arith, inl, inr}
use Rattle.std.specs.List.{flat_map}
use Rattle.std.proofs.lemmas.Bool.{cases_eq, eq-eqb, ne_eqb}
use Rattle.std.proofs.lemmas.List.Elements.{Contains-append_left, Contains-append_right}
use Rattle.std.proofs.lemmas.Option.{same_Some}
use Rattle.problem_model.specs.declared.items.Event.{Event}
use Rattle.problem_model.specs.declared.items.Message.{Message}
use Rattle.problem_model.specs.declared.items.Node.{Node}
use Rattle.problem_model.specs.declared.items.Node.TheVariants as nodes
use Rattle.problem_model.specs.declared.items.Bound.{Bound}
use Rattle.problem_model.specs.declared.items.Bound.TheVariants as bounds
use Rattle.problem_model.specs.declared.items.Bound.TheVariants.{SpanMost, SpanLeast, Late, Early, DelayMost, DelayLeast}
use Rattle.problem_model.specs.Problem.{ProblemLists, IsChained}
use Rattle.problem_model.specs.Bounds.{EventAt}
use Rattle.problem_model.specs.ShortList.{message_bounds, most_bound}
use Rattle.problem_model.proofs.NearestFollows.{rises_after}
use Rattle.sync_graph.specs.declared.arc.Arc.{Arc}
use Rattle.sync_graph.specs.Graph.{GraphLists, arc_at}
use Rattle.sync_graph.specs.InForce.{IsInForce}
use Rattle.problem_graph.specs.Standing.{HasNode}
use Rattle.traces.proofs.Members.{here, there, none_in, given_by}
use Rattle.roster.specs.Entered.{IsReadingOf, IsEnteredNode, AreNeighbours, AreLinked, IsMessageOf, IsDue, and_event}
use Rattle.roster.specs.Growing.{IsGrowing, IsGrownTo}
use Rattle.roster.specs.Entering.{Enters, AreMessagesOf, AreNearest, IsStampBelow, IsStampAbove, span_below, span_above, follow_before, follow_after, reading_bounds, entry_bounds}
use Rattle.roster.proofs.Linked.{linked_were, earlier_is, later_is}

-- ---- what has entered
or_right : (a b : Bool) → b ≡ true → (a || b) ≡ true
or_right true b is = refl
or_right false b is = is

or_left : (a b : Bool) → a ≡ true → (a || b) ≡ true
or_left true b is = refl
or_left false b is = absurd (cc)

right_of : (a b : Bool) → a ≡ false → (a || b) ≡ true → b ≡ true
right_of true b not is = absurd (cc)
right_of false b not is = is

-- ---- bounds of an entry
below_has : (clock stamp s : ℕ) (o : Option ℕ) → o ≡ Some s → Contains (span_below clock stamp o) (SpanMost clock s stamp) × Contains (span_below clock stamp o) (SpanLeast clock s stamp)
below_has clock stamp s None is = absurd (cc)
below_has clock stamp s (Some r) is =
    let same : r ≡ s = same_Some r s is in
    subst (λ (n : ℕ). Contains (span_below clock stamp (Some r)) (SpanMost clock n stamp) × Contains (span_below clock stamp (Some r)) (SpanLeast clock n stamp)) same
    (here (SpanMost clock r stamp) (SpanLeast clock r stamp ∷ []), there (SpanMost clock r stamp) (SpanLeast clock r stamp) (SpanLeast clock r stamp ∷ []) (here (SpanLeast clock r stamp) []))

above_has : (clock stamp t : ℕ) (o : Option ℕ) → o ≡ Some t → Contains (span_above clock stamp o) (SpanMost clock stamp t) × Contains (span_above clock stamp o) (SpanLeast clock stamp t)
above_has clock stamp t None is = absurd (cc)
above_has clock stamp t (Some r) is =
    let same : r ≡ t = same_Some r t is in
    subst (λ (n : ℕ). Contains (span_above clock stamp (Some r)) (SpanMost clock stamp n) × Contains (span_above clock stamp (Some r)) (SpanLeast clock stamp n)) same
    (here (SpanMost clock stamp r) (SpanLeast clock stamp r ∷ []), there (SpanMost clock stamp r) (SpanLeast clock stamp r) (SpanLeast clock stamp r ∷ []) (here (SpanLeast clock stamp r) []))

before_has : (clock stamp c s : ℕ) (o : Option (ℕ × ℕ)) → o ≡ Some (c, s) → Contains (follow_before clock stamp o) (bounds.Follow c s clock stamp)
before_has clock stamp c s o is = subst (λ (x : Option (ℕ × ℕ)). Contains (follow_before clock stamp x) (bounds.Follow c s clock stamp)) (sym is) (here (bounds.Follow c s clock stamp) [])

after_has : (clock stamp d t : ℕ) (o : Option (ℕ × ℕ)) → o ≡ Some (d, t) → Contains (follow_after clock stamp o) (bounds.Follow clock stamp d t)
after_has clock stamp d t o is = subst (λ (x : Option (ℕ × ℕ)). Contains (follow_after clock stamp x) (bounds.Follow clock stamp d t)) (sym is) (here (bounds.Follow clock stamp d t) [])

most_has : (m : Message) (o : Option ℕ) (most : ℕ) → o ≡ Some most → Contains (most_bound m o) (DelayMost m.send m.receive)
most_has m None most is = absurd (cc)
most_has m (Some n) most is = here (DelayMost m.send m.receive) []

module _ (v : ℕ) (e : Event) (below above : Option ℕ) (earlier later : Option (ℕ × ℕ)) (messages : List Message) where
  abbrev left : List Bound
  left = entry_bounds v e below above earlier later messages

  abbrev own : List Bound
  own = Late v ∷ Early v ∷ flat_map message_bounds messages

  abbrev follows : List Bound
  follows = follow_before e.clock e.stamp earlier ++ follow_after e.clock e.stamp later

  abbrev of_reading : List Bound
  of_reading = reading_bounds e.clock e.stamp below above earlier later

  in_own : (b : Bound) → Contains own b → Contains left b
  in_own b among = Contains-append_right of_reading own b among

  in_reading : (b : Bound) → Contains of_reading b → Contains left b
  in_reading b among = Contains-append_left of_reading own b among

  in_below : (b : Bound) → Contains (span_below e.clock e.stamp below) b → Contains left b
  in_below b among = in_reading b (Contains-append_left (span_below e.clock e.stamp below) (span_above e.clock e.stamp above ++ follows) b among)

  in_above : (b : Bound) → Contains (span_above e.clock e.stamp above) b → Contains left b
  in_above b among =
      in_reading b (Contains-append_right (span_below e.clock e.stamp below) (span_above e.clock e.stamp above ++ follows) b (Contains-append_left (span_above e.clock e.stamp above) follows b among))

  in_follows : (b : Bound) → Contains follows b → Contains left b
  in_follows b among =
      in_reading b (Contains-append_right (span_below e.clock e.stamp below) (span_above e.clock e.stamp above ++ follows) b (Contains-append_right (span_above e.clock e.stamp above) follows b among))

  before_left : (c s : ℕ) → earlier ≡ Some (c, s) → Contains left (bounds.Follow c s e.clock e.stamp)
  before_left c s is =
      let f = bounds.Follow c s e.clock e.stamp in
      in_follows f (Contains-append_left (follow_before e.clock e.stamp earlier) (follow_after e.clock e.stamp later) f (before_has e.clock e.stamp c s earlier is))

  after_left : (d t : ℕ) → later ≡ Some (d, t) → Contains left (bounds.Follow e.clock e.stamp d t)
  after_left d t is =
      let f = bounds.Follow e.clock e.stamp d t in
      in_follows f (Contains-append_right (follow_before e.clock e.stamp earlier) (follow_after e.clock e.stamp later) f (after_has e.clock e.stamp d t later is))

  late_left : Contains left (Late v)
  late_left = in_own (Late v) (here (Late v) (Early v ∷ flat_map message_bounds messages))

  early_left : Contains left (Early v)
  early_left = in_own (Early v) (there (Late v) (Early v) (Early v ∷ flat_map message_bounds messages) (here (Early v) (flat_map message_bounds messages)))

  of_message : (m : Message) (b : Bound) → Contains messages m → Contains (message_bounds m) b → Contains left b
  of_message m b among is =
      in_own b (there (Late v) b (Early v ∷ flat_map message_bounds messages) (there (Early v) b (flat_map message_bounds messages) (given_by message_bounds messages m b among is)))

  most_left : (m : Message) (most : ℕ) → Contains messages m → m.most ≡ Some most → Contains left (DelayMost m.send m.receive)
  most_left m most among is =
      of_message m (DelayMost m.send m.receive) among (Contains-append_left (most_bound m m.most) (DelayLeast m.send m.receive ∷ []) (DelayMost m.send m.receive) (most_has m m.most most is))

  least_left : (m : Message) → Contains messages m → Contains left (DelayLeast m.send m.receive)
  least_left m among =
      of_message m (DelayLeast m.send m.receive) among (Contains-append_right (most_bound m m.most) (DelayLeast m.send m.receive ∷ []) (DelayLeast m.send m.receive) (here (DelayLeast m.send m.receive) []))

module _ (p : ProblemLists) (entered : ℕ → Bool) (v : ℕ) (e : Event) (at : EventAt p v e) where
  still_in : (w : ℕ) → entered w ≡ true → and_event entered v w ≡ true
  still_in w is = or_right (w == v) (entered w) is

  own_in : and_event entered v v ≡ true
  own_in = or_left (v == v) (entered v) (eq-eqb v v refl)

  was_in : (w : ℕ) → and_event entered v w ≡ true → (w ≡ v) ⊎ (entered w ≡ true)
  was_in w is = elim (cases_eq w v) [ inl same ↦ inl same | inr other ↦ inr (right_of (w == v) (entered w) (ne_eqb w v other) is) ]

  read_still : (clock stamp : ℕ) → IsReadingOf p entered clock stamp → IsReadingOf p (and_event entered v) clock stamp
  read_still clock stamp (w, x, has, on, is) = (w, x, (has.0, still_in w has.1), on, is)

  read_own : IsReadingOf p (and_event entered v) e.clock e.stamp
  read_own = (v, e, (at, own_in), refl, refl)

  read_was : (clock stamp : ℕ) → IsReadingOf p (and_event entered v) clock stamp → IsReadingOf p entered clock stamp ⊎ ((e.clock ≡ clock) × (e.stamp ≡ stamp))
  read_was clock stamp (w, x, has, on, is) = elim (was_in w has.1) [
    | inl same ↦ (
        let one : e ≡ x = same_Some e x (sym at ∙ ap (slice_get p.events) (sym same) ∙ has.0) in
        inr (ap (λ (y : Event). y.clock) one ∙ on, ap (λ (y : Event). y.stamp) one ∙ is))
    | inr old ↦ inl (w, x, (has.0, old), on, is)
  ]

  node_still : (n : Node) → IsEnteredNode p entered n → IsEnteredNode p (and_event entered v) n
  node_still (nodes.Event w) (x, has) = (x, (has.0, still_in w has.1))
  node_still (nodes.Reading clock stamp) is = read_still clock stamp is

  -- neighbours among old readings were neighbours
  were : (clock s t : ℕ) → AreNeighbours p (and_event entered v) clock s t → IsReadingOf p entered clock s → IsReadingOf p entered clock t → AreNeighbours p entered clock s t
  were clock s t are first second = record { first = first; second = second; rising = are.rising; none = λ u read. are.none u (read_still clock u read) }

  module _ (below above : Option ℕ) (earlier later : Option (ℕ × ℕ)) (messages : List Message) (g : GraphLists) (chains : IsChained p) (nearest : AreNearest p g e below above earlier later) (own_messages : AreMessagesOf p entered v messages) (grown : IsGrownTo p entered g) where
    abbrev Left : Bound → Type 0
    Left b = Contains (entry_bounds v e below above earlier later messages) b

    nearest_below : (s : ℕ) (o : Option ℕ) → IsStampBelow g e.clock e.stamp o → AreNeighbours p (and_event entered v) e.clock s e.stamp → IsReadingOf p entered e.clock s → o ≡ Some s
    nearest_below s None none are old = absurd (none s (grown.every_node (nodes.Reading e.clock s) old) are.rising)
    nearest_below s (Some r) (there', less, most) are old =
        let up : s ≤ r = most s (grown.every_node (nodes.Reading e.clock s) old) are.rising in
        let between = are.none r (read_still e.clock r (grown.nodes (nodes.Reading e.clock r) there')) in
        elim (cases_eq r s) [ inl same ↦ ap Some same | inr other ↦ absurd (between (omega (arith, up, other)) less) ]

    nearest_above : (t : ℕ) (o : Option ℕ) → IsStampAbove g e.clock e.stamp o → AreNeighbours p (and_event entered v) e.clock e.stamp t → IsReadingOf p entered e.clock t → o ≡ Some t
    nearest_above t None none are old = absurd (none t (grown.every_node (nodes.Reading e.clock t) old) are.rising)
    nearest_above t (Some r) (there', less, least) are old =
        let down : r ≤ t = least t (grown.every_node (nodes.Reading e.clock t) old) are.rising in
        let between = are.none r (read_still e.clock r (grown.nodes (nodes.Reading e.clock r) there')) in
        elim (cases_eq r t) [ inl same ↦ ap Some same | inr other ↦ absurd (between less (omega (arith, down, other))) ]

    both_below : (s : ℕ) → AreNeighbours p (and_event entered v) e.clock s e.stamp → IsReadingOf p entered e.clock s → AreNeighbours p entered e.clock s e.stamp ⊎ (Left (SpanMost e.clock s e.stamp) × Left (SpanLeast e.clock s e.stamp))
    both_below s are old = elim nearest [
      | inl known ↦ inl (were e.clock s e.stamp are old (grown.nodes (nodes.Reading e.clock e.stamp) known.0))
      | inr sides ↦ (
          let has = below_has e.clock e.stamp s below (nearest_below s below sides.1 are old) in
          inr (in_below v e below above earlier later messages (SpanMost e.clock s e.stamp) has.0, in_below v e below above earlier later messages (SpanLeast e.clock s e.stamp) has.1))
    ]

    both_above : (t : ℕ) → AreNeighbours p (and_event entered v) e.clock e.stamp t → IsReadingOf p entered e.clock t → AreNeighbours p entered e.clock e.stamp t ⊎ (Left (SpanMost e.clock e.stamp t) × Left (SpanLeast e.clock e.stamp t))
    both_above t are old = elim nearest [
      | inl known ↦ inl (were e.clock e.stamp t are (grown.nodes (nodes.Reading e.clock e.stamp) known.0) old)
      | inr sides ↦ (
          let has = above_has e.clock e.stamp t above (nearest_above t above sides.2 are old) in
          inr (in_above v e below above earlier later messages (SpanMost e.clock e.stamp t) has.0, in_above v e below above earlier later messages (SpanLeast e.clock e.stamp t) has.1))
    ]

    neighbours_were : (clock s t : ℕ) → AreNeighbours p (and_event entered v) clock s t → AreNeighbours p entered clock s t ⊎ (Left (SpanMost clock s t) × Left (SpanLeast clock s t))
    neighbours_were clock s t are = elim (read_was clock s are.first) [
      | inl first ↦ elim (read_was clock t are.second) [
        | inl second ↦ inl (were clock s t are first second)
        | inr (on, is) ↦ upper clock s t on is are first
      ]
      | inr (on, is) ↦ elim (read_was clock t are.second) [
        | inl second ↦ lower clock s t on is are second
        | inr (on', is') ↦ absurd (let less = are.rising in omega (arith, less, is, is'))
      ]
    ]
      where
        upper : (clock s t : ℕ) → e.clock ≡ clock → e.stamp ≡ t → AreNeighbours p (and_event entered v) clock s t → IsReadingOf p entered clock s → AreNeighbours p entered clock s t ⊎ (Left (SpanMost clock s t) × Left (SpanLeast clock s t))
        upper clock s t on is are first =
            let there' : AreNeighbours p (and_event entered v) e.clock s e.stamp = subst (λ (c : ℕ). AreNeighbours p (and_event entered v) c s e.stamp) (sym on) (subst (λ (u : ℕ). AreNeighbours p (and_event entered v) clock s u) (sym is) are) in
            let found = both_below s there' (subst (λ (c : ℕ). IsReadingOf p entered c s) (sym on) first) in
            subst (λ (c : ℕ). AreNeighbours p entered c s t ⊎ (Left (SpanMost c s t) × Left (SpanLeast c s t))) on
            (subst (λ (u : ℕ). AreNeighbours p entered e.clock s u ⊎ (Left (SpanMost e.clock s u) × Left (SpanLeast e.clock s u))) is found)

        lower : (clock s t : ℕ) → e.clock ≡ clock → e.stamp ≡ s → AreNeighbours p (and_event entered v) clock s t → IsReadingOf p entered clock t → AreNeighbours p entered clock s t ⊎ (Left (SpanMost clock s t) × Left (SpanLeast clock s t))
        lower clock s t on is are second =
            let there' : AreNeighbours p (and_event entered v) e.clock e.stamp t = subst (λ (c : ℕ). AreNeighbours p (and_event entered v) c e.stamp t) (sym on) (subst (λ (u : ℕ). AreNeighbours p (and_event entered v) clock u t) (sym is) are) in
            let found = both_above t there' (subst (λ (c : ℕ). IsReadingOf p entered c t) (sym on) second) in
            subst (λ (c : ℕ). AreNeighbours p entered c s t ⊎ (Left (SpanMost c s t) × Left (SpanLeast c s t))) on
            (subst (λ (u : ℕ). AreNeighbours p entered e.clock u t ⊎ (Left (SpanMost e.clock u t) × Left (SpanLeast e.clock u t))) is found)

    node_there : (clock stamp : ℕ) → IsReadingOf p entered clock stamp → HasNode g (nodes.Reading clock stamp)
    node_there clock stamp read = grown.every_node (nodes.Reading clock stamp) read

    read_there : (clock stamp : ℕ) → HasNode g (nodes.Reading clock stamp) → IsReadingOf p entered clock stamp
    read_there clock stamp has = grown.nodes (nodes.Reading clock stamp) has

    -- a follow was due, or it is one of the new reading's
    linked_before : (c s : ℕ) → AreLinked p (and_event entered v) c s e.clock e.stamp → IsReadingOf p entered c s → AreLinked p entered c s e.clock e.stamp ⊎ Left (bounds.Follow c s e.clock e.stamp)
    linked_before c s are old = elim nearest [
      | inl known ↦ inl (linked_were p entered (and_event entered v) read_still c s e.clock e.stamp are old (read_there e.clock e.stamp known.0))
      | inr sides ↦ inr (before_left v e below above earlier later messages c s (earlier_is p chains entered (and_event entered v) read_still g node_there read_there c s e.clock e.stamp below earlier sides.3 sides.1 are old))
    ]

    linked_after : (d t : ℕ) → AreLinked p (and_event entered v) e.clock e.stamp d t → IsReadingOf p entered d t → AreLinked p entered e.clock e.stamp d t ⊎ Left (bounds.Follow e.clock e.stamp d t)
    linked_after d t are old = elim nearest [
      | inl known ↦ inl (linked_were p entered (and_event entered v) read_still e.clock e.stamp d t are (read_there e.clock e.stamp known.0) old)
      | inr sides ↦ inr (after_left v e below above earlier later messages d t (later_is p chains entered (and_event entered v) read_still g node_there read_there e.clock e.stamp d t above later sides.4 sides.2 are old))
    ]

    linked_was : (c s d t : ℕ) → AreLinked p (and_event entered v) c s d t → AreLinked p entered c s d t ⊎ Left (bounds.Follow c s d t)
    linked_was c s d t are = elim (read_was c s are.last) [
      | inl last ↦ elim (read_was d t are.first) [
        | inl first ↦ inl (linked_were p entered (and_event entered v) read_still c s d t are last first)
        | inr (on, is) ↦ (
            let there' = subst (λ (k : ℕ). AreLinked p (and_event entered v) c s k e.stamp) (sym on) (subst (λ (u : ℕ). AreLinked p (and_event entered v) c s d u) (sym is) are) in
            subst (λ (k : ℕ). AreLinked p entered c s k t ⊎ Left (bounds.Follow c s k t)) on (subst (λ (u : ℕ). AreLinked p entered c s e.clock u ⊎ Left (bounds.Follow c s e.clock u)) is (linked_before c s there' last)))
      ]
      | inr (on, is) ↦ elim (read_was d t are.first) [
        | inl first ↦ (
            let there' = subst (λ (k : ℕ). AreLinked p (and_event entered v) k e.stamp d t) (sym on) (subst (λ (u : ℕ). AreLinked p (and_event entered v) c u d t) (sym is) are) in
            subst (λ (k : ℕ). AreLinked p entered k s d t ⊎ Left (bounds.Follow k s d t)) on (subst (λ (u : ℕ). AreLinked p entered e.clock u d t ⊎ Left (bounds.Follow e.clock u d t)) is (linked_after d t there' first)))
        | inr (on', is') ↦ absurd (let rise = rises_after p chains c d are.comes in omega (arith, rise, on, on'))
      ]
    ]

    -- a message was there, or it is one of the event's own
    message_was : (send receive : ℕ) (m : Message) → IsMessageOf p (and_event entered v) send receive m → IsMessageOf p entered send receive m ⊎ Contains messages m
    message_was send receive m is = elim (was_in send is.send_in) [
      | inl same ↦ inr (own_messages.sent receive m (subst (λ (w : ℕ). IsMessageOf p (and_event entered v) w receive m) same is))
      | inr from ↦ elim (was_in receive is.receive_in) [
        | inl same ↦ inr (own_messages.received send m (subst (λ (w : ℕ). IsMessageOf p (and_event entered v) send w m) same is))
        | inr to ↦ inl (record { among = is.among; send_is = is.send_is; receive_is = is.receive_is; send_in = from; receive_in = to })
      ]
    ]

    due_was : (b : Bound) → IsDue p (and_event entered v) b → IsDue p entered b ⊎ Left b
    due_was (SpanMost clock s t) due = elim (neighbours_were clock s t due) [ inl old ↦ inl old | inr more ↦ inr more.0 ]
    due_was (SpanLeast clock s t) due = elim (neighbours_were clock s t due) [ inl old ↦ inl old | inr more ↦ inr more.1 ]
    due_was (Late w) (x, has) = elim (was_in w has.1) [ inl same ↦ inr (subst (λ (n : ℕ). Left (Late n)) (sym same) (late_left v e below above earlier later messages)) | inr old ↦ inl (x, (has.0, old)) ]
    due_was (Early w) (x, has) = elim (was_in w has.1) [ inl same ↦ inr (subst (λ (n : ℕ). Left (Early n)) (sym same) (early_left v e below above earlier later messages)) | inr old ↦ inl (x, (has.0, old)) ]
    due_was (bounds.Follow c s d t) due = linked_was c s d t due
    due_was (DelayMost send receive) (m, most, is, most_is) = elim (message_was send receive m is) [
      | inl old ↦ inl (m, most, old, most_is)
      | inr own' ↦ inr (subst (λ (w : ℕ). Left (DelayMost w receive)) is.send_is (subst (λ (w : ℕ). Left (DelayMost m.send w)) is.receive_is (most_left v e below above earlier later messages m most own' most_is)))
    ]
    due_was (DelayLeast send receive) (m, is) = elim (message_was send receive m is) [
      | inl old ↦ inl (m, old)
      | inr own' ↦ inr (subst (λ (w : ℕ). Left (DelayLeast w receive)) is.send_is (subst (λ (w : ℕ). Left (DelayLeast m.send w)) is.receive_is (least_left v e below above earlier later messages m own')))
    ]

    module _ (h : GraphLists) (enters : Enters v e g h) where
      has_kept : (n : Node) → HasNode g n → HasNode h n
      has_kept n (k, stands) = (k, enters.kept k n stands)

      force_was : (a : Arc) → IsInForce h a → IsInForce g a
      force_was a (j, force, is) = (j, subst (λ (fs : List Bool). get_or fs j false ≡ true) enters.in_force force, subst (λ (xs : List Arc). arc_at xs j ≡ a) enters.arcs is)

      force_still : (a : Arc) → IsInForce g a → IsInForce h a
      force_still a (j, force, is) = (j, subst (λ (fs : List Bool). get_or fs j false ≡ true) (sym enters.in_force) force, subst (λ (xs : List Arc). arc_at xs j ≡ a) (sym enters.arcs) is)

      node_of : (n : Node) → HasNode h n → IsEnteredNode p (and_event entered v) n
      node_of n has = elim (enters.only n has) [
        | inl old ↦ node_still n (grown.nodes n old)
        | inr (inl event) ↦ subst (IsEnteredNode p (and_event entered v)) (sym event) (e, (at, own_in))
        | inr (inr reading) ↦ subst (IsEnteredNode p (and_event entered v)) (sym reading) read_own
      ]

      has_node : (n : Node) → IsEnteredNode p (and_event entered v) n → HasNode h n
      has_node (nodes.Event w) (x, has) = elim (was_in w has.1) [
        | inl same ↦ subst (λ (n : ℕ). HasNode h (nodes.Event n)) (sym same) enters.event
        | inr old ↦ has_kept (nodes.Event w) (grown.every_node (nodes.Event w) (x, (has.0, old)))
      ]
      has_node (nodes.Reading clock stamp) is = elim (read_was clock stamp is) [
        | inl old ↦ has_kept (nodes.Reading clock stamp) (grown.every_node (nodes.Reading clock stamp) old)
        | inr (on, same) ↦ subst (λ (c : ℕ). HasNode h (nodes.Reading c stamp)) on (subst (λ (s : ℕ). HasNode h (nodes.Reading e.clock s)) same enters.reading)
      ]

      pub entered_now : IsGrowing p (and_event entered v) (entry_bounds v e below above earlier later messages) h
      entered_now = record {
        nodes = node_of;
        every_node = has_node;
        each = λ a force. (let b = grown.each a (force_was a force) in (b.0, b.1, enters.kept a.from b.0.from b.2, enters.kept a.to b.0.to b.3, b.4));
        every = λ b due. elim (due_was b due) [
          | inl old ↦ elim (grown.every b old) [ inl none ↦ absurd (none_in b none) | inr (a, force, name) ↦ inr (a, force_still a force, name) ]
          | inr left' ↦ inl left'
        ];
      }
