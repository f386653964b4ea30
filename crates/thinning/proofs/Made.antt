-- The problem of the events that stay and the messages that are kept stands in the place of the whole one.
use Rattle.std.proofs.Common.{◌≡◌, ◌≢◌, ◌<◌, ◌≤◌, ℕ, suc, List, [], ◌∷◌, Bool, length, map, get_or, All, AllPairs, refl, sym, subst, arith, inl, inr}
use Rattle.std.specs.Prelude.{Contains, ◌↔◌, ℤ, is_some}
use Rattle.std.proofs.lemmas.Option.{slice_get_within}
use Rattle.std.proofs.lemmas.List.{length-map}
use Rattle.std.proofs.lemmas.List.Elements.{All-map, All-weaker, All-contains, All-contains_itself, Contains-get_or}
use Rattle.std.proofs.lemmas.List.Kept.{AllPairs-cons}
use Rattle.problem_model.specs.declared.items.Event.{Event}
use Rattle.problem_model.specs.declared.items.Message.{Message}
use Rattle.problem_model.specs.declared.items.Node.{Node}
use Rattle.problem_model.specs.declared.items.Node.TheVariants as nodes
use Rattle.problem_model.specs.Name.{IsEventName}
use Rattle.problem_model.specs.Problem.{ProblemLists, IsWellFormed, FitsLimits, IsProblem, EventFits, MessageFits}
use Rattle.problem_model.specs.Bounds.{EventAt, IsReading, Times, IsExecution}
use Rattle.problem_model.specs.ProblemArcs.{IsGreatestOf, IsUnboundedOf}
use Rattle.thinning.specs.Thinning.{with_messages, Remains, IsMessageEnd}
use Rattle.thinning.specs.Dropping.{with_events, message_before, node_before, Drops}
use Rattle.thinning.specs.Small.{Shrinks, Stays}
use Rattle.thinning.specs.Thinned.{AreOneEvent, HasAsked, IsMarked, IsThinnedTo, MayBeKept, marked, marks_before, renumbered, thinned_by}
use Rattle.thinning.specs.Staying.{IsMarkedReading, AreAsked, Stay}
use Rattle.thinning.proofs.Messages.{contained_map, made_of}
use Rattle.thinning.proofs.Marked.{one_there, place_of, places_differ, kept_at, stays_at, stood_at, before_differ, marked_within, all_marked, pairs_marked, kept_inside, stays_inside, one_place}

-- ---- lists
all_from : {X : Type 0} (P : X → Type 0) (xs : List X) → ((x : X) → Contains xs x → P x) → All P xs
all_from P xs each = All-weaker (Contains xs) P each xs (All-contains_itself xs)

pairs_from : {X : Type 0} (R S : X → X → Type 0) (xs : List X) → ((a b : X) → Contains xs a → Contains xs b → R a b → S a b) → AllPairs R xs → AllPairs S xs
pairs_from R S xs each pairs i j d below inside =
    each (get_or xs i d) (get_or xs j d) (Contains-get_or xs i d (omega (arith, below, inside))) (Contains-get_or xs j d inside) (pairs i j d below inside)

pairs_map : {X Y : Type 0} (R : Y → Y → Type 0) (f : X → Y) (xs : List X) → AllPairs (λ a b. R (f a) (f b)) xs → AllPairs R (map f xs)
pairs_map R f [] pairs = λ i j d below inside. absurd (omega (arith, inside))
pairs_map R f (x ∷ xs) pairs =
    AllPairs-cons R (f x) (map f xs) (All-map (R (f x)) f xs (λ k d inside. pairs 0 (suc k) d (omega arith) (omega (arith, inside))))
    (pairs_map R f xs (λ i j d below inside. pairs (suc i) (suc j) d (omega (arith, below)) (omega (arith, inside))))

at_most : (a b c : ℕ) → a ≤ b → b ≤ c → a ≤ c
at_most a b c less more = omega (arith, less, more)

-- a message with its own ends is the same
same_ends : (m : Message) (s r : ℕ) → s ≡ m.send → r ≡ m.receive → (let n : Message = record { send = s; receive = r; least = m.least; most = m.most } in n) ≡ m
same_ends m s r a b = rw (a, b) refl

-- ---- the small problem
module _ (p : ProblemLists) (lawful : IsProblem p) (places : List ℕ) (marks keeps stays : List Bool) (are : AreAsked p places marks) (may : MayBeKept p marks keeps) (stay : Stay p marks keeps stays) where
  abbrev pub kept : List Message
  kept = marked p.messages keeps

  abbrev pub events : List Event
  events = marked p.events stays

  abbrev pub messages : List Message
  messages = map (renumbered stays) kept

  abbrev pub old : ℕ → ℕ
  old = place_of stays

  abbrev pub small : ProblemLists
  small = with_events p events messages

  of_whole : (m : Message) → Contains kept m → Contains p.messages m
  of_whole m inside = kept_inside p.messages keeps m inside

  -- ---- messages with their events
  end_within : (m : Message) (e : ℕ) → Contains kept m → IsMessageEnd e m → e < length p.events → marks_before stays e < length events
  end_within m e inside end below =
      let (v, at) = one_there p.events e below in
      slice_get_within events (marks_before stays e) v (stays_at p.events stays e v at (stay.ends m e inside end))

  back : (m : Message) → Contains kept m → message_before old (renumbered stays m) ≡ m
  back m inside =
      same_ends m (old (marks_before stays m.send)) (old (marks_before stays m.receive))
      (stood_at stays m.send (stay.ends m m.send inside (inl refl)))
      (stood_at stays m.receive (stay.ends m m.receive inside (inr refl)))

  send_within : (m : Message) → Contains p.messages m → m.send < length p.events
  send_within m inside = All-contains (λ (n : Message). n.send < length p.events) p.messages m lawful.formed.sends inside

  receive_within : (m : Message) → Contains p.messages m → m.receive < length p.events
  receive_within m inside = All-contains (λ (n : Message). n.receive < length p.events) p.messages m lawful.formed.receives inside

  ends_differ : (m : Message) → Contains kept m → marks_before stays m.send ≡ marks_before stays m.receive → ⊥
  ends_differ m inside same =
      All-contains (λ (n : Message). n.send ≢ n.receive) p.messages m lawful.formed.two_ends (of_whole m inside)
      (before_differ stays m.send m.receive (stay.ends m m.send inside (inl refl)) (stay.ends m m.receive inside (inr refl)) same)

  -- ---- readings
  reading_stays : (clock stamp : ℕ) → IsMarkedReading p marks clock stamp → IsReading small clock stamp
  reading_stays clock stamp (e, v, at, mark, on, is) = (v, stays_inside p.events stays e v at (stay.asked e mark), on, is)

  drops : Drops (with_messages p kept) events messages old
  drops = record {
    stays = λ e v at. (kept_at p.events stays e v at).0;
    differ = λ d e within within' same. places_differ stays d e same;
    among = λ m inside.
        let (n, there, is) = made_of (renumbered stays) kept m inside in
        subst (λ (k : Message). Contains kept (message_before old k)) is (subst (Contains kept) (sym (back n there)) there);
    every = λ m inside. (renumbered stays m, contained_map (renumbered stays) kept m inside, back m inside);
    last = λ f s at reads. let (t, stays_t, less) = are.last f s at reads in (t, reading_stays f.earlier t stays_t, less);
    first = λ f t at reads. let (s, stays_s, less) = are.first f t at reads in (s, reading_stays f.later s stays_s, less);
  }

  small_formed : IsWellFormed small
  small_formed =
      let formed = lawful.formed in
      record {
        clock_names = formed.clock_names;
        clocks_differ = formed.clocks_differ;
        follow_ends = formed.follow_ends;
        earliers_differ = formed.earliers_differ;
        laters_differ = formed.laters_differ;
        event_names = all_marked (λ (e : Event). IsEventName e.name) p.events stays formed.event_names;
        events_differ = pairs_marked (λ (a b : Event). a.name ≢ b.name) p.events stays formed.events_differ;
        bounds_alike = pairs_marked (λ (a b : Event). is_some a.bounds ≡ is_some b.bounds) p.events stays formed.bounds_alike;
        event_clocks = all_marked (λ (e : Event). e.clock < length p.clocks) p.events stays formed.event_clocks;
        sends = All-map (λ (m : Message). m.send < length events) (renumbered stays) kept
            (all_from (λ (m : Message). marks_before stays m.send < length events) kept (λ m inside. end_within m m.send inside (inl refl) (send_within m (of_whole m inside))));
        receives = All-map (λ (m : Message). m.receive < length events) (renumbered stays) kept
            (all_from (λ (m : Message). marks_before stays m.receive < length events) kept (λ m inside. end_within m m.receive inside (inr refl) (receive_within m (of_whole m inside))));
        two_ends = All-map (λ (m : Message). m.send ≢ m.receive) (renumbered stays) kept
            (all_from (λ (m : Message). marks_before stays m.send ≢ marks_before stays m.receive) kept ends_differ);
        messages_differ = pairs_map (λ (a b : Message). (a.send ≡ b.send) → (a.receive ≡ b.receive) → ⊥) (renumbered stays) kept
            (pairs_from (λ (a b : Message). (a.send ≡ b.send) → (a.receive ≡ b.receive) → ⊥)
            (λ (a b : Message). (marks_before stays a.send ≡ marks_before stays b.send) → (marks_before stays a.receive ≡ marks_before stays b.receive) → ⊥)
            kept apart (pairs_marked (λ (a b : Message). (a.send ≡ b.send) → (a.receive ≡ b.receive) → ⊥) p.messages keeps formed.messages_differ));
      }
    where
      apart : (a b : Message) → Contains kept a → Contains kept b → ((a.send ≡ b.send) → (a.receive ≡ b.receive) → ⊥)
          → (marks_before stays a.send ≡ marks_before stays b.send) → (marks_before stays a.receive ≡ marks_before stays b.receive) → ⊥
      apart a b first second differ sends receives =
          differ (before_differ stays a.send b.send (stay.ends a a.send first (inl refl)) (stay.ends b b.send second (inl refl)) sends)
          (before_differ stays a.receive b.receive (stay.ends a a.receive first (inr refl)) (stay.ends b b.receive second (inr refl)) receives)

  small_fits : FitsLimits small
  small_fits =
      let fits = lawful.fits in
      record {
        clocks_fit = fits.clocks_fit;
        clock_limit = fits.clock_limit;
        gaps_fit = fits.gaps_fit;
        events_fit = all_marked EventFits p.events stays fits.events_fit;
        event_limit = at_most (length events) (length p.events) _ (marked_within p.events stays) fits.event_limit;
        messages_fit = All-map MessageFits (renumbered stays) kept (all_marked MessageFits p.messages keeps fits.messages_fit);
        message_limit = at_most (length messages) (length p.messages) _
            (subst (λ (n : ℕ). n ≤ length p.messages) (sym (length-map kept (renumbered stays))) (marked_within p.messages keeps)) fits.message_limit;
      }

  pub small_lawful : IsProblem (thinned_by p stays keeps)
  small_lawful = record { formed = small_formed; fits = small_fits }

  pub shrinks : Shrinks p 0 kept events messages old
  shrinks = record { formed = lawful.formed; thins = may.thins; drops = drops; small_formed = small_formed }

  pub has_asked : HasAsked p places (thinned_by p stays keeps)
  has_asked = All-weaker (IsMarked marks) (λ (k : ℕ). (v : Event) → EventAt p k v → Contains events v)
      (λ k mark v at. stays_inside p.events stays k v at (stay.asked k mark)) places are.asked

  -- ---- an event of both
  one_event : (i k : ℕ) → AreOneEvent small p i k → old i ≡ k
  one_event i k (v, at, there) = one_place (λ (a b : Event). a.name ≢ b.name) p.events (old i) k v lawful.formed.events_differ (λ never. never refl) (kept_at p.events stays i v at).0 there

  remains : (i : ℕ) → IsMarked stays (old i) → Remains p kept (nodes.Event (old i))
  remains i mark = elim (stay.only (old i) mark) [
    | inl asked ↦ may.remain (old i) asked
    | inr (m, inside, end) ↦ (λ n left other. left.1 (subst (Contains kept) (sym (may.thins.alone n m (old i) left (of_whole m inside) other end)) inside))
  ]

  stays_node : (i k : ℕ) → AreOneEvent small p i k → Stays p kept events messages old (nodes.Event i)
  stays_node i k (v, at, there) = (slice_get_within events i v at, remains i (kept_at p.events stays i v at).1)

  -- ---- what laws tell of it
  module _ (greatest : (from to : Node) (h : ℤ) → Stays p kept events messages old from → Stays p kept events messages old to → IsGreatestOf p (node_before old from) (node_before old to) h ↔ IsGreatestOf small from to h)
      (unbounded : (from to : Node) → Stays p kept events messages old from → Stays p kept events messages old to → IsUnboundedOf p (node_before old from) (node_before old to) ↔ IsUnboundedOf small from to)
      (fewer : (x : Times) → IsExecution p x → IsExecution small (λ n. x (node_before old n)))
      (extended : (x : Times) → IsExecution small x → (y : Times) × IsExecution p y × ((n : Node) → Stays p kept events messages old n → y (node_before old n) ≡ x n)) where
    abbrev SameGreatest : ℕ → ℕ → ℤ → ℕ → ℕ → Type 0
    SameGreatest i j h k l = IsGreatestOf p (nodes.Event k) (nodes.Event l) h ↔ IsGreatestOf small (nodes.Event i) (nodes.Event j) h

    abbrev SameUnbounded : ℕ → ℕ → ℕ → ℕ → Type 0
    SameUnbounded i j k l = IsUnboundedOf p (nodes.Event k) (nodes.Event l) ↔ IsUnboundedOf small (nodes.Event i) (nodes.Event j)

    pub is_thinned : IsThinnedTo p (thinned_by p stays keeps)
    is_thinned = record {
      clocks = refl;
      follows = refl;
      events = all_from (Contains p.events) events (λ v inside. kept_inside p.events stays v inside);
      greatest = λ i j k l h first second.
          subst (λ (n : ℕ). SameGreatest i j h n l) (one_event i k first)
          (subst (λ (n : ℕ). SameGreatest i j h (old i) n) (one_event j l second)
          (greatest (nodes.Event i) (nodes.Event j) h (stays_node i k first) (stays_node j l second)));
      unbounded = λ i j k l first second.
          subst (λ (n : ℕ). SameUnbounded i j n l) (one_event i k first)
          (subst (λ (n : ℕ). SameUnbounded i j (old i) n) (one_event j l second)
          (unbounded (nodes.Event i) (nodes.Event j) (stays_node i k first) (stays_node j l second)));
      executions = (
        λ whole. ((λ n. whole.0 (node_before old n)), fewer whole.0 whole.1),
        λ less. (let (y, whole, agrees) = extended less.0 less.1 in (y, whole)),
      );
    }
