-- Bounds are in force once, while they are pushed and withdrawn.
use Rattle.std.proofs.Common.{◌≡◌, ◌≢◌, ◌⊎◌, ◌<◌, ℕ, Bool, true, false, List, [], ◌∷◌, ◌++◌, Option, Some, None, length, get_or, Contains, All, AllPairs, refl, sym, ◌∙◌, ap, subst, arith, inl, inr, length-append}
use Rattle.std.specs.List.{flat_map}
use Rattle.std.proofs.Math.Seq.{get_or-append_seam}
use Rattle.std.proofs.lemmas.Bool.{cases_lt, cases_eq}
use Rattle.std.proofs.lemmas.List.{get_or_append_left, get_or_past}
use Rattle.std.proofs.lemmas.List.Elements.{All-append, All-cons, All-nil, All-head, All-tail, All-contains}
use Rattle.std.proofs.lemmas.List.Kept.{AllPairs-cons}
use Rattle.problem_model.specs.declared.items.Event.{Event}
use Rattle.problem_model.specs.declared.items.Message.{Message}
use Rattle.problem_model.specs.declared.items.Node.{Node}
use Rattle.problem_model.specs.declared.items.Node.TheVariants as nodes
use Rattle.problem_model.specs.declared.items.Bound.{Bound}
use Rattle.problem_model.specs.declared.items.Bound.TheVariants as bounds
use Rattle.problem_model.specs.declared.items.Bound.TheVariants.{SpanMost, SpanLeast, Late, Early, DelayMost, DelayLeast}
use Rattle.problem_model.specs.Problem.{ProblemLists, IsChained}
use Rattle.problem_model.specs.Bounds.{Constraint, Declares}
use Rattle.problem_model.specs.ShortList.{message_bounds, most_bound}
use Rattle.problem_model.proofs.NearestFollows.{rises_after}
use Rattle.sync_graph.specs.declared.arc.Arc.{Arc}
use Rattle.sync_graph.specs.Graph.{GraphLists, arc_at, with_arc}
use Rattle.sync_graph.specs.InForce.{IsInForce}
use Rattle.problem_graph.specs.Standing.{HasNode}
use Rattle.sync_graph.proofs.InForce.{no_arc}
use Rattle.traces.proofs.Members.{here, there, none_in, first_of_pairs, rest_of_pairs, no_pairs, pairs_joined}
use Rattle.roster.specs.Growing.{HasBound, IsGrownTo}
use Rattle.roster.specs.Withdrawing.{Withdraws, IsDelayOf}
use Rattle.roster.specs.Entering.{Enters, AreNearest, IsStampAbove, IsLaterEnd, span_below, span_above, follow_before, follow_after, reading_bounds, entry_bounds}
use Rattle.roster.specs.Once.{IsOn, HasEachOnce, HaveOwnEnds, TakesOut}
use Rattle.roster.proofs.PushedBounds.{was}
use Rattle.roster.proofs.Linked.{later_comes}

-- ---- numbers that are taken out
module _ (messages : List Message) (numbers : List ℕ) (g h : GraphLists) (takes : TakesOut messages numbers g h) (each : HasEachOnce [] g) where
  was_there : (a : Arc) → IsInForce h a → IsInForce g a
  was_there a (k, on, is) = (k, takes.on k on, subst (λ (xs : List Arc). arc_at xs k ≡ a) takes.arcs is)

  is_out : (a : Arc) → IsInForce h a → IsDelayOf messages a.name → ⊥
  is_out a (k, on, is) delay =
      let own : arc_at g.arcs k ≡ a = subst (λ (xs : List Arc). arc_at xs k ≡ a) takes.arcs is in
      let found = takes.all a.name delay (a, (k, takes.on k on, own), refl) in
      let name : (arc_at g.arcs k).name ≡ a.name = ap (λ (x : Arc). x.name) own in
      let one : found.0 ≡ k = each.once found.0 k found.2 (takes.on k on) (found.3 ∙ sym name) in
      takes.off k on (subst (Contains numbers) one found.1)

  pub taken_out : Withdraws messages g h × HasEachOnce [] h
  taken_out = (
    record {
      nodes = takes.nodes;
      each = was_there;
      gone = is_out;
      every = λ a (k, on, is). elim (takes.others k on) [
        | inl among ↦ inl (subst (λ (x : Arc). IsDelayOf messages x.name) is (takes.of_messages k among))
        | inr still ↦ inr (k, still, subst (λ (xs : List Arc). arc_at xs k ≡ a) (sym takes.arcs) is)
      ];
    },
    record {
      once = λ j k on_j on_k same. each.once j k (takes.on j on_j) (takes.on k on_k) (subst (λ (xs : List Arc). (arc_at xs j).name ≡ (arc_at xs k).name) takes.arcs same);
      left_out = λ b among has. absurd (none_in b among);
      left_differ = each.left_differ;
    },
  )

-- ---- an arc that is pushed
module _ (g : GraphLists) (a : Arc) (flags : length g.in_force ≡ length g.arcs) where
  number_was : (j : ℕ) → IsOn (with_arc g a) j → (IsOn g j × (arc_at (g.arcs ++ a ∷ []) j ≡ arc_at g.arcs j)) ⊎ ((j ≡ length g.arcs) × (arc_at (g.arcs ++ a ∷ []) j ≡ a))
  number_was j on = elim (cases_lt j (length g.arcs)) [
    | inl inside ↦ inl (sym (get_or_append_left g.in_force (true ∷ []) false j (omega (arith, inside, flags))) ∙ on, get_or_append_left g.arcs (a ∷ []) no_arc j inside)
    | inr past ↦ elim (cases_eq j (length g.arcs)) [
      | inl same ↦ inr (same, ap (arc_at (g.arcs ++ a ∷ [])) same ∙ get_or-append_seam g.arcs a [] no_arc)
      | inr other ↦ absurd (
          let none : get_or (g.in_force ++ true ∷ []) j false ≡ false = get_or_past (g.in_force ++ true ∷ []) j false (omega (arith, past, other, flags, length-append g.in_force (true ∷ []))) in
          let z : ⊥ = cc in
          z)
    ]
  ]

  pub pushed_once : (b : Bound) (rest : List Bound) → a.name ≡ b → HasEachOnce (b ∷ rest) g → HasEachOnce rest (with_arc g a)
  pushed_once b rest name each = record {
    once = λ j k on_j on_k same. elim (number_was j on_j) [
      | inl (old_j, at_j) ↦ elim (number_was k on_k) [
        | inl (old_k, at_k) ↦ each.once j k old_j old_k (ap (λ (x : Arc). x.name) (sym at_j) ∙ same ∙ ap (λ (x : Arc). x.name) at_k)
        | inr (last, at_k) ↦ absurd (each.left_out b (here b rest) (arc_at g.arcs j, (j, old_j, refl), ap (λ (x : Arc). x.name) (sym at_j) ∙ same ∙ ap (λ (x : Arc). x.name) at_k ∙ name))
      ]
      | inr (last, at_j) ↦ elim (number_was k on_k) [
        | inl (old_k, at_k) ↦ absurd (each.left_out b (here b rest) (arc_at g.arcs k, (k, old_k, refl), ap (λ (x : Arc). x.name) (sym at_k) ∙ sym same ∙ ap (λ (x : Arc). x.name) at_j ∙ name))
        | inr (last', at_k) ↦ last ∙ sym last'
      ]
    ];
    left_out = λ c among (x, force, is). elim (was g a flags x force) [
      | inl old ↦ each.left_out c (there b c rest among) (x, old, is)
      | inr same ↦ All-contains (λ (d : Bound). b ≢ d) rest c (first_of_pairs (λ (d f : Bound). d ≢ f) b rest each.left_differ) among (sym name ∙ ap (λ (y : Arc). y.name) (sym same) ∙ is)
    ];
    left_differ = rest_of_pairs (λ (d f : Bound). d ≢ f) b rest each.left_differ;
  }

-- ---- the bounds of an entry
none_given : (P : Bound → Type 0) (v : ℕ) → (messages : List Message) → All (λ (m : Message). (m.send ≡ v) ⊎ (m.receive ≡ v)) messages → ((m : Message) → (m.send ≡ v) ⊎ (m.receive ≡ v) → All P (message_bounds m)) → All P (flat_map message_bounds messages)
none_given P v [] own give = All-nil P
none_given P v (m ∷ messages) own give =
    All-append P (message_bounds m) (flat_map message_bounds messages) (give m (All-head (λ (m : Message). (m.send ≡ v) ⊎ (m.receive ≡ v)) m messages own)) (none_given P v messages (All-tail (λ (m : Message). (m.send ≡ v) ⊎ (m.receive ≡ v)) m messages own) give)

of_message : (P : Bound → Type 0) (m : Message) (o : Option ℕ) → P (DelayMost m.send m.receive) → P (DelayLeast m.send m.receive) → All P (most_bound m o ++ DelayLeast m.send m.receive ∷ [])
of_message P m None most least = All-cons P (DelayLeast m.send m.receive) [] least (All-nil P)
of_message P m (Some n) most least = All-cons P (DelayMost m.send m.receive) (DelayLeast m.send m.receive ∷ []) most (All-cons P (DelayLeast m.send m.receive) [] least (All-nil P))

module _ (p : ProblemLists) (entered : ℕ → Bool) (v : ℕ) (e : Event) (below above : Option ℕ) (earlier later : Option (ℕ × ℕ)) (messages : List Message) (g : GraphLists) (chains : IsChained p) (fresh : entered v ≡ false)
    (nearest : AreNearest p g e below above earlier later) (apart : HaveOwnEnds v messages)
    (grown : IsGrownTo p entered g) where
  abbrev Out : Bound → Type 0
  Out b = HasBound g b → ⊥

  no_event : HasNode g (nodes.Event v) → ⊥
  no_event has = (let own = grown.nodes (nodes.Event v) has in let in' : entered v ≡ true = own.1.1 in absurd (cc))

  -- a bound with an end that is no node is not in force
  out : (b : Bound) (n : Node) → (HasNode g n → ⊥) → ((c : Constraint) → Declares p b c → (c.from ≡ n) ⊎ (c.to ≡ n)) → Out b
  out b n none ends (a, force, name) =
      let own = grown.each a force in
      elim (ends own.0 (subst (λ (x : Bound). Declares p x own.0) name own.1)) [
        | inl from ↦ none (a.from, own.2 ∙ ap Some from)
        | inr to ↦ none (a.to, own.3 ∙ ap Some to)
      ]

  late_out : Out (Late v)
  late_out = out (Late v) (nodes.Event v) no_event (λ c (x, k, at, on, is). inr (ap (λ (y : Constraint). y.to) is))

  early_out : Out (Early v)
  early_out = out (Early v) (nodes.Event v) no_event (λ c (x, k, at, on, is). inl (ap (λ (y : Constraint). y.from) is))

  most_out : (m : Message) → (m.send ≡ v) ⊎ (m.receive ≡ v) → Out (DelayMost m.send m.receive)
  most_out m (inl from) = out (DelayMost m.send m.receive) (nodes.Event v) no_event (λ c (x, most, among, s, r, is_most, is). inl (ap (λ (y : Constraint). y.from) is ∙ ap (λ (w : ℕ). nodes.Event w) from))
  most_out m (inr to) = out (DelayMost m.send m.receive) (nodes.Event v) no_event (λ c (x, most, among, s, r, is_most, is). inr (ap (λ (y : Constraint). y.to) is ∙ ap (λ (w : ℕ). nodes.Event w) to))

  least_out : (m : Message) → (m.send ≡ v) ⊎ (m.receive ≡ v) → Out (DelayLeast m.send m.receive)
  least_out m (inl from) = out (DelayLeast m.send m.receive) (nodes.Event v) no_event (λ c (x, among, s, r, is). inr (ap (λ (y : Constraint). y.to) is ∙ ap (λ (w : ℕ). nodes.Event w) from))
  least_out m (inr to) = out (DelayLeast m.send m.receive) (nodes.Event v) no_event (λ c (x, among, s, r, is). inl (ap (λ (y : Constraint). y.from) is ∙ ap (λ (w : ℕ). nodes.Event w) to))

  below_out : (o : Option ℕ) → (HasNode g (nodes.Reading e.clock e.stamp) × (o ≡ None)) ⊎ (HasNode g (nodes.Reading e.clock e.stamp) → ⊥) → All Out (span_below e.clock e.stamp o)
  below_out None told = All-nil Out
  below_out (Some s) (inl known) = absurd (let z : ⊥ = cc in z)
  below_out (Some s) (inr new) =
      All-cons Out (SpanMost e.clock s e.stamp) (SpanLeast e.clock s e.stamp ∷ []) (out (SpanMost e.clock s e.stamp) (nodes.Reading e.clock e.stamp) new (λ c (k, at, first, second, less, is). inr (ap (λ (y : Constraint). y.to) is)))
      (All-cons Out (SpanLeast e.clock s e.stamp) [] (out (SpanLeast e.clock s e.stamp) (nodes.Reading e.clock e.stamp) new (λ c (k, at, first, second, less, is). inl (ap (λ (y : Constraint). y.from) is))) (All-nil Out))

  above_out : (o : Option ℕ) → (HasNode g (nodes.Reading e.clock e.stamp) × (o ≡ None)) ⊎ (HasNode g (nodes.Reading e.clock e.stamp) → ⊥) → All Out (span_above e.clock e.stamp o)
  above_out None told = All-nil Out
  above_out (Some t) (inl known) = absurd (let z : ⊥ = cc in z)
  above_out (Some t) (inr new) =
      All-cons Out (SpanMost e.clock e.stamp t) (SpanLeast e.clock e.stamp t ∷ []) (out (SpanMost e.clock e.stamp t) (nodes.Reading e.clock e.stamp) new (λ c (k, at, first, second, less, is). inl (ap (λ (y : Constraint). y.from) is)))
      (All-cons Out (SpanLeast e.clock e.stamp t) [] (out (SpanLeast e.clock e.stamp t) (nodes.Reading e.clock e.stamp) new (λ c (k, at, first, second, less, is). inr (ap (λ (y : Constraint). y.to) is))) (All-nil Out))

  before_out : (o : Option (ℕ × ℕ)) → (HasNode g (nodes.Reading e.clock e.stamp) × (o ≡ None)) ⊎ (HasNode g (nodes.Reading e.clock e.stamp) → ⊥) → All Out (follow_before e.clock e.stamp o)
  before_out None told = All-nil Out
  before_out (Some (c, s)) (inl known) = absurd (let z : ⊥ = cc in z)
  before_out (Some (c, s)) (inr new) =
      All-cons Out (bounds.Follow c s e.clock e.stamp) [] (out (bounds.Follow c s e.clock e.stamp) (nodes.Reading e.clock e.stamp) new (λ x (f, among, on, comes, first, second, is). inl (ap (λ (y : Constraint). y.from) is))) (All-nil Out)

  after_out : (o : Option (ℕ × ℕ)) → (HasNode g (nodes.Reading e.clock e.stamp) × (o ≡ None)) ⊎ (HasNode g (nodes.Reading e.clock e.stamp) → ⊥) → All Out (follow_after e.clock e.stamp o)
  after_out None told = All-nil Out
  after_out (Some (d, t)) (inl known) = absurd (let z : ⊥ = cc in z)
  after_out (Some (d, t)) (inr new) =
      All-cons Out (bounds.Follow e.clock e.stamp d t) [] (out (bounds.Follow e.clock e.stamp d t) (nodes.Reading e.clock e.stamp) new (λ x (f, among, on, comes, first, second, is). inr (ap (λ (y : Constraint). y.to) is))) (All-nil Out)

  below_told : (HasNode g (nodes.Reading e.clock e.stamp) × (below ≡ None)) ⊎ (HasNode g (nodes.Reading e.clock e.stamp) → ⊥)
  below_told = elim nearest [ inl known ↦ inl (known.0, known.1) | inr sides ↦ inr sides.0 ]

  above_told : (HasNode g (nodes.Reading e.clock e.stamp) × (above ≡ None)) ⊎ (HasNode g (nodes.Reading e.clock e.stamp) → ⊥)
  above_told = elim nearest [ inl known ↦ inl (known.0, known.2) | inr sides ↦ inr sides.0 ]

  earlier_told : (HasNode g (nodes.Reading e.clock e.stamp) × (earlier ≡ None)) ⊎ (HasNode g (nodes.Reading e.clock e.stamp) → ⊥)
  earlier_told = elim nearest [ inl known ↦ inl (known.0, known.3) | inr sides ↦ inr sides.0 ]

  later_told : (HasNode g (nodes.Reading e.clock e.stamp) × (later ≡ None)) ⊎ (HasNode g (nodes.Reading e.clock e.stamp) → ⊥)
  later_told = elim nearest [ inl known ↦ inl (known.0, known.4) | inr sides ↦ inr sides.0 ]

  abbrev lower : List Bound
  lower = span_below e.clock e.stamp below

  abbrev upper : List Bound
  upper = span_above e.clock e.stamp above

  abbrev before : List Bound
  before = follow_before e.clock e.stamp earlier

  abbrev behind : List Bound
  behind = follow_after e.clock e.stamp later

  abbrev own : List Bound
  own = Late v ∷ Early v ∷ flat_map message_bounds messages

  own_out : All Out own
  own_out =
      All-cons Out (Late v) (Early v ∷ flat_map message_bounds messages) late_out
      (All-cons Out (Early v) (flat_map message_bounds messages) early_out
      (none_given Out v messages apart.own (λ m end. of_message Out m m.most (most_out m end) (least_out m end))))

  all_out : All Out (entry_bounds v e below above earlier later messages)
  all_out =
      All-append Out (reading_bounds e.clock e.stamp below above earlier later) own
      (All-append Out lower (upper ++ (before ++ behind)) (below_out below below_told)
      (All-append Out upper (before ++ behind) (above_out above above_told)
      (All-append Out before behind (before_out earlier earlier_told) (after_out later later_told))))
      own_out

  -- ---- no two are one
  abbrev Differ : Bound → Bound → Type 0
  Differ a b = a ≢ b

  two : (a b : Bound) → a ≢ b → AllPairs Differ (a ∷ b ∷ [])
  two a b differ = AllPairs-cons Differ a (b ∷ []) (All-cons (Differ a) b [] differ (All-nil (Differ a))) (AllPairs-cons Differ b [] (All-nil (Differ b)) (no_pairs Differ))

  below_differ : (o : Option ℕ) → AllPairs Differ (span_below e.clock e.stamp o)
  below_differ None = no_pairs Differ
  below_differ (Some s) = two (SpanMost e.clock s e.stamp) (SpanLeast e.clock s e.stamp) (λ same. absurd (cc))

  above_differ : (o : Option ℕ) → AllPairs Differ (span_above e.clock e.stamp o)
  above_differ None = no_pairs Differ
  above_differ (Some t) = two (SpanMost e.clock e.stamp t) (SpanLeast e.clock e.stamp t) (λ same. absurd (cc))

  follow_differ : (o : Option (ℕ × ℕ)) → AllPairs Differ (follow_before e.clock e.stamp o)
  follow_differ None = no_pairs Differ
  follow_differ (Some (c, s)) = AllPairs-cons Differ (bounds.Follow c s e.clock e.stamp) [] (All-nil (Differ (bounds.Follow c s e.clock e.stamp))) (no_pairs Differ)

  behind_differ : (o : Option (ℕ × ℕ)) → AllPairs Differ (follow_after e.clock e.stamp o)
  behind_differ None = no_pairs Differ
  behind_differ (Some (d, t)) = AllPairs-cons Differ (bounds.Follow e.clock e.stamp d t) [] (All-nil (Differ (bounds.Follow e.clock e.stamp d t))) (no_pairs Differ)

  -- what a bound leads to: the later stamp of a span, the later clock of a follow
  abbrev rank : Bound → ℕ
  rank (SpanMost clock s t) = t
  rank (SpanLeast clock s t) = t
  rank (Late w) = 0
  rank (Early w) = 0
  rank (bounds.Follow c s d t) = d
  rank (DelayMost s r) = 0
  rank (DelayLeast s r) = 0

  -- whether a bound is on a span, on a follow, or on neither
  abbrev kind : Bound → ℕ
  kind (SpanMost clock s t) = 0
  kind (SpanLeast clock s t) = 0
  kind (bounds.Follow c s d t) = 1
  kind (Late w) = 2
  kind (Early w) = 2
  kind (DelayMost s r) = 2
  kind (DelayLeast s r) = 2

  abbrev IsLower : Bound → Type 0
  IsLower b = (kind b ≡ 0) × (rank b ≡ e.stamp)

  abbrev IsUpper : Bound → Type 0
  IsUpper b = (kind b ≡ 0) × (e.stamp < rank b)

  abbrev IsBefore : Bound → Type 0
  IsBefore b = (kind b ≡ 1) × (rank b ≡ e.clock)

  abbrev IsBehind : Bound → Type 0
  IsBehind b = (kind b ≡ 1) × (e.clock < rank b)

  below_ranks : (o : Option ℕ) → All IsLower (span_below e.clock e.stamp o)
  below_ranks None = All-nil IsLower
  below_ranks (Some s) = All-cons IsLower (SpanMost e.clock s e.stamp) (SpanLeast e.clock s e.stamp ∷ []) (refl, refl) (All-cons IsLower (SpanLeast e.clock s e.stamp) [] (refl, refl) (All-nil IsLower))

  above_ranks : (o : Option ℕ) → ((t : ℕ) → o ≡ Some t → e.stamp < t) → All IsUpper (span_above e.clock e.stamp o)
  above_ranks None past = All-nil IsUpper
  above_ranks (Some t) past = All-cons IsUpper (SpanMost e.clock e.stamp t) (SpanLeast e.clock e.stamp t ∷ []) (refl, past t refl) (All-cons IsUpper (SpanLeast e.clock e.stamp t) [] (refl, past t refl) (All-nil IsUpper))

  before_ranks : (o : Option (ℕ × ℕ)) → All IsBefore (follow_before e.clock e.stamp o)
  before_ranks None = All-nil IsBefore
  before_ranks (Some (c, s)) = All-cons IsBefore (bounds.Follow c s e.clock e.stamp) [] (refl, refl) (All-nil IsBefore)

  behind_ranks : (o : Option (ℕ × ℕ)) → (o ≡ None) ⊎ IsLaterEnd p g e.clock above o → All IsBehind (follow_after e.clock e.stamp o)
  behind_ranks None told = All-nil IsBehind
  behind_ranks (Some (d, t)) (inl none) = absurd (cc)
  behind_ranks (Some (d, t)) (inr is) = All-cons IsBehind (bounds.Follow e.clock e.stamp d t) [] (refl, rises_after p chains e.clock d (later_comes p g e.clock above d t is)) (All-nil IsBehind)

  past_above : (o : Option ℕ) → ((o ≡ None) ⊎ IsStampAbove g e.clock e.stamp o) → (t : ℕ) → o ≡ Some t → e.stamp < t
  past_above None told t is = absurd (cc)
  past_above (Some u) (inl none) t is = absurd (cc)
  past_above (Some u) (inr sides) t is = (let same : u ≡ t = cc in let less = sides.1 in omega (arith, same, less))

  -- all pairs of two lists that a property tells apart
  across : (P Q : Bound → Type 0) → ((a b : Bound) → P a → Q b → a ≢ b) → (xs ys : List Bound) → All P xs → All Q ys → All (λ (a : Bound). All (Differ a) ys) xs
  across P Q apart' xs ys all_p all_q i d inside = λ j f within. apart' (get_or xs i d) (get_or ys j f) (all_p i d inside) (all_q j f within)

  own_plain : All (λ (b : Bound). kind b ≡ 2) own
  own_plain =
      All-cons (λ (b : Bound). kind b ≡ 2) (Late v) (Early v ∷ flat_map message_bounds messages) refl
      (All-cons (λ (b : Bound). kind b ≡ 2) (Early v) (flat_map message_bounds messages) refl (none_given (λ (b : Bound). kind b ≡ 2) v messages apart.own (λ m end. of_message (λ (b : Bound). kind b ≡ 2) m m.most refl refl)))

  -- ---- delays
  abbrev OfMessage : Message → Bound → Type 0
  OfMessage m b = (b ≡ DelayMost m.send m.receive) ⊎ (b ≡ DelayLeast m.send m.receive)

  delays_of : (ms : List Message) → All (λ (b : Bound). (m : Message) × Contains ms m × OfMessage m b) (flat_map message_bounds ms)
  delays_of [] = All-nil (λ (b : Bound). (m : Message) × Contains {X = Message} [] m × OfMessage m b)
  delays_of (m ∷ ms) =
      All-append (λ (b : Bound). (n : Message) × Contains (m ∷ ms) n × OfMessage n b) (message_bounds m) (flat_map message_bounds ms)
      (of_message (λ (b : Bound). (n : Message) × Contains (m ∷ ms) n × OfMessage n b) m m.most (m, here m ms, inl refl) (m, here m ms, inr refl))
      (λ i d inside. (let x = delays_of ms i d inside in (x.0, there m x.0 ms x.1, x.2)))

  own_of : (m : Message) → All (OfMessage m) (message_bounds m)
  own_of m = of_message (OfMessage m) m m.most (inl refl) (inr refl)

  one_message : (m n : Message) (a b : Bound) → OfMessage m a → OfMessage n b → a ≡ b → (m.send ≡ n.send) × (m.receive ≡ n.receive)
  one_message m n a b (inl x) (inl y) same = (let e : DelayMost m.send m.receive ≡ DelayMost n.send n.receive = sym x ∙ same ∙ y in (cc, cc))
  one_message m n a b (inl x) (inr y) same = (let e : DelayMost m.send m.receive ≡ DelayLeast n.send n.receive = sym x ∙ same ∙ y in absurd (cc))
  one_message m n a b (inr x) (inl y) same = (let e : DelayLeast m.send m.receive ≡ DelayMost n.send n.receive = sym x ∙ same ∙ y in absurd (cc))
  one_message m n a b (inr x) (inr y) same = (let e : DelayLeast m.send m.receive ≡ DelayLeast n.send n.receive = sym x ∙ same ∙ y in (cc, cc))

  message_differ : (m : Message) (o : Option ℕ) → AllPairs Differ (most_bound m o ++ DelayLeast m.send m.receive ∷ [])
  message_differ m None = AllPairs-cons Differ (DelayLeast m.send m.receive) [] (All-nil (Differ (DelayLeast m.send m.receive))) (no_pairs Differ)
  message_differ m (Some n) = two (DelayMost m.send m.receive) (DelayLeast m.send m.receive) (λ same. absurd (cc))

  delays_differ : (ms : List Message) → AllPairs (λ (m n : Message). (m.send ≡ n.send) → (m.receive ≡ n.receive) → ⊥) ms → AllPairs Differ (flat_map message_bounds ms)
  delays_differ [] differ = no_pairs Differ
  delays_differ (m ∷ ms) differ =
      pairs_joined Differ (message_bounds m) (flat_map message_bounds ms) (message_differ m m.most) (delays_differ ms (rest_of_pairs (λ (x y : Message). (x.send ≡ y.send) → (x.receive ≡ y.receive) → ⊥) m ms differ))
      (across (OfMessage m) (λ (b : Bound). (n : Message) × Contains ms n × OfMessage n b)
      (λ a b x (n, among, y) same. (
      let ends = one_message m n a b x y same in
      All-contains (λ (k : Message). (m.send ≡ k.send) → (m.receive ≡ k.receive) → ⊥) ms n (first_of_pairs (λ (x y : Message). (x.send ≡ y.send) → (x.receive ≡ y.receive) → ⊥) m ms differ) among ends.0 ends.1))
      (message_bounds m) (flat_map message_bounds ms) (own_of m) (delays_of ms))

  abbrev is_delay : Bound → Bool
  is_delay (SpanMost clock s t) = false
  is_delay (SpanLeast clock s t) = false
  is_delay (Late w) = false
  is_delay (Early w) = false
  is_delay (bounds.Follow c s d t) = false
  is_delay (DelayMost s r) = true
  is_delay (DelayLeast s r) = true

  only_delays : All (λ (b : Bound). is_delay b ≡ true) (flat_map message_bounds messages)
  only_delays = none_given (λ (b : Bound). is_delay b ≡ true) v messages apart.own (λ m end. of_message (λ (b : Bound). is_delay b ≡ true) m m.most refl refl)

  other_than : (a : Bound) → is_delay a ≡ false → (b : Bound) → is_delay b ≡ true → a ≢ b
  other_than a is_not b is same = (let e : is_delay a ≡ is_delay b = ap is_delay same in absurd (cc))

  own_differ : AllPairs Differ own
  own_differ =
      AllPairs-cons Differ (Late v) (Early v ∷ flat_map message_bounds messages)
      (All-cons (Differ (Late v)) (Early v) (flat_map message_bounds messages) (λ same. absurd (cc)) (λ i d inside. other_than (Late v) refl (get_or (flat_map message_bounds messages) i d) (only_delays i d inside)))
      (AllPairs-cons Differ (Early v) (flat_map message_bounds messages) (λ i d inside. other_than (Early v) refl (get_or (flat_map message_bounds messages) i d) (only_delays i d inside)) (delays_differ messages apart.differ))

  above_side : (above ≡ None) ⊎ IsStampAbove g e.clock e.stamp above
  above_side = elim nearest [ inl known ↦ inl known.2 | inr sides ↦ inr sides.2 ]

  later_side : (later ≡ None) ⊎ IsLaterEnd p g e.clock above later
  later_side = elim nearest [ inl known ↦ inl known.4 | inr sides ↦ inr sides.4 ]

  upper_is : All IsUpper upper
  upper_is = above_ranks above (past_above above above_side)

  behind_is : All IsBehind behind
  behind_is = behind_ranks later later_side

  -- bounds of two kinds differ
  kinds_apart : (i j : ℕ) → i < j → (a b : Bound) → kind a ≡ i → kind b ≡ j → a ≢ b
  kinds_apart i j less a b x y same = (let f : kind a ≡ kind b = ap kind same in omega (arith, f, x, y, less))

  follows_kind : All (λ (b : Bound). kind b ≡ 1) (before ++ behind)
  follows_kind = All-append (λ (b : Bound). kind b ≡ 1) before behind (λ i d inside. (before_ranks earlier i d inside).0) (λ i d inside. (behind_is i d inside).0)

  follows_differ : AllPairs Differ (before ++ behind)
  follows_differ = pairs_joined Differ before behind (follow_differ earlier) (behind_differ later) (across IsBefore IsBehind ends_apart before behind (before_ranks earlier) behind_is)
    where
      ends_apart : (a b : Bound) → IsBefore a → IsBehind b → a ≢ b
      ends_apart a b x y same = (let f : rank a ≡ rank b = ap rank same in let r = x.1 in let l = y.1 in omega (arith, f, r, l))

  spans_differ : All (λ (a : Bound). All (Differ a) upper) lower
  spans_differ = across IsLower IsUpper ends_apart lower upper (below_ranks below) upper_is
    where
      ends_apart : (a b : Bound) → IsLower a → IsUpper b → a ≢ b
      ends_apart a b x y same = (let f : rank a ≡ rank b = ap rank same in let r = x.1 in let l = y.1 in omega (arith, f, r, l))

  lower_follows : All (λ (a : Bound). All (Differ a) (before ++ behind)) lower
  lower_follows = across IsLower (λ (b : Bound). kind b ≡ 1) (λ a b x y. kinds_apart 0 1 (omega arith) a b x.0 y) lower (before ++ behind) (below_ranks below) follows_kind

  reading_differ : AllPairs Differ (reading_bounds e.clock e.stamp below above earlier later)
  reading_differ =
      pairs_joined Differ lower (upper ++ (before ++ behind)) (below_differ below)
      (pairs_joined Differ upper (before ++ behind) (above_differ above) follows_differ
      (across IsUpper (λ (b : Bound). kind b ≡ 1) (λ a b x y. kinds_apart 0 1 (omega arith) a b x.0 y) upper (before ++ behind) upper_is follows_kind))
      (λ i d inside. All-append (Differ (get_or lower i d)) upper (before ++ behind) (spans_differ i d inside) (lower_follows i d inside))

  reading_kind : All (λ (b : Bound). kind b < 2) (reading_bounds e.clock e.stamp below above earlier later)
  reading_kind =
      All-append (λ (b : Bound). kind b < 2) lower (upper ++ (before ++ behind)) (λ i d inside. (let k = (below_ranks below i d inside).0 in omega (arith, k)))
      (All-append (λ (b : Bound). kind b < 2) upper (before ++ behind) (λ i d inside. (let k = (upper_is i d inside).0 in omega (arith, k))) (λ i d inside. (let k = follows_kind i d inside in omega (arith, k))))

  all_differ : AllPairs Differ (entry_bounds v e below above earlier later messages)
  all_differ =
      pairs_joined Differ (reading_bounds e.clock e.stamp below above earlier later) own reading_differ own_differ
      (across (λ (b : Bound). kind b < 2) (λ (b : Bound). kind b ≡ 2) (λ a b x y. kinds_apart (kind a) 2 x a b refl y) (reading_bounds e.clock e.stamp below above earlier later) own reading_kind own_plain)

  module _ (h : GraphLists) (enters : Enters v e g h) (each : HasEachOnce [] g) where
    pub entered_once : HasEachOnce (entry_bounds v e below above earlier later messages) h
    entered_once = record {
      once = λ j k on_j on_k same. each.once j k (on_there j on_j) (on_there k on_k) (subst (λ (xs : List Arc). (arc_at xs j).name ≡ (arc_at xs k).name) enters.arcs same);
      left_out = λ b among (a, (k, on, is), name). All-contains Out (entry_bounds v e below above earlier later messages) b all_out among (a, (k, on_there k on, subst (λ (xs : List Arc). arc_at xs k ≡ a) enters.arcs is), name);
      left_differ = all_differ;
    }
      where
        on_there : (k : ℕ) → IsOn h k → IsOn g k
        on_there k on = subst (λ (fs : List Bool). get_or fs k false ≡ true) enters.in_force on
