-- The arcs of messages that are withdrawn, by their numbers.
use Rattle.std.proofs.Common.{◌≡◌, ◌≢◌, ◌⊎◌, ◌-◌, ℕ, suc, Bool, true, false, List, [], ◌∷◌, Option, Some, None, map, get_or, Contains, All, AllPairs, refl, sym, ◌∙◌, ap, subst, arith, inl, inr}
use Rattle.std.specs.List.{flat_map}
use Rattle.std.proofs.lemmas.Bool.{cases_Bool}
use Rattle.std.proofs.lemmas.Option.{get_or_from_slice_get}
use Rattle.std.proofs.lemmas.List.Elements.{All-cons, All-nil, All-contains, Contains-get_or}
use Rattle.std.proofs.lemmas.List.Kept.{AllPairs-cons}
use Rattle.problem_model.specs.declared.items.Message.{Message}
use Rattle.problem_model.specs.declared.items.Bound.{Bound}
use Rattle.problem_model.specs.declared.items.Bound.TheVariants as bounds
use Rattle.problem_model.specs.declared.items.Bound.TheVariants.{SpanMost, SpanLeast, Late, Early, DelayMost, DelayLeast}
use Rattle.problem_model.specs.Bounds.{Declares}
use Rattle.sync_graph.specs.Graph.{GraphLists, arc_at}
use Rattle.solver.specs.Changes.{withdrawn}
use Rattle.traces.proofs.Members.{here, there, none_in, head_or_tail, given_by, giver, first_of_pairs, rest_of_pairs, no_pairs, pairs_joined}
use Rattle.roster.specs.declared.came.Came.{Came}
use Rattle.roster.specs.declared.came.Partner.{Partner}
use Rattle.roster.specs.Roster.{RosterLists, no_event, event_at}
use Rattle.roster.specs.Entered.{all_events}
use Rattle.roster.specs.Growing.{IsGrownTo, HasBound}
use Rattle.roster.specs.Withdrawing.{IsDelayOf}
use Rattle.roster.specs.Once.{IsOn, TakesOut}
use Rattle.roster.specs.Rosters.{problem_by_number}
use Rattle.session_graph.specs.Kept.{HasArcs, TellsArc}
use Rattle.session_graph.specs.Withdrawn.{partner_arc, arcs_to, told_arcs}
use Rattle.session_graph.proofs.Flags.{stays_off, off_in, on_or_in}
use Rattle.session_graph.proofs.Messages.{OfMessage}

-- ---- elements
pub all_from : {X : Type 0} (P : X → Type 0) (xs : List X) → ((x : X) → Contains xs x → P x) → All P xs
all_from P xs give i d inside = give (get_or xs i d) (Contains-get_or xs i d inside)

pub mapped : {X Y : Type 0} (f : X → Y) (xs : List X) (y : Y) → Contains (map f xs) y → (x : X) × Contains xs x × (f x ≡ y)
mapped f [] y among = absurd (none_in y among)
mapped f (x ∷ xs) y among = elim (head_or_tail (f x) y (map f xs) among) [
  | inl is ↦ (x, here x xs, is)
  | inr more ↦ (let (z, among', is) = mapped f xs y more in (z, there x z xs among', is))
]

pub map_has : {X Y : Type 0} (f : X → Y) (xs : List X) (x : X) → Contains xs x → Contains (map f xs) (f x)
map_has f [] x among = absurd (none_in x among)
map_has f (z ∷ xs) x among = elim (head_or_tail z x xs among) [
  | inl is ↦ subst (λ (w : _). Contains (f z ∷ map f xs) (f w)) is (here (f z) (map f xs))
  | inr more ↦ there (f z) (f x) (map f xs) (map_has f xs x more)
]

-- ---- messages by their bounds and their sends
abbrev send_of : Bound → ℕ
send_of (SpanMost clock s t) = 0
send_of (SpanLeast clock s t) = 0
send_of (Late v) = 0
send_of (Early v) = 0
send_of (bounds.Follow c s d t) = 0
send_of (DelayMost send receive) = send
send_of (DelayLeast send receive) = send

send_is : (m : Message) (b : Bound) → OfMessage m b → send_of b ≡ m.send
send_is m b (inl is) = ap send_of is
send_is m b (inr is) = ap send_of is

delay_of : (messages : List Message) (m : Message) → Contains messages m → (b : Bound) → OfMessage m b → IsDelayOf messages b
delay_of messages m among b (inl is) = subst (IsDelayOf messages) (sym is) (m, among, refl, refl)
delay_of messages m among b (inr is) = subst (IsDelayOf messages) (sym is) (m, among, refl, refl)

-- ---- numbers
module _ (r : RosterLists) (g : GraphLists) (messages : List Message) (own_sends : (m n : Message) → Contains messages m → Contains messages n → m.send ≡ n.send → m ≡ n)
    (tells : (m : Message) → Contains messages m → TellsArc r g m) where
  abbrev Own : Message → ℕ → Type 0
  Own m k = IsOn g k × OfMessage m (arc_at g.arcs k).name

  abbrev Other : ℕ → ℕ → Type 0
  Other j k = j ≢ k

  own_to : (m : Message) (arc : ℕ) (o : Option ℕ) → o ≡ m.most → HasArcs g m arc → All (Own m) (arcs_to arc o)
  own_to m arc None is has = All-cons (Own m) arc [] (has.on, inr has.least) (All-nil (Own m))
  own_to m arc (Some w) is has =
      let (k, next, on, name) = has.most w (sym is) in
      let before : k ≡ arc - 1 = omega (arith, next) in
      All-cons (Own m) (arc - 1) (arc ∷ []) (subst (Own m) before (on, inl name)) (All-cons (Own m) arc [] (has.on, inr has.least) (All-nil (Own m)))

  differ_to : (m : Message) (arc : ℕ) (o : Option ℕ) → o ≡ m.most → HasArcs g m arc → AllPairs Other (arcs_to arc o)
  differ_to m arc None is has = AllPairs-cons Other arc [] (All-nil (Other arc)) (no_pairs Other)
  differ_to m arc (Some w) is has =
      let (k, next, on, name) = has.most w (sym is) in
      AllPairs-cons Other (arc - 1) (arc ∷ []) (All-cons (Other (arc - 1)) arc [] (λ same. omega (arith, next, same)) (All-nil (Other (arc - 1))))
      (AllPairs-cons Other arc [] (All-nil (Other arc)) (no_pairs Other))

  last_to : (arc : ℕ) (o : Option ℕ) → Contains (arcs_to arc o) arc
  last_to arc None = here arc []
  last_to arc (Some w) = there (arc - 1) arc (arc ∷ []) (here arc [])

  first_to : (arc : ℕ) (o : Option ℕ) (w : ℕ) → o ≡ Some w → (k : ℕ) → arc ≡ suc k → Contains (arcs_to arc o) k
  first_to arc None w is k next = absurd (cc)
  first_to arc (Some n) w is k next = (let before : arc - 1 ≡ k = omega (arith, next) in subst (Contains ((arc - 1) ∷ arc ∷ [])) before (here (arc - 1) (arc ∷ [])))

  pub told_is : (m : Message) → Contains messages m → (arc : ℕ) × (told_arcs r m ≡ arcs_to arc m.most) × HasArcs g m arc
  told_is m among =
      let (e, arc, at, partner, has) = tells m among in
      let event : event_at r.came m.send ≡ e = get_or_from_slice_get r.came m.send e no_event at in
      (arc, ap (λ (p : Option Partner). arcs_to (partner_arc p) m.most) (ap (λ (x : Came). x.partner) event ∙ partner), has)

  own : (m : Message) → Contains messages m → All (Own m) (told_arcs r m)
  own m among = (let (arc, is, has) = told_is m among in subst (All (Own m)) (sym is) (own_to m arc m.most refl has))

  module _ (gone : List Message) (among : (m : Message) → Contains gone m → Contains messages m) where
    pub all_own : (k : ℕ) → Contains (flat_map (told_arcs r) gone) k → (m : Message) × Contains gone m × IsOn g k × OfMessage m (arc_at g.arcs k).name
    all_own k has =
        let (m, held, gives) = giver (told_arcs r) gone k has in
        let x = All-contains (Own m) (told_arcs r m) k (own m (among m held)) gives in
        (m, held, x.0, x.1)

    pub all_on : All (IsOn g) (flat_map (told_arcs r) gone)
    all_on = all_from (IsOn g) (flat_map (told_arcs r) gone) (λ k has. (all_own k has).2)

  abbrev Apart : Message → Message → Type 0
  Apart a b = a.send ≢ b.send

  pub all_differ : (gone : List Message) → ((m : Message) → Contains gone m → Contains messages m) → AllPairs Apart gone → AllPairs Other (flat_map (told_arcs r) gone)
  all_differ [] among sends = no_pairs Other
  all_differ (m ∷ gone) among sends =
      let (arc, is, has) = told_is m (among m (here m gone)) in
      let rest : (n : Message) → Contains gone n → Contains messages n = λ n held. among n (there m n gone held) in
      pairs_joined Other (told_arcs r m) (flat_map (told_arcs r) gone) (subst (AllPairs Other) (sym is) (differ_to m arc m.most refl has)) (all_differ gone rest (rest_of_pairs Apart m gone sends))
      (all_from (λ (j : ℕ). All (Other j) (flat_map (told_arcs r) gone)) (told_arcs r m) (λ j held. all_from (Other j) (flat_map (told_arcs r) gone) (λ k held' same. (
      let one = All-contains (Own m) (told_arcs r m) j (own m (among m (here m gone))) held in
      let (n, held_n, on, of) = all_own gone rest k held' in
      let sends_are : m.send ≡ n.send = sym (send_is m (arc_at g.arcs j).name one.1) ∙ ap (λ (i : ℕ). send_of (arc_at g.arcs i).name) same ∙ send_is n (arc_at g.arcs k).name of in
      All-contains (Apart m) gone n (first_of_pairs Apart m gone sends) held_n sends_are))))

  pub sends_apart : (gone : List Message) → ((m : Message) → Contains gone m → Contains messages m) → AllPairs (λ a b. a ≢ b) gone → AllPairs Apart gone
  sends_apart gone among differ i j d below inside =
      let a = get_or gone i d in
      let b = get_or gone j d in
      let has_a : Contains messages a = among a (Contains-get_or gone i d (omega (arith, below, inside))) in
      let has_b : Contains messages b = among b (Contains-get_or gone j d inside) in
      λ same. differ i j d below inside (own_sends a b has_a has_b same)

  -- ---- what is taken out
  module _ (gone : List Message) (among : (m : Message) → Contains gone m → Contains messages m) (grown : IsGrownTo (problem_by_number r messages) all_events g) where
    most_there : (m : Message) → Contains messages m → (send receive : ℕ) → m.send ≡ send → HasBound g (DelayMost send receive) → (w : ℕ) × (m.most ≡ Some w)
    most_there m held send receive from (a, force, name) =
        let own' = grown.each a force in
        let declares : Declares (problem_by_number r messages) (DelayMost send receive) own'.0 = subst (λ (b : Bound). Declares (problem_by_number r messages) b own'.0) name own'.1 in
        let (n, w, held_n, from_n, to_n, most_n, is_n) = declares in
        let one : n ≡ m = own_sends n m held_n held (from_n ∙ sym from) in
        (w, ap (λ (x : Message). x.most) (sym one) ∙ most_n)

    all_of : (b : Bound) → IsDelayOf gone b → HasBound g b → (k : ℕ) × Contains (flat_map (told_arcs r) gone) k × IsOn g k × ((arc_at g.arcs k).name ≡ b)
    all_of (SpanMost clock s t) delay has = absurd delay
    all_of (SpanLeast clock s t) delay has = absurd delay
    all_of (Late v) delay has = absurd delay
    all_of (Early v) delay has = absurd delay
    all_of (bounds.Follow c s d t) delay has = absurd delay
    all_of (DelayMost send receive) (m, held, from, to) has =
        let (arc, told, arcs) = told_is m (among m held) in
        let (w, most) = most_there m (among m held) send receive from has in
        let (k, next, on, name) = arcs.most w most in (
          k,
          given_by (told_arcs r) gone m k held (subst (λ (ks : List ℕ). Contains ks k) (sym told) (first_to arc m.most w most k next)),
          on,
          name ∙ ap (λ (v : ℕ). DelayMost v m.receive) from ∙ ap (λ (v : ℕ). DelayMost send v) to,
        )
    all_of (DelayLeast send receive) (m, held, from, to) has =
        let (arc, told, arcs) = told_is m (among m held) in (
          arc,
          given_by (told_arcs r) gone m arc held (subst (λ (ks : List ℕ). Contains ks arc) (sym told) (last_to arc m.most)),
          arcs.on,
          arcs.least ∙ ap (λ (v : ℕ). DelayLeast v m.receive) from ∙ ap (λ (v : ℕ). DelayLeast send v) to,
        )

    module _ (h : GraphLists) (nodes : h.nodes ≡ g.nodes) (arcs : h.arcs ≡ g.arcs) (flags : h.in_force ≡ withdrawn g.in_force (flat_map (told_arcs r) gone)) where
      flag : (k : ℕ) → IsOn h k → get_or (withdrawn g.in_force (flat_map (told_arcs r) gone)) k false ≡ true
      flag k on = subst (λ (fs : List Bool). get_or fs k false ≡ true) flags on

      was_on : (k : ℕ) → IsOn h k → IsOn g k
      was_on k on = elim (cases_Bool (get_or g.in_force k false)) [
        | inl yes' ↦ yes'
        | inr off ↦ absurd (let one = flag k on in let two = stays_off g.in_force (flat_map (told_arcs r) gone) k off in let z : ⊥ = cc in z)
      ]

      pub still_on : (k : ℕ) → IsOn g k → Contains (flat_map (told_arcs r) gone) k ⊎ IsOn h k
      still_on k on = elim (on_or_in g.in_force (flat_map (told_arcs r) gone) k on) [
        | inl among' ↦ inl among'
        | inr still ↦ inr (subst (λ (fs : List Bool). get_or fs k false ≡ true) (sym flags) still)
      ]

      pub takes_out : TakesOut gone (flat_map (told_arcs r) gone) g h
      takes_out = record {
        nodes = nodes;
        arcs = arcs;
        on = was_on;
        off = λ k on held. (let one = flag k on in let two = off_in g.in_force (flat_map (told_arcs r) gone) k held in let z : ⊥ = cc in z);
        others = still_on;
        of_messages = λ k held. (let (m, held_m, on, of) = all_own gone among k held in delay_of gone m held_m (arc_at g.arcs k).name of);
        all = all_of;
      }
