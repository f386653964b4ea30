-- A graph that has grown to all events of a problem stands for it.
use Rattle.std.proofs.Common.{◌≡◌, ◌≢◌, ◌<◌, ◌+◌, ℕ, zero, suc, List, [], ◌∷◌, ◌++◌, length, map, get_or, slice_get, Some, Contains, AllPairs, refl, sym, ◌∙◌, ap, subst, arith, inl, inr}
use Rattle.std.proofs.lemmas.List.{length-map, get_or-map}
use Rattle.std.proofs.lemmas.List.Elements.{All-weaker, Contains-append_left, Contains-append_right}
use Rattle.std.proofs.lemmas.Option.{same_Some, slice_get_within, slice_get_read}
use Rattle.problem_model.specs.declared.items.Node.{Node}
use Rattle.problem_model.specs.declared.items.Node.TheVariants as nodes
use Rattle.problem_model.specs.declared.items.Bound.{Bound}
use Rattle.problem_model.specs.Problem.{ProblemLists, IsProblem, IsChained}
use Rattle.problem_model.specs.Nodes.{Reading, AreReadings, IsEarlierReading}
use Rattle.problem_model.specs.ShortList.{short_list}
use Rattle.problem_model.proofs.Places.{event_stands, reading_stands}
use Rattle.problem.specs.Listing.{Listed, listed_nodes}
use Rattle.problem.proofs.ListedNodes.{event_node, reading_node, map_at, stamp_of}
use Rattle.sync_graph.specs.declared.arc.Arc.{Arc}
use Rattle.sync_graph.specs.Graph.{GraphLists, IsGraph}
use Rattle.sync_graph.specs.InForce.{IsInForce}
use Rattle.problem_graph.specs.ListedProblem.{IsListedBy, IsCarried}
use Rattle.problem_graph.specs.ListedStanding.{IsNodeBy, IsBoundBy, StandsForListed}
use Rattle.traces.proofs.Lists.{got, place_in, pairs_map}
use Rattle.traces.proofs.Members.{pairs_joined}
use Rattle.roster.proofs.Turns.{into_map, from_map}
use Rattle.roster.proofs.Telling.{among}
use Rattle.roster.specs.Entered.{IsReadingOf, IsDue, all_events}
use Rattle.roster.specs.Growing.{IsGrownTo, IsBoundOf}
use Rattle.roster.specs.ByNumber.{IsByNumber, TellsNodes}
use Rattle.roster.proofs.DueShort.{short_due, all_read}
use Rattle.roster.proofs.Counting.{one_place, Tell, tell_append, tell_map, told_below, told_differ, told_many}
use Rattle.roster.proofs.Carrying.{SameNode, events_many, read_by_place, due_by_number, carried, declares_there}

-- the nodes that a listing lists, with events by number
abbrev pub numbered_nodes : Listed → List Node
numbered_nodes l = map {A = ℕ × ℕ} (λ e. nodes.Event e.0) l.events ++ map {A = ℕ × ℕ × ℕ} (λ r. nodes.Reading r.0 r.1) l.readings

same_event : (v w : ℕ) → nodes.Event v ≡ nodes.Event w → v ≡ w
same_event v w e = cc

pairs_of : {X Y : Type 0} (f : X → Y) (xs : List X) → AllPairs (λ (a b : Y). a ≢ b) (map f xs) → AllPairs (λ (a b : X). f a ≢ f b) xs
pairs_of f xs differ i j d less inside same =
    let long = length-map xs f in
    differ i j (f d) less (omega (arith, inside, long)) (get_or-map f xs i d (f d) (omega (arith, less, inside)) ∙ same ∙ sym (get_or-map f xs j d (f d) inside))

module _ (l : Listed) (p q : ProblemLists) (readings : List Reading) (g : GraphLists) (is : IsGraph g) (lawful : IsProblem q) (are : AreReadings q readings) (listed : IsListedBy l q readings) (by : IsByNumber l p q) (tells : TellsNodes l g)
    (grown : IsGrownTo p all_events g) where
  chained : IsChained q
  chained = record { follow_ends = lawful.formed.follow_ends; laters_differ = lawful.formed.laters_differ }

  -- a number stands for one node, and a node has one number
  one_number : (j k : ℕ) (n : Node) → slice_get g.nodes j ≡ Some n → slice_get g.nodes k ≡ Some n → j ≡ k
  one_number j k n at at' = one_place g.nodes j k n is.nodes_differ at at'

  -- ---- a reading by its place
  reading_at : (clock stamp : ℕ) → IsReadingOf p all_events clock stamp → (i : ℕ) × (node : ℕ) × (slice_get {X = ℕ × ℕ × ℕ} l.readings i ≡ Some (clock, stamp, node)) × (slice_get {X = Reading} readings i ≡ Some (clock, stamp))
  reading_at clock stamp read =
      let i = place_in {X = Reading} readings (clock, stamp) (are.every clock stamp (all_read q clock stamp (read_by_place l p q readings listed by clock stamp read))) in
      let long : length l.readings ≡ length readings = omega (arith, ap length listed.stamps, length-map l.readings stamp_of) in
      let inside = slice_get_within {A = Reading} readings i.0 (clock, stamp) i.1 in
      let x = got l.readings i.0 (omega (arith, inside, long)) in
      let same : stamp_of x.0 ≡ (clock, stamp) =
      same_Some (stamp_of x.0) (clock, stamp) (sym (subst (λ (rs : List Reading). slice_get rs i.0 ≡ Some (stamp_of x.0)) listed.stamps (map_at stamp_of l.readings i.0 x.0 x.1)) ∙ i.1) in
      (i.0, x.0.2, x.1 ∙ ap (λ (r : Reading). let y : ℕ × ℕ × ℕ = (r.0, r.1, x.0.2) in Some y) same, i.1)

  -- ---- nodes by number and by place
  number_by : (k : ℕ) (m n : Node) → slice_get g.nodes k ≡ Some m → SameNode l m n → IsNodeBy l q readings k n
  number_by k (nodes.Event v) n at (place, (node, there'), same) =
      let own : slice_get g.nodes node ≡ Some (nodes.Event v) = tells.events v node (among {X = ℕ × ℕ} l.events place (v, node) there') in
      let one : node ≡ k = one_number node k (nodes.Event v) own at in
      let inside = slice_get_within {A = ℕ × ℕ} l.events place (v, node) there' in
      let many = events_many l p q readings listed by in (
        place,
        event_node l place (v, node) there' ∙ ap Some one,
        event_stands q readings place (omega (arith, inside, many)) ∙ ap Some (sym same),
      )
  number_by k (nodes.Reading clock stamp) n at same =
      let r = reading_at clock stamp (grown.nodes (nodes.Reading clock stamp) (k, at)) in
      let own : slice_get g.nodes r.1 ≡ Some (nodes.Reading clock stamp) = tells.readings clock stamp r.1 (among {X = ℕ × ℕ × ℕ} l.readings r.0 (clock, stamp, r.1) r.2) in
      let one : r.1 ≡ k = one_number r.1 k (nodes.Reading clock stamp) own at in
      let many = events_many l p q readings listed by in
      let place : length q.events + r.0 ≡ length l.events + r.0 = omega (arith, many) in (
        length q.events + r.0,
        reading_node l (length q.events + r.0) r.0 (clock, stamp, r.1) place r.2 ∙ ap Some one,
        reading_stands q readings r.0 (clock, stamp) r.3 ∙ ap Some (sym same),
      )

  -- ---- arcs
  bound_by : (a : Arc) (b : Bound) → IsBoundOf p g a → IsCarried l a.name b → IsBoundBy l q readings b a
  bound_by a b (c, declares, tail, head, weighs) named =
      let d = declares_there l p q readings listed by a.name b c named declares in
      record {
        constraint = d.0;
        declares = d.1;
        named = named;
        tail = number_by a.from c.from d.0.from tail d.2;
        head = number_by a.to c.to d.0.to head d.3;
        weighs = weighs ∙ sym d.4;
      }

  each_arc : (a : Arc) → IsInForce g a → (b : Bound) × IsBoundBy l q readings b a
  each_arc a force =
      let own = grown.each a force in
      let b = carried l p q readings listed by a.name own.0 own.1 in
      (b.0, bound_by a b.0 own b.1)

  bound_there : (b : Bound) → IsDue q all_events b → (a : Arc) × IsInForce g a × IsBoundBy l q readings b a
  bound_there b due =
      let d = due_by_number l p q readings listed by b due in
      elim (grown.every d.0 d.2) [
        | inl none ↦ absurd (none_left d.0 none)
        | inr (a, force, name) ↦ (a, force, bound_by a b (grown.each a force) (subst (λ (x : Bound). IsCarried l x b) (sym name) d.1))
      ]
    where
      none_left : (x : Bound) → Contains {X = Bound} [] x → ⊥
      none_left x (i, inside, e) = omega (arith, inside)

  -- ---- all nodes, each once
  told : Tell g.nodes (listed_nodes l) (numbered_nodes l)
  told = tell_append g.nodes (map {A = ℕ × ℕ} (λ e. e.1) l.events) (map {A = ℕ × ℕ × ℕ} (λ r. r.2) l.readings) (map {A = ℕ × ℕ} (λ e. nodes.Event e.0) l.events) (map {A = ℕ × ℕ × ℕ} (λ r. nodes.Reading r.0 r.1) l.readings)
      (tell_map {A = ℕ × ℕ} g.nodes (λ e. e.1) (λ e. nodes.Event e.0) l.events (λ e in'. tells.events e.0 e.1 in'))
      (tell_map {A = ℕ × ℕ × ℕ} g.nodes (λ r. r.2) (λ r. nodes.Reading r.0 r.1) l.readings (λ r in'. tells.readings r.0 r.1 r.2 in'))

  not_same : (a b : Reading) → IsEarlierReading a b → nodes.Reading a.0 a.1 ≡ nodes.Reading b.0 b.1 → ⊥
  not_same a b (inl less) e = let c : a.0 ≡ b.0 = cc in omega (arith, less, c)
  not_same a b (inr more) e = let s : a.1 ≡ b.1 = cc in let less = more.1 in omega (arith, less, s)

  readings_differ : AllPairs (λ (m n : Node). m ≢ n) (map {A = ℕ × ℕ × ℕ} (λ r. nodes.Reading r.0 r.1) l.readings)
  readings_differ =
      pairs_map (λ (m n : Node). m ≢ n) (λ (r : ℕ × ℕ × ℕ). nodes.Reading r.0 r.1) l.readings (λ i j d less inside. (
      let rising : AllPairs IsEarlierReading (map stamp_of l.readings) = subst (AllPairs IsEarlierReading) (sym listed.stamps) are.rising in
      let long = length-map l.readings stamp_of in
      let a : get_or (map stamp_of l.readings) i (stamp_of d) ≡ stamp_of (get_or l.readings i d) = get_or-map stamp_of l.readings i d (stamp_of d) (omega (arith, less, inside)) in
      let b : get_or (map stamp_of l.readings) j (stamp_of d) ≡ stamp_of (get_or l.readings j d) = get_or-map stamp_of l.readings j d (stamp_of d) inside in
      let before : IsEarlierReading (stamp_of (get_or l.readings i d)) (stamp_of (get_or l.readings j d)) =
      subst (λ (x : Reading). IsEarlierReading x (stamp_of (get_or l.readings j d))) a (subst (IsEarlierReading (get_or (map stamp_of l.readings) i (stamp_of d))) b (rising i j (stamp_of d) less (omega (arith, inside, long)))) in
      not_same (stamp_of (get_or l.readings i d)) (stamp_of (get_or l.readings j d)) before))

  events_differ : AllPairs (λ (m n : Node). m ≢ n) (map {A = ℕ × ℕ} (λ e. nodes.Event e.0) l.events)
  events_differ = pairs_map (λ (m n : Node). m ≢ n) (λ (e : ℕ × ℕ). nodes.Event e.0) l.events (λ i j d less inside same. pairs_of {X = ℕ × ℕ} (λ e. e.0) l.events by.numbers_differ i j d less inside (same_event _ _ same))

  apart : (e : ℕ × ℕ) (r : ℕ × ℕ × ℕ) → nodes.Event e.0 ≡ nodes.Reading r.0 r.1 → ⊥
  apart e r same = absurd (cc)

  numbered_differ : AllPairs (λ (m n : Node). m ≢ n) (numbered_nodes l)
  numbered_differ =
      pairs_joined (λ (m n : Node). m ≢ n) (map {A = ℕ × ℕ} (λ e. nodes.Event e.0) l.events) (map {A = ℕ × ℕ × ℕ} (λ r. nodes.Reading r.0 r.1) l.readings) events_differ readings_differ
      (λ i d inside j e within same. (
      let x = from_map {T = ℕ × ℕ} (λ v. nodes.Event v.0) l.events (get_or (map {A = ℕ × ℕ} (λ v. nodes.Event v.0) l.events) i d) (i, inside, default_same _ i d inside) in
      let y = from_map {T = ℕ × ℕ × ℕ} (λ r. nodes.Reading r.0 r.1) l.readings (get_or (map {A = ℕ × ℕ × ℕ} (λ r. nodes.Reading r.0 r.1) l.readings) j e) (j, within, default_same _ j e within) in
      apart x.0 y.0 (x.2 ∙ same ∙ sym y.2)))
    where
      default_same : (xs : List Node) (k : ℕ) (d : Node) → k < length xs → get_or xs k (get_or xs k d) ≡ get_or xs k d
      default_same [] k d inside = absurd (omega (arith, inside))
      default_same (x ∷ xs) zero d inside = refl
      default_same (x ∷ xs) (suc k) d inside = default_same xs k d (omega (arith, inside))

  every_listed : (n : Node) → Contains g.nodes n → Contains (numbered_nodes l) n
  every_listed (nodes.Event v) (k, inside, e) =
      let own = grown.nodes (nodes.Event v) (k, slice_get_read g.nodes (length g.nodes) k (nodes.Event v) refl inside (sym e)) in
      let place = by.every_event v own.0 own.1.0 in
      let x : ℕ × ℕ = (v, place.1.0) in
      Contains-append_left (map {A = ℕ × ℕ} (λ y. nodes.Event y.0) l.events) (map {A = ℕ × ℕ × ℕ} (λ r. nodes.Reading r.0 r.1) l.readings) (nodes.Event v) (into_map {T = ℕ × ℕ} (λ y. nodes.Event y.0) l.events x (among l.events place.0 x place.1.1))
  every_listed (nodes.Reading clock stamp) (k, inside, e) =
      let own = grown.nodes (nodes.Reading clock stamp) (k, slice_get_read g.nodes (length g.nodes) k (nodes.Reading clock stamp) refl inside (sym e)) in
      let r = reading_at clock stamp own in
      let x : ℕ × ℕ × ℕ = (clock, stamp, r.1) in
      Contains-append_right (map {A = ℕ × ℕ} (λ y. nodes.Event y.0) l.events) (map {A = ℕ × ℕ × ℕ} (λ y. nodes.Reading y.0 y.1) l.readings) (nodes.Reading clock stamp) (into_map {T = ℕ × ℕ × ℕ} (λ y. nodes.Reading y.0 y.1) l.readings x (among l.readings r.0 x r.2))

  pub stands : StandsForListed l q readings g
  stands = record {
    lawful = lawful;
    are_readings = are;
    listed = listed;
    one_each = told_many g.nodes (listed_nodes l) (numbered_nodes l) told numbered_differ is.nodes_differ every_listed;
    nodes = told_below g.nodes (listed_nodes l) (numbered_nodes l) told numbered_differ;
    nodes_differ = told_differ g.nodes (listed_nodes l) (numbered_nodes l) told numbered_differ;
    each = each_arc;
    every = All-weaker (λ (b : Bound). IsDue q all_events b) (λ (b : Bound). (a : Arc) × IsInForce g a × IsBoundBy l q readings b a) bound_there (short_list q readings) (short_due q readings are chained);
  }
