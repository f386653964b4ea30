-- A graph of the problem's nodes in their order and of its short list in any order stands for the problem as it lists itself.
use Rattle.std.proofs.Common.{◌≡◌, ◌<◌, ◌+◌, ◌-◌, ℕ, zero, suc, Bool, true, false, List, [], ◌∷◌, length, map, get_or, slice_get, slice_index_or, Some, refl, sym, ◌∙◌, ap, subst, arith, inl, inr}
use Rattle.std.specs.Prelude.{All, Contains}
use Rattle.std.proofs.lemmas.Bool.{cases_lt}
use Rattle.std.proofs.lemmas.List.{get_or_default}
use Rattle.std.proofs.lemmas.List.Elements.{All-map, All-same}
use Rattle.std.proofs.lemmas.Option.{slice_get_within, slice_get-get_or, get_or_from_slice_get, same_Some, none-some}
use Rattle.problem_model.specs.declared.items.Event.{Event}
use Rattle.problem_model.specs.declared.items.Node.{Node}
use Rattle.problem_model.specs.declared.items.Bound.{Bound}
use Rattle.problem_model.specs.declared.items.Bound.TheVariants.{SpanMost, SpanLeast, Late, Early, Follow, DelayMost, DelayLeast}
use Rattle.problem_model.specs.Problem.{ProblemLists, IsProblem}
use Rattle.problem_model.specs.Bounds.{Constraint, Declares}
use Rattle.problem_model.specs.Nodes.{Reading, AreReadings, nodes_of}
use Rattle.problem_model.specs.ShortList.{short_list}
use Rattle.problem_model.specs.ProblemArcs.{IsNodeAt}
use Rattle.problem_model.specs.Solutions.{IsNodeOf}
use Rattle.problem.specs.Listing.{listing_of, listed_nodes, name_at, event_places, reading_places, all_readings}
use Rattle.problem.proofs.AllReadings.{readings_are}
use Rattle.sync_graph.specs.declared.arc.Arc.{Arc}
use Rattle.sync_graph.specs.Graph.{GraphLists, IsGraph, arc_at}
use Rattle.problem_graph.specs.Standing.{HasBounds, IsArcDeclared}
use Rattle.problem.proofs.ListedNodes.{length-nodes_of, length-numbers, map_at, event_node, reading_node, stamp_of}
use Rattle.sync_graph.specs.InForce.{IsInForce}
use Rattle.sync_graph.proofs.InForce.{no_arc, in_force_below}
use Rattle.problem_graph.specs.ListedProblem.{IsListedBy, IsCarried}
use Rattle.problem_graph.specs.ListedStanding.{IsNodeBy, IsBoundBy, StandsForListed}
use Rattle.problem_graph.specs.HeldBounds.{HasShortList}
use Rattle.problem_graph.proofs.BoundEnds.{ends_are}

-- ---- places
event_place : (j k : ℕ) (es : List Event) → k < length es → slice_get (event_places j es) k ≡ Some (j + k, j + k)
event_place j k [] inside = absurd (omega (arith, inside))
event_place j zero (e ∷ es) inside = let same : j ≡ j + 0 = omega arith in ap (λ (n : ℕ). Some (n, n)) same
event_place j (suc k) (e ∷ es) inside = let same : j + 1 + k ≡ j + suc k = omega arith in event_place (j + 1) k es (omega (arith, inside)) ∙ ap (λ (n : ℕ). Some (n, n)) same

reading_place : (n k : ℕ) (rs : List Reading) (r : Reading) → slice_get rs k ≡ Some r → slice_get (reading_places n rs) k ≡ Some (r.0, r.1, n + k)
reading_place n k [] r there = absurd (none-some r there)
reading_place n zero (s ∷ rs) r there =
    let same : n ≡ n + 0 = omega arith in
    ap (λ (v : Reading). Some (v.0, v.1, n)) (same_Some s r there) ∙ ap (λ (m : ℕ). Some (r.0, r.1, m)) same
reading_place n (suc k) (s ∷ rs) r there =
    let same : n + 1 + k ≡ n + suc k = omega arith in
    reading_place (n + 1) k rs r there ∙ ap (λ (m : ℕ). Some (r.0, r.1, m)) same

names_again : (names : List (List ℕ)) (j : ℕ) (es : List Event) → ((k : ℕ) (e : Event) → slice_get es k ≡ Some e → name_at names (j + k) ≡ e.name)
    → map (λ (e : ℕ × ℕ). name_at names e.0) (event_places j es) ≡ map (λ (e : Event). e.name) es
names_again names j [] each = refl
names_again names j (e ∷ es) each =
    let first : name_at names j ≡ e.name = (let same : j ≡ j + 0 = omega arith in ap (name_at names) same ∙ each 0 e refl) in
    ap (λ (name : List ℕ). name ∷ map (λ (v : ℕ × ℕ). name_at names v.0) (event_places (j + 1) es)) first
    ∙ ap (λ (rest : List (List ℕ)). e.name ∷ rest) (names_again names (j + 1) es (λ k v there. (let same : j + 1 + k ≡ j + suc k = omega arith in ap (name_at names) same ∙ each (suc k) v there)))

stamps_again : (n : ℕ) (rs : List Reading) → map stamp_of (reading_places n rs) ≡ rs
stamps_again n [] = refl
stamps_again n (r ∷ rs) = ap (λ (rest : List Reading). r ∷ rest) (stamps_again (n + 1) rs)

module _ (p : ProblemLists) (readings : List Reading) (lawful : IsProblem p) (are : AreReadings p readings) where
  own_listed : IsListedBy (listing_of p) p readings
  own_listed = record {
    clocks = refl;
    events = names_again (map (λ (e : Event). e.name) p.events) 0 p.events (λ k e there. (
        let same : 0 + k ≡ k = omega arith in
        ap (name_at (map (λ (v : Event). v.name) p.events)) same
        ∙ get_or_from_slice_get (map (λ (v : Event). v.name) p.events) k e.name [] (map_at (λ (v : Event). v.name) p.events k e there)));
    stamps = stamps_again (length p.events) (all_readings p.events) ∙ sym (readings_are p readings are);
  }

  pub own_event : (e : ℕ) → e < length p.events → slice_get (listing_of p).events e ≡ Some (e, e)
  own_event e inside = let same : 0 + e ≡ e = omega arith in event_place 0 e p.events inside ∙ ap (λ (n : ℕ). Some (n, n)) same

  -- each node has its place as its number
  own_number : (k : ℕ) → k < length (nodes_of p readings) → slice_get (listed_nodes (listing_of p)) k ≡ Some k
  own_number k inside = elim (cases_lt k (length p.events)) [
    | inl event ↦ event_node (listing_of p) k (k, k) (own_event k event)
    | inr past ↦ (
        let j : ℕ = k - length p.events in
        let here : length p.events + j ≡ k = omega (arith, past) in
        let r : Reading = get_or readings j (0, 0) in
        let there : slice_get readings j ≡ Some r = slice_get-get_or readings j (0, 0) (omega (arith, past, inside, length-nodes_of p readings)) in
        let place : slice_get (listing_of p).readings j ≡ Some (r.0, r.1, length p.events + j) =
        reading_place (length p.events) j (all_readings p.events) r (subst (λ (rs : List Reading). slice_get rs j ≡ Some r) (readings_are p readings are) there) in
        let count : length (listing_of p).events ≡ length p.events = events_long 0 p.events in
        let at : k ≡ length (listing_of p).events + j = omega (arith, here, count) in
        reading_node (listing_of p) k j (r.0, r.1, length p.events + j) at place ∙ ap (λ (n : ℕ). Some n) here)
  ]
    where
      events_long : (i : ℕ) (es : List Event) → length (event_places i es) ≡ length es
      events_long i [] = refl
      events_long i (e ∷ es) = ap suc (events_long (i + 1) es)

  own_number_is : (k d : ℕ) → k < length (nodes_of p readings) → get_or (listed_nodes (listing_of p)) k d ≡ k
  own_number_is k d inside = get_or_from_slice_get (listed_nodes (listing_of p)) k k d (own_number k inside)

  own_node : (k : ℕ) (n : Node) → IsNodeAt p readings k n → IsNodeBy (listing_of p) p readings k n
  own_node k n here = (k, own_number k (slice_get_within (nodes_of p readings) k n here), here)

  own_carried : (b : Bound) (c : Constraint) → Declares p b c → IsCarried (listing_of p) b b
  own_carried (SpanMost clock s t) c d = refl
  own_carried (SpanLeast clock s t) c d = refl
  own_carried (Late e) c d = (e, (e, own_event e (slice_get_within p.events e d.0 d.2)), refl)
  own_carried (Early e) c d = (e, (e, own_event e (slice_get_within p.events e d.0 d.2)), refl)
  own_carried (Follow b s e t) c d = refl
  own_carried (DelayMost send receive) c d =
      let ends = ends_are p (DelayMost send receive) c lawful d in
      let from : send < length p.events = subst (λ (v : Constraint). IsNodeOf p v.from) d.6 ends.0 in
      let to : receive < length p.events = subst (λ (v : Constraint). IsNodeOf p v.to) d.6 ends.1 in
      (send, receive, (send, own_event send from), (receive, own_event receive to), refl)
  own_carried (DelayLeast send receive) c d =
      let ends = ends_are p (DelayLeast send receive) c lawful d in
      let from : receive < length p.events = subst (λ (v : Constraint). IsNodeOf p v.from) d.4 ends.0 in
      let to : send < length p.events = subst (λ (v : Constraint). IsNodeOf p v.to) d.4 ends.1 in
      (send, receive, (send, own_event send to), (receive, own_event receive from), refl)

  own_bound : (a : Arc) → IsArcDeclared p readings a → IsBoundBy (listing_of p) p readings a.name a
  own_bound a (c, declares, arc) = record {
    constraint = c;
    declares = declares;
    named = own_carried a.name c declares;
    tail = own_node a.from c.from arc.tail;
    head = own_node a.to c.to arc.head;
    weighs = arc.weighs;
  }

  module _ (g : GraphLists) (is : IsGraph g) (bounds : List Bound) (has : HasBounds p readings bounds g) (short : HasShortList p readings bounds) where
    count : length (nodes_of p readings) ≡ length g.nodes
    count = sym (ap length has.nodes_are)

    long : length (listed_nodes (listing_of p)) ≡ length (nodes_of p readings)
    long = length-numbers p readings are

    in_force_at : (j : ℕ) → j < length g.arcs → slice_index_or g.in_force j false ≡ true
    in_force_at j inside = ap (λ (flags : List Bool). slice_index_or flags j false) has.all_in_force ∙ get_or_from_slice_get (map (λ (a : Arc). true) g.arcs) j true false
        (map_at (λ (a : Arc). true) g.arcs j (arc_at g.arcs j) (slice_get-get_or g.arcs j no_arc inside))

    -- an arc of the list is in force, and its name is its bound
    each_named : All (λ (a : Arc). (b : Arc) × IsInForce g b × IsBoundBy (listing_of p) p readings a.name b) g.arcs
    each_named j d inside = (get_or g.arcs j d, (j, in_force_at j inside, get_or_default g.arcs j no_arc d inside), own_bound (get_or g.arcs j d) (has.declared j d inside))

    -- a bound of the list is an arc in force
    arc_of : (b : Bound) → Contains bounds b → (a : Arc) × IsInForce g a × IsBoundBy (listing_of p) p readings b a
    arc_of b (k, inside, here) =
        let all : All (λ (v : Bound). (a : Arc) × IsInForce g a × IsBoundBy (listing_of p) p readings v a) bounds =
        All-same (λ (v : Bound). (a : Arc) × IsInForce g a × IsBoundBy (listing_of p) p readings v a) bounds (map (λ (a : Arc). a.name) g.arcs) (sym has.named)
        (All-map (λ (v : Bound). (a : Arc) × IsInForce g a × IsBoundBy (listing_of p) p readings v a) (λ (a : Arc). a.name) g.arcs each_named) in
        subst (λ (v : Bound). (a : Arc) × IsInForce g a × IsBoundBy (listing_of p) p readings v a) here (all k b inside)

    pub own_standing : StandsForListed (listing_of p) p readings g
    own_standing = record {
      lawful = lawful;
      are_readings = are;
      listed = own_listed;
      one_each = long ∙ count;
      nodes = λ k d inside. subst (λ (n : ℕ). n < length g.nodes) (sym (own_number_is k d (omega (arith, inside, long)))) (omega (arith, inside, long, count));
      nodes_differ = λ j k d below inside same. (
          let first : get_or (listed_nodes (listing_of p)) j d ≡ j = own_number_is j d (omega (arith, below, inside, long)) in
          let second : get_or (listed_nodes (listing_of p)) k d ≡ k = own_number_is k d (omega (arith, inside, long)) in
          omega (arith, below, first, second, same));
      each = λ a (j, force, here). (a.name, own_bound a (subst (λ (v : Arc). IsArcDeclared p readings v) here (has.declared j no_arc (in_force_below g is j force))));
      every = λ k d inside. arc_of (get_or (short_list p readings) k d) (short k d inside);
    }
