-- Packets at the values of their events' nodes.
use Rattle.std.proofs.Common.{◌≡◌, ℕ, zero, suc, ◌+◌, ◌-◌, ◌<◌, ◌≤◌, List, [], ◌∷◌, ◌++◌, length, map, take, drop, slice_get, slice_set, Some, All, ℤ, pos, ◌≤ℤ◌, refl, sym, ◌∙◌, ap, subst, arith, get_or}
use Rattle.std.specs.List.{slice_index_or, AllByRecursion}
use Rattle.std.proofs.lemmas.List.{length-map}
use Rattle.std.proofs.lemmas.List.Elements.{All-head, All-tail, All-from_recursion}
use Rattle.std.proofs.lemmas.Option.{slice_get_within, get_or_from_slice_get}
use Rattle.problem_model.specs.declared.items.Event.{Event}
use Rattle.problem_model.specs.declared.items.Node.{Node}
use Rattle.problem_model.specs.declared.items.Node.TheVariants as nodes
use Rattle.problem_model.specs.Problem.{ProblemLists}
use Rattle.problem_model.specs.Bounds.{Times, IsExecution}
use Rattle.problem_model.specs.Nodes.{Reading, nodes_of, event_nodes, reading_nodes}
use Rattle.problem_model.specs.Executions.{at}
use Rattle.problem_model.specs.Solutions.{IsFromZero}
use Rattle.problem.specs.Listing.{Listed, listed_nodes}
use Rattle.problem.proofs.ListedNodes.{event_node, map_at}
use Rattle.mergecap.specs.declared.stored.Stored.{Stored}
use Rattle.mergecap.specs.MergedCapture.{Timed}
use Rattle.mergecap.specs.Packets.{timed, all_timed}
use Rattle.std.proofs.Math.Seq.{map-set}
use Rattle.traces.specs.Seen.{Seen}
use Rattle.traces.specs.declared.event_id.EventId.{EventId}
use Rattle.traces.specs.Traces.{Placed, events_of}
use Rattle.traces.specs.Messages.{place_of, event_with}
use Rattle.traces.proofs.Ids.{ids_differ}
use Rattle.traces.proofs.Places.{place_is}
use Rattle.sync_graph.specs.declared.arc.Arc.{Arc}
use Rattle.solver.specs.Solver.{SolverLists}
use Rattle.queries.specs.Contradiction.{HasContradictionBy}
use Rattle.roster.specs.declared.came.Came.{Came}
use Rattle.roster.specs.Groups.{group_at, sizes_of}
use Rattle.roster.specs.Roster.{RosterLists, IsRoster, HoldsEvents, IsNumberUnder, id_of, event_at, no_event, listed}
use Rattle.replies.specs.Reply.{IsPlacedAt}
use Rattle.session_answers.specs.Ready.{HasNodeOf}
use Rattle.session.specs.Settled.{HasEventOf, event_of, node_of, settled, valued, at_time}
use Rattle.replies.proofs.Elements.{some_same, there_some}
use Rattle.session_answers.proofs.RosterEvents.{event_place, placed_at, sizes_are}
use Rattle.session.proofs.Standing.{map_there}

-- ---- none is held where there is an execution
pub none_held : (arcs : List Arc) (l : Listed) (p : ProblemLists) → ((x : Times) × IsExecution p x) → ((arcs ≡ [] → ⊥) → HasContradictionBy l p arcs) → arcs ≡ []
none_held [] l p some held = refl
none_held (a ∷ arcs) l p some held = absurd ((held (λ none. let z : ⊥ = cc in z)).no_execution some.0 some.1)

pub timed_at : (xs : List Stored) (i : ℕ) (d : Stored) → get_or (all_timed xs) i (timed d) ≡ timed (get_or xs i d)
timed_at [] i d = refl
timed_at (x ∷ xs) zero d = refl
timed_at (x ∷ xs) (suc i) d = timed_at xs i d

-- ---- the event of a packet
module _ (r : RosterLists) (is : IsRoster r) where
  -- its number, and what the roster has of it
  record Known (event : EventId) (v : ℕ) : Type 0 where
    came : Came
    there : slice_get r.came v ≡ Some came
    id_is : id_of came ≡ event
    node_is : node_of r event ≡ came.node

  known : (event : EventId) (v : ℕ) → IsNumberUnder r.under event v → Known event v
  known event v (k, number, under) =
      let n = is.numbered event.label k v under in
      let place : event.number - 1 ≡ k = omega (arith, number) in
      let first : slice_index_or (group_at r.under event.label) (event.number - 1) 0 ≡ v =
      ap (λ (j : ℕ). slice_index_or (group_at r.under event.label) j 0) place ∙ get_or_from_slice_get (group_at r.under event.label) k v 0 under in
      let same : suc k ≡ event.number = sym number in
      record {
        came = n.0;
        there = n.1;
        id_is = n.2 ∙ ap (λ (m : ℕ). let i : EventId = record { label = event.label; number = m } in i) same;
        node_is = ap (λ (w : ℕ). (event_at r.came w).node) first ∙ ap (λ (e : Came). e.node) (get_or_from_slice_get r.came v n.0 no_event n.1);
      }

  pub number_inside : (event : EventId) (v : ℕ) → IsNumberUnder r.under event v → v < length r.came
  number_inside event v under = let e = known event v under in slice_get_within r.came v e.came e.there

  -- whatever number it is found by, its node is this one
  pub node_found : (event : EventId) (v : ℕ) (e : Came) → IsNumberUnder r.under event v → slice_get r.came v ≡ Some e → e.node ≡ node_of r event
  node_found event v e under there =
      let own = known event v under in
      ap (λ (x : Came). x.node) (some_same e own.came (sym there ∙ own.there)) ∙ sym own.node_is

  module _ (seen : List (List Seen)) (holds : HoldsEvents r seen) where
    -- the event that a label has of this number is under it
    pub event_under : (t : Timed) → HasEventOf seen t → (v : ℕ) × IsNumberUnder r.under (event_of t) v
    event_under t (own, k, at, number, few) =
        let sizes : slice_get (map (λ (ss : List Seen). length ss) seen) t.key.place ≡ Some (length own) = map_at (λ (ss : List Seen). length ss) seen t.key.place own at in
        let mine : slice_get (sizes_of r.under) t.key.place ≡ Some (length own) = ap (λ (ns : List ℕ). slice_get ns t.key.place) (sizes_are r is seen holds) ∙ sizes in
        let group = map_there (λ (vs : List ℕ). length vs) r.under t.key.place (length own) mine in
        let whole : group_at r.under t.key.place ≡ group.0 = get_or_from_slice_get r.under t.key.place group.0 [] group.1 in
        let long : length group.0 ≡ length own = group.2 in
        let inside : k < length group.0 = omega (arith, few, long) in
        let v = there_some group.0 k inside in
        (v.0, (k, number, ap (λ (vs : List ℕ). slice_get vs k) whole ∙ v.1))

    pub all_under : (ts : List Timed) → All (HasEventOf seen) ts → All (λ (t : Timed). (v : ℕ) × IsNumberUnder r.under (event_of t) v) ts
    all_under ts all k d inside = event_under (get_or ts k d) (all k d inside)

    -- ---- its time
    module _ (s : SolverLists) (p : ProblemLists) (readings : List Reading) (x : Times) (same : map (at s.earliest.values) (listed_nodes (listed r)) ≡ map x (nodes_of p readings))
        (events_are : p.events ≡ map (event_with r.declaration) (events_of seen)) where
      event_nodes_at : (j : ℕ) (events : List Event) (k : ℕ) → k < length events → slice_get (event_nodes j events) k ≡ Some (nodes.Event (j + k))
      event_nodes_at j [] k inside = absurd (omega (arith, inside))
      event_nodes_at j (e ∷ events) zero inside = let same : j ≡ j + 0 = omega arith in ap (λ (n : ℕ). Some (nodes.Event n)) same
      event_nodes_at j (e ∷ events) (suc k) inside =
          let more : j + 1 + k ≡ j + suc k = omega arith in
          event_nodes_at (j + 1) events k (omega (arith, inside)) ∙ ap (λ (n : ℕ). Some (nodes.Event n)) more

      front_at : (xs ys : List Node) (k : ℕ) (y : Node) → slice_get xs k ≡ Some y → slice_get {X = Node} (xs ++ ys) k ≡ Some y
      front_at [] ys k y at = absurd cc
      front_at (z ∷ xs) ys zero y at = at
      front_at (z ∷ xs) ys (suc k) y at = front_at xs ys k y at

      -- the time of the event at a place is the value of its node
      time_at : (place v node : ℕ) → slice_get {X = ℕ × ℕ} (listed r).events place ≡ Some (v, node) → place < length (events_of seen) → at s.earliest.values node ≡ x (nodes.Event place)
      time_at place v node there inside =
          let many : length p.events ≡ length (events_of seen) = ap length events_are ∙ length-map (events_of seen) (event_with r.declaration) in
          let within : place < length p.events = omega (arith, inside, many) in
          let mine : slice_get (map (at s.earliest.values) (listed_nodes (listed r))) place ≡ Some (at s.earliest.values node) =
          map_at (at s.earliest.values) (listed_nodes (listed r)) place node (event_node (listed r) place (v, node) there) in
          let theirs : slice_get (map x (nodes_of p readings)) place ≡ Some (x (nodes.Event (0 + place))) =
          map_at x (nodes_of p readings) place (nodes.Event (0 + place)) (front_at (event_nodes 0 p.events) (reading_nodes readings) place (nodes.Event (0 + place)) (event_nodes_at 0 p.events place within)) in
          let zero_is : 0 + place ≡ place = omega arith in
          some_same (at s.earliest.values node) (x (nodes.Event (0 + place))) (sym mine ∙ ap (λ (vs : List ℤ). slice_get vs place) same ∙ theirs) ∙ ap (λ (n : ℕ). x (nodes.Event n)) zero_is

      time_is : (t : Timed) → HasEventOf seen t → valued r s t ≡ settled seen x t
      time_is t has =
          let u = event_under t has in
          let e = known (event_of t) u.0 u.1 in
          let here = event_place r is u.0 e.came e.there in
          let node : HasNodeOf r (event_of t) e.came.node = record { number = u.0; came = e.came; there = e.there; id_is = e.id_is; node_is = refl } in
          let placed : IsPlacedAt seen here.0 (event_of t) = placed_at r is seen holds (event_of t) e.came.node node in
          let one = map_there (λ (q : Placed). q.id) (events_of seen) here.0 (event_of t) placed in
          let place : place_of (events_of seen) (event_of t) ≡ here.0 =
          subst (λ (i : EventId). place_of (events_of seen) i ≡ here.0) one.2 (place_is (events_of seen) here.0 one.0 (ids_differ seen) one.1) in
          let time = time_at here.0 u.0 e.came.node here.1 (slice_get_within (events_of seen) here.0 one.0 one.1) in
          ap (λ (value : ℤ). at_time value t) (ap (at s.earliest.values) e.node_is ∙ time ∙ ap (λ (n : ℕ). x (nodes.Event n)) (sym place))

      -- no event comes before 0
      zero_at : IsFromZero p x → (t : Timed) → HasEventOf seen t → pos 0 ≤ℤ (settled seen x t).key.value
      zero_at first t has =
          let u = event_under t has in
          let e = known (event_of t) u.0 u.1 in
          let here = event_place r is u.0 e.came e.there in
          let node : HasNodeOf r (event_of t) e.came.node = record { number = u.0; came = e.came; there = e.there; id_is = e.id_is; node_is = refl } in
          let one = map_there (λ (q : Placed). q.id) (events_of seen) here.0 (event_of t) (placed_at r is seen holds (event_of t) e.came.node node) in
          let place : place_of (events_of seen) (event_of t) ≡ here.0 =
          subst (λ (i : EventId). place_of (events_of seen) i ≡ here.0) one.2 (place_is (events_of seen) here.0 one.0 (ids_differ seen) one.1) in
          let inside = slice_get_within (events_of seen) here.0 one.0 one.1 in
          let many : length p.events ≡ length (events_of seen) = ap length events_are ∙ length-map (events_of seen) (event_with r.declaration) in
          first (nodes.Event (place_of (events_of seen) (event_of t))) (omega (arith, inside, many, place))

      zero_from : IsFromZero p x → (ts : List Timed) → All (HasEventOf seen) ts → AllByRecursion (λ (t : Timed). pos 0 ≤ℤ t.key.value) (map (settled seen x) ts)
      zero_from first [] all = tt
      zero_from first (t ∷ ts) all = (zero_at first t (All-head (HasEventOf seen) t ts all), zero_from first ts (All-tail (HasEventOf seen) t ts all))

      pub values_from : IsFromZero p x → (ts : List Timed) → All (HasEventOf seen) ts → (kept : List Stored) → all_timed kept ≡ map (settled seen x) ts → All (λ (s : Stored). pos 0 ≤ℤ s.value) kept
      values_from first ts all kept are k d inside =
          let long : length (all_timed kept) ≡ length kept = length-map kept timed in
          let all_zero = All-from_recursion (λ (t : Timed). pos 0 ≤ℤ t.key.value) (all_timed kept)
          (subst (λ (us : List Timed). AllByRecursion (λ (t : Timed). pos 0 ≤ℤ t.key.value) us) (sym are) (zero_from first ts all)) in
          subst (λ (t : Timed). pos 0 ≤ℤ t.key.value) (timed_at kept k d) (all_zero k (timed d) (omega (arith, inside, long)))

      pub all_settled : (ts : List Timed) → All (HasEventOf seen) ts → map (valued r s) ts ≡ map (settled seen x) ts
      all_settled [] all = refl
      all_settled (t ∷ ts) all =
          ap (λ (u : Timed). u ∷ map (valued r s) ts) (time_is t (All-head (HasEventOf seen) t ts all))
          ∙ ap (λ (us : List Timed). settled seen x t ∷ us) (all_settled ts (All-tail (HasEventOf seen) t ts all))

-- ---- one packet after another
lists_step : (f : Timed → Timed) (old : List Timed) (i : ℕ) (d : Timed) → i < length old →
    slice_set (map f (take i old) ++ drop i old) i (f (get_or (map f (take i old) ++ drop i old) i d)) ≡ map f (take (suc i) old) ++ drop (suc i) old
lists_step f [] i d inside = absurd (omega (arith, inside))
lists_step f (t ∷ old) zero d inside = refl
lists_step f (t ∷ old) (suc i) d inside = ap (λ (ts : List Timed). f t ∷ ts) (lists_step f old i d (omega (arith, inside)))

lists_at : (f : Timed → Timed) (old : List Timed) (i : ℕ) (d : Timed) → get_or (map f (take i old) ++ drop i old) i d ≡ get_or old i d
lists_at f [] zero d = refl
lists_at f [] (suc i) d = refl
lists_at f (t ∷ old) zero d = refl
lists_at f (t ∷ old) (suc i) d = lists_at f old i d

lists_whole : (f : Timed → Timed) (old : List Timed) (i : ℕ) → length old ≤ i → map f (take i old) ++ drop i old ≡ map f old
lists_whole f [] zero few = refl
lists_whole f [] (suc i) few = refl
lists_whole f (t ∷ old) zero few = absurd (omega (arith, few))
lists_whole f (t ∷ old) (suc i) few = ap (λ (ts : List Timed). f t ∷ ts) (lists_whole f old i (omega (arith, few)))

module _ (f : Timed → Timed) (initial now : List Stored) (i : ℕ) (are : all_timed now ≡ map f (take i (all_timed initial)) ++ drop i (all_timed initial)) where
  -- the next packet is as it was
  pub settle_next : (item : Stored) → get_or (all_timed initial) i (timed item) ≡ timed (get_or now i item)
  settle_next item =
      sym (lists_at f (all_timed initial) i (timed item)) ∙ ap (λ (ts : List Timed). get_or ts i (timed item)) (sym are) ∙ timed_at now i item

  pub settle_step : (item stored : Stored) → i < length initial → item ≡ get_or now i item → timed stored ≡ f (timed item) →
      all_timed (slice_set now i stored) ≡ map f (take (i + 1) (all_timed initial)) ++ drop (i + 1) (all_timed initial)
  settle_step item stored inside here is =
      let all = all_timed initial in
      let so_far = map f (take i all) ++ drop i all in
      let long : length all ≡ length initial = length-map initial timed in
      let value : timed stored ≡ f (get_or so_far i (timed item)) =
      is ∙ ap f (ap timed here ∙ sym (timed_at now i item) ∙ ap (λ (ts : List Timed). get_or ts i (timed item)) are) in
      let more : suc i ≡ i + 1 = omega arith in
      map-set timed now i stored ∙ ap (λ (ts : List Timed). slice_set ts i (timed stored)) are ∙ ap (λ (t : Timed). slice_set so_far i t) value
      ∙ lists_step f all i (timed item) (omega (arith, inside, long)) ∙ ap (λ (n : ℕ). map f (take n all) ++ drop n all) more

  pub settle_done : length initial ≤ i → all_timed now ≡ map f (all_timed initial)
  settle_done few = let long : length (all_timed initial) ≡ length initial = length-map initial timed in are ∙ lists_whole f (all_timed initial) i (omega (arith, few, long))
