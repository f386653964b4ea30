-- Events by their nodes, and packets so long after one of them.
use Rattle.std.proofs.Common.{◌≡◌, ℕ, suc, ◌<◌, List, [], length, map, get_or, slice_get, Option, Some, None, All, true, refl, sym, ◌∙◌, ap, subst, arith}
use Rattle.std.specs.Prelude.{IfSome, IfNone}
use Rattle.std.proofs.lemmas.List.{length-map}
use Rattle.std.proofs.lemmas.List.Elements.{All-map}
use Rattle.std.proofs.lemmas.Option.{get_or_from_slice_get, slice_get_within}
use Rattle.problem_model.specs.Bounds.{Times}
use Rattle.problem_model.specs.Nodes.{nodes_of}
use Rattle.problem_model.specs.Executions.{at}
use Rattle.problem_model.specs.Problem.{ProblemLists}
use Rattle.problem_model.specs.Solutions.{IsEarliestExecution}
use Rattle.problem_model.specs.declared.items.Event.{Event}
use Rattle.problem.specs.Line.{HasEvent}
use Rattle.problem.specs.Listing.{all_readings, listed_nodes}
use Rattle.problem.proofs.ListedNodes.{map_at}
use Rattle.problem_graph.specs.ListedStanding.{IsEventAt}
use Rattle.intervals.specs.declared.ends.Ends.{Ends}
use Rattle.decl.specs.Declaration.{Declaration}
use Rattle.mergecap.specs.declared.stored.Stored.{Stored}
use Rattle.mergecap.specs.MergedCapture.{Timed}
use Rattle.mergecap.specs.Packets.{timed, all_timed}
use Rattle.traces.specs.Seen.{Seen}
use Rattle.traces.specs.declared.event_id.EventId.{EventId}
use Rattle.traces.specs.Traces.{Placed, events_of, name_of}
use Rattle.traces.specs.Messages.{event_with, place_of, problem_of_seen}
use Rattle.traces.proofs.Ids.{ids_differ}
use Rattle.traces.proofs.Places.{place_is}
use Rattle.solver.specs.Solver.{SolverLists}
use Rattle.solver.specs.Solution.{IsSolutionBy}
use Rattle.roster.specs.declared.came.Came.{Came}
use Rattle.roster.specs.Roster.{RosterLists, IsRoster, HoldsEvents, IsNumberUnder, id_of, listed}
use Rattle.replies.specs.AllTimes.{AreEndsSince}
use Rattle.replies.specs.Reply.{IsPlacedAt}
use Rattle.session_answers.specs.SinceAsking.{AreSinceAt}
use Rattle.session.specs.Firsts.{IsFirstBefore}
use Rattle.session.specs.Settled.{HasEventOf, event_of, node_of}
use Rattle.session.specs.Since.{AreEndsFrom, IsFirstOfAll}
use Rattle.session.proofs.FirstEvents.{came_at, first_placed, none_came, placed_of}
use Rattle.session.proofs.Settles.{event_under, node_found, timed_at}
use Rattle.session.proofs.Standing.{map_there}

-- ---- the code's packets
-- what is so of each packet is so of each as the code has it
pub of_stored : (P : Timed → Type 0) (kept : List Stored) → All P (all_timed kept) → All (λ (s : Stored). P (timed s)) kept
of_stored P kept all k s inside =
    let long : length (all_timed kept) ≡ length kept = length-map kept timed in
    subst P (timed_at kept k s) (all k (timed s) (omega (arith, inside, long)))

-- an event at a place has its name there
pub named_there : (d : Declaration) (seen : List (List Seen)) (place : ℕ) (event : EventId) → IsPlacedAt seen place event → HasEvent (problem_of_seen d seen) place (name_of d event)
named_there d seen place event placed =
    let one = map_there (λ (q : Placed). q.id) (events_of seen) place event placed in
    let there = map_at (event_with d) (events_of seen) place one.0 one.1 in
    map_at (λ (e : Event). e.name) (map (event_with d) (events_of seen)) place (event_with d one.0) there ∙ ap (λ (i : EventId). Some (name_of d i)) one.2

module _ (r : RosterLists) (is : IsRoster r) (seen : List (List Seen)) (holds : HoldsEvents r seen) where
  -- ---- events
  -- an event stands at its place with its node
  pub event_stands : (event : EventId) (v : ℕ) → IsNumberUnder r.under event v → IsEventAt (listed r) (place_of (events_of seen) event) (node_of r event)
  event_stands event v (k, number, under) =
      let n = is.numbered event.label k v under in
      let same : suc k ≡ event.number = sym number in
      let id : id_of n.0 ≡ event = n.2 ∙ ap (λ (m : ℕ). let i : EventId = record { label = event.label; number = m } in i) same in
      let q = placed_of r is seen holds v n.0 n.1 in
      let place : place_of (events_of seen) event ≡ q.0 = ap (place_of (events_of seen)) (sym (q.3 ∙ id)) ∙ place_is (events_of seen) q.0 q.1 (ids_differ seen) q.2 in
      let node : n.0.node ≡ node_of r event = node_found r is event v n.0 (k, number, under) n.1 in
      subst (λ (j : ℕ). IsEventAt (listed r) j (node_of r event)) (sym place) (subst (λ (m : ℕ). IsEventAt (listed r) q.0 m) node (v, q.4))

  -- an event at a place has a number
  pub placed_under : (place : ℕ) (event : EventId) → IsPlacedAt seen place event → (v : ℕ) × IsNumberUnder r.under event v
  placed_under place event placed =
      let one = map_there (λ (q : Placed). q.id) (events_of seen) place event placed in
      let c = came_at r is seen holds place one.0 one.1 in
      (c.0, subst (λ (i : EventId). IsNumberUnder r.under i c.0) (c.3 ∙ one.2) (is.every c.0 c.1 c.2))

  place_known : (place : ℕ) (event : EventId) → IsPlacedAt seen place event → place_of (events_of seen) event ≡ place
  place_known place event placed =
      let one = map_there (λ (q : Placed). q.id) (events_of seen) place event placed in
      ap (place_of (events_of seen)) (sym one.2) ∙ place_is (events_of seen) place one.0 (ids_differ seen) one.1

  pub placed_stands : (place : ℕ) (event : EventId) → IsPlacedAt seen place event → IsEventAt (listed r) place (node_of r event)
  placed_stands place event placed =
      let v = placed_under place event placed in
      subst (λ (j : ℕ). IsEventAt (listed r) j (node_of r event)) (place_known place event placed) (event_stands event v.0 v.1)

  -- ---- packets
  pub packets_under : (kept : List Stored) → All (HasEventOf seen) (all_timed kept) → All (λ (s : Stored). (v : ℕ) × IsNumberUnder r.under (event_of (timed s)) v) kept
  packets_under kept there k s inside = event_under r is seen holds (timed (get_or kept k s)) (of_stored (HasEventOf seen) kept there k s inside)

  abbrev pub nodes_told : List Stored → List ℕ
  nodes_told kept = map (λ (s : Stored). node_of r (event_of (timed s))) kept

  packet_stands : (kept : List Stored) → All (HasEventOf seen) (all_timed kept) → (k : ℕ) (s : Stored) → slice_get kept k ≡ Some s → IsEventAt (listed r) (place_of (events_of seen) (event_of (timed s))) (node_of r (event_of (timed s)))
  packet_stands kept there k s at_k =
      let inside : k < length kept = slice_get_within kept k s at_k in
      let own : get_or kept k s ≡ s = get_or_from_slice_get kept k s s at_k in
      let v = subst (λ (x : Stored). (v : ℕ) × IsNumberUnder r.under (event_of (timed x)) v) own (packets_under kept there k s inside) in
      event_stands (event_of (timed s)) v.0 v.1

  -- the nodes are those of listed events
  pub nodes_stand : (kept : List Stored) → All (HasEventOf seen) (all_timed kept) → All (λ (node : ℕ). (place : ℕ) × IsEventAt (listed r) place node) (nodes_told kept)
  nodes_stand kept there = All-map (λ (node : ℕ). (place : ℕ) × IsEventAt (listed r) place node) (λ (s : Stored). node_of r (event_of (timed s))) kept
      (λ k s inside. let v = packets_under kept there k s inside in let t = timed (get_or kept k s) in (place_of (events_of seen) (event_of t), event_stands (event_of t) v.0 v.1))

  -- what is told of the nodes is so of the packets
  pub since_packets : (s : SolverLists) → IsSolutionBy (listed r) (problem_of_seen r.declaration seen) s → (kept : List Stored) → All (HasEventOf seen) (all_timed kept) → (place : ℕ) (event : EventId) → IsPlacedAt seen place event
      → (all : List Ends) → AreSinceAt s (node_of r event) (nodes_told kept) all → AreEndsFrom r.declaration seen place (all_timed kept) all
  since_packets s solution kept there place event placed all told = record {
    each = told.each ∙ length-map kept (λ (x : Stored). node_of r (event_of (timed x))) ∙ sym (length-map kept timed);
    are = λ k t ends at_t at_ends. (
        let x = map_there timed kept k t at_t in
        let node = map_at (λ (y : Stored). node_of r (event_of (timed y))) kept k x.0 x.1 in
        subst (λ (u : Timed). AreEndsSince (problem_of_seen r.declaration seen) place (place_of (events_of seen) (event_of u)) ends) x.2
        (told.are (listed r) (problem_of_seen r.declaration seen) place solution (placed_stands place event placed) k (node_of r (event_of (timed x.0))) (place_of (events_of seen) (event_of (timed x.0))) ends node
        (packet_stands kept there k x.0 x.1) at_ends));
  }

  -- ---- the first event
  pub first_told : (s : SolverLists) → IsSolutionBy (listed r) (problem_of_seen r.declaration seen) s → (x : Times) → IsEarliestExecution (problem_of_seen r.declaration seen) x
      → map (at s.earliest.values) (listed_nodes (listed r)) ≡ map x (nodes_of (problem_of_seen r.declaration seen) (all_readings (problem_of_seen r.declaration seen).events))
      → (v : ℕ) (e : Came) → slice_get r.came v ≡ Some e → IsFirstBefore s r.came v (length r.came) → (place : ℕ) × IsFirstOfAll r.declaration seen place (id_of e)
  first_told s solution x earliest same v e came first =
      let p = problem_of_seen r.declaration seen in
      let q = first_placed r is seen holds s p (all_readings p.events) x same refl v e came first in
      (q.0, record { times = x; earliest = earliest; placed = q.1; first = q.2; is = q.6 })

  pub first_some : (s : SolverLists) → IsSolutionBy (listed r) (problem_of_seen r.declaration seen) s → (x : Times) → IsEarliestExecution (problem_of_seen r.declaration seen) x
      → map (at s.earliest.values) (listed_nodes (listed r)) ≡ map x (nodes_of (problem_of_seen r.declaration seen) (all_readings (problem_of_seen r.declaration seen).events)) → (o : Option EventId)
      → IfSome o (λ event. (v : ℕ) × (e : Came) × (slice_get r.came v ≡ Some e) × IsFirstBefore s r.came v (length r.came) × (id_of e ≡ event)) → IfSome o (λ event. (place : ℕ) × IsFirstOfAll r.declaration seen place event)
  first_some s solution x earliest same None told = tt
  first_some s solution x earliest same (Some event) (v, e, came, first, id) =
      let told = first_told s solution x earliest same v e came first in
      (told.0, subst (λ (i : EventId). IsFirstOfAll r.declaration seen told.0 i) id told.1)

  pub first_none : (o : Option EventId) → IfNone o (length r.came ≡ 0) → IfNone o (events_of seen ≡ [])
  first_none None none = none_came r is seen holds none
  first_none (Some event) none = tt
