-- What an engine that holds the answer of a listed problem knows of its events.
use Rattle.std.proofs.Common.{◌≡◌, ◌<◌, ◌+◌, ℕ, true, false, List, [], length, slice_get, Some, refl, sym, ◌∙◌, subst, arith, inl, inr}
use Rattle.std.specs.Prelude.{Contains}
use Rattle.std.proofs.lemmas.List.Elements.{Contains-get_or}
use Rattle.std.proofs.lemmas.Option.{same_Some, slice_get_within, get_or_from_slice_get}
use Rattle.problem_model.specs.declared.items.Node.TheVariants as nodes
use Rattle.problem_model.specs.Problem.{ProblemLists}
use Rattle.problem_model.specs.Bounds.{IsReading}
use Rattle.problem_model.specs.Nodes.{Reading, nodes_of}
use Rattle.problem_model.proofs.Places.{event_stands, reading_stands}
use Rattle.problem.specs.Listing.{Listed, all_readings}
use Rattle.problem.proofs.ListedNodes.{event_node, reading_node, map_at, stamp_of}
use Rattle.sync_graph.specs.InForce.{IsEarliestOf}
use Rattle.problem_graph.specs.ListedStanding.{IsNodeBy, IsEventAt, StandsForListed}
use Rattle.problem_graph.proofs.NodeNumbers.{events_count, number_below}
use Rattle.repair.specs.declared.slot.Slot.{Slot}
use Rattle.solver.specs.Solver.{SolverLists}
use Rattle.solver.specs.Changes.{KeepsAnswer}
use Rattle.solver.specs.Current.{IsCurrent}
use Rattle.solver.specs.Solution.{IsSolutionBy}
use Rattle.queries.specs.Asking.{IsListedReading, IsSourceReading}
use Rattle.problem.proofs.OwnReadings.{own_readings}

-- where the graph and what is held of it stay, so does the answer
pub goes_on : (l : Listed) (p : ProblemLists) (old new : SolverLists) → KeepsAnswer old new → IsCurrent new → IsSolutionBy l p old → IsSolutionBy l p new
goes_on l p old new keeps current solution = record {
  current = current;
  stands = λ readings are. subst (StandsForListed l p readings) (sym keeps.graph) (solution.stands readings are);
}

pub keeps_both : (old mid new : SolverLists) → KeepsAnswer old mid → KeepsAnswer mid new → KeepsAnswer old new
keeps_both old mid new first second = record {
  graph = second.graph ∙ first.graph;
  earliest = second.earliest ∙ first.earliest;
  contradiction = second.contradiction ∙ first.contradiction;
}

module _ (l : Listed) (p : ProblemLists) (s : SolverLists) (solution : IsSolutionBy l p s) where
  pub stands : StandsForListed l p (all_readings p.events) s.graph
  stands = solution.stands (all_readings p.events) (own_readings p)

  -- where the values are known they are the earliest execution of the graph, and no contradiction is held
  pub earliest_so : s.earliest.is_solved ≡ true → IsEarliestOf s.graph s.earliest.values
  earliest_so solved = elim solution.current.answer [
    | inl now ↦ now.earliest
    | inr held ↦ absurd (let unsolved : s.earliest.is_solved ≡ false = held.unsolved in cc)
  ]

  pub none_held : s.earliest.is_solved ≡ true → s.contradiction ≡ []
  none_held solved = elim solution.current.answer [
    | inl now ↦ now.none
    | inr held ↦ absurd (let unsolved : s.earliest.is_solved ≡ false = held.unsolved in cc)
  ]

  -- a listed event is a node of the graph, and of the problem
  pub event_by : (place node : ℕ) → IsEventAt l place node → IsNodeBy l p (all_readings p.events) node (nodes.Event place)
  event_by place node (event, at) =
      let inside = slice_get_within l.events place (event, node) at in
      let count = events_count l p (all_readings p.events) s.graph stands in
      (place, event_node l place (event, node) at, event_stands p (all_readings p.events) place (omega (arith, inside, count)))

  pub event_below : (place node : ℕ) → IsEventAt l place node → node < length s.graph.nodes
  event_below place node at = number_below l p (all_readings p.events) s.graph stands node (nodes.Event place) (event_by place node at)

  -- so is a listed reading
  reading_there : (clock stamp number place : ℕ) → slice_get l.readings place ≡ Some (clock, stamp, number) → slice_get (all_readings p.events) place ≡ Some (clock, stamp)
  reading_there clock stamp number place at =
      subst (λ (rs : List Reading). slice_get rs place ≡ Some (clock, stamp)) stands.listed.stamps
      (map_at stamp_of l.readings place (clock, stamp, number) at)

  pub reading_by : (clock stamp number : ℕ) → IsListedReading l clock stamp number → IsNodeBy l p (all_readings p.events) number (nodes.Reading clock stamp)
  reading_by clock stamp number (place, at) =
      let count = events_count l p (all_readings p.events) s.graph stands in (
        length l.events + place,
        reading_node l (length l.events + place) place (clock, stamp, number) refl at,
        subst (λ (n : ℕ). slice_get (nodes_of p (all_readings p.events)) (n + place) ≡ Some (nodes.Reading clock stamp)) (sym count)
            (reading_stands p (all_readings p.events) place (clock, stamp) (reading_there clock stamp number place at)),
      )

  pub reading_below : (clock stamp number : ℕ) → IsListedReading l clock stamp number → number < length s.graph.nodes
  reading_below clock stamp number at = number_below l p (all_readings p.events) s.graph stands number (nodes.Reading clock stamp) (reading_by clock stamp number at)

  pub reading_is : (clock stamp number : ℕ) → IsListedReading l clock stamp number → IsReading p clock stamp
  reading_is clock stamp number (place, at) =
      let there = reading_there clock stamp number place at in
      let r : Reading = (clock, stamp) in
      stands.are_readings.each clock stamp
      (subst (Contains (all_readings p.events)) (get_or_from_slice_get (all_readings p.events) place r r there)
      (Contains-get_or (all_readings p.events) place r (slice_get_within (all_readings p.events) place r there)))

  -- the source's slot is that of this reading
  pub slot_reading : (slot : Slot) → s.kept.source ≡ Some slot → (clock stamp : ℕ) → IsSourceReading l s clock stamp → IsListedReading l clock stamp slot.node
  slot_reading slot is clock stamp (other, is', at) = subst (λ (o : Slot). IsListedReading l clock stamp o.node) (same_Some other slot (sym is' ∙ is)) at
