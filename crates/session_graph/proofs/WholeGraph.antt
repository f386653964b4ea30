-- What is kept between additions, and what holds while one is under way.
use Rattle.std.proofs.Common.{◌≡◌, ◌<◌, ◌≤◌, ◌+◌, ◌*◌, ◌^◌, ℕ, List, [], ◌∷◌, length, map, slice_get, Some, Contains, All, refl, sym, ap, subst, arith, length-append}
use Rattle.std.proofs.lemmas.List.{length-map}
use Rattle.std.proofs.lemmas.List.Elements.{All-cons, All-nil}
use Rattle.std.proofs.lemmas.Option.{none-some}
use Rattle.problem.specs.Listing.{Listed}
use Rattle.problem_model.specs.declared.items.Message.{Message}
use Rattle.problem_model.specs.Problem.{IsProblem}
use Rattle.problem_model.specs.Limits.{most_events}
use Rattle.decl.specs.declared.items.Label.{Label}
use Rattle.sync_graph.specs.Graph.{GraphLists, no_graph}
use Rattle.problem_graph.specs.ListedStanding.{StandsForListed}
use Rattle.solver.specs.Solver.{SolverLists}
use Rattle.solver.specs.Current.{IsCurrent}
use Rattle.traces.specs.Seen.{Seen}
use Rattle.traces.specs.Traces.{Placed, event_count, events_from}
use Rattle.traces.specs.Messages.{messages_of, problem_of_seen}
use Rattle.traces.proofs.Members.{none_in}
use Rattle.traces.specs.Making.{StampsFit}
use Rattle.traces.proofs.Seen.{problem_lawful}
use Rattle.roster.specs.declared.came.Came.{Came}
use Rattle.roster.specs.Roster.{RosterLists, IsRoster, HoldsEvents, listed}
use Rattle.roster.proofs.Holding.{holds_none}
use Rattle.roster.proofs.ListedPlaces.{event_places, readings_many}
use Rattle.roster.proofs.Problem.{all_are, listed_by}
use Rattle.roster.specs.Rosters.{named_event, problem_by_number, KnowsNodes}
use Rattle.roster.specs.Told.{messages_by_number, numbered_message}
use Rattle.roster.proofs.Loop.{nothing_grown}
use Rattle.roster.proofs.Rosters.{by_number, tells}
use Rattle.roster.proofs.Whole.{stands}
use Rattle.session_graph.specs.Kept.{IsGrownBy, IsKeptFor}
use Rattle.session_graph.specs.UnderWay.{IsChangeUnderWay}
use Rattle.session_graph.proofs.Alike.{AreAlike, grown_alike}
use Rattle.session_graph.proofs.Carried.{carried}
use Rattle.session_graph.proofs.Held.{labels_many, events_many}

module _ (r : RosterLists) (is : IsRoster r) (seen : List (List Seen)) (s : SolverLists) where
  -- ---- from what is kept
  few_nodes : IsKeptFor seen r s → length s.graph.nodes ≤ 2 * length r.came
  few_nodes kept =
      let l : Listed = listed r in
      let whole = kept.solution.stands _ (all_are r is seen kept.holds) in
      let each = whole.one_each in
      let few = is.on_clocks.few in
      omega (
        arith,
        each,
        length-append (map {A = ℕ × ℕ} (λ e. e.1) l.events) (map {A = ℕ × ℕ × ℕ} (λ x. x.2) l.readings),
        length-map {A = ℕ × ℕ} l.events (λ e. e.1),
        length-map {A = ℕ × ℕ × ℕ} l.readings (λ x. x.2),
        event_places r is,
        readings_many r is,
        few,
      )

  pub kept_way : IsKeptFor seen r s → IsChangeUnderWay (messages_by_number r seen) r s
  kept_way kept = record { current = kept.solution.current; grown = kept.grown; nodes = few_nodes kept }

  -- ---- to what is kept
  lawful : HoldsEvents r seen → StampsFit seen → IsProblem (problem_of_seen r.declaration seen)
  lawful holds fit =
      let few : event_count seen ≤ most_events = subst (λ (n : ℕ). n ≤ most_events) (sym (events_many r is seen holds)) is.few in
      problem_lawful r.declaration seen is.declared (labels_many r is seen holds) few fit

  pub way_kept : (messages : List Message) → HoldsEvents r seen → StampsFit seen → AreAlike messages (messages_by_number r seen) → IsChangeUnderWay messages r s → length s.graph.arcs ≤ 8 * length r.came → IsKeptFor seen r s
  way_kept messages holds fit alike way few =
      let grown : IsGrownBy r (messages_by_number r seen) s.graph = grown_alike r messages (messages_by_number r seen) s.graph alike way.grown in
      record {
        holds = holds;
        stamps = fit;
        solution = record {
          current = way.current;
          stands = λ readings are. stands (listed r) (problem_by_number r (messages_by_number r seen)) (problem_of_seen r.declaration seen) readings s.graph way.current.set_up.graph (lawful holds fit) are
              (listed_by r is seen holds readings are) (by_number r is seen holds (messages_by_number r seen) (carried r is seen holds)) (tells r is s.graph grown.knows) grown.grown;
        };
        grown = grown;
        few = few;
      }

-- ---- another solver with the same graph
pub kept_still : (r : RosterLists) (seen : List (List Seen)) (s t : SolverLists) → t.graph ≡ s.graph → IsCurrent t → IsKeptFor seen r s → IsKeptFor seen r t
kept_still r seen s t same current kept = record {
  holds = kept.holds;
  stamps = kept.stamps;
  solution = record {
    current = current;
    stands = λ readings are. subst (λ (g : GraphLists). StandsForListed (listed r) (problem_of_seen r.declaration seen) readings g) (sym same) (kept.solution.stands readings are);
  };
  grown = subst (IsGrownBy r (messages_by_number r seen)) (sym same) kept.grown;
  few = subst (λ (g : GraphLists). length g.arcs ≤ 8 * length r.came) (sym same) kept.few;
}

-- ---- nothing yet
no_events : (k : ℕ) (labels : List Label) → events_from k (map (λ (l : Label). []) labels) ≡ []
no_events k [] = refl
no_events k (l ∷ labels) = no_events (k + 1) labels

no_stamps : (labels : List Label) → StampsFit (map (λ (l : Label). []) labels)
no_stamps [] = All-nil (λ (rows : List Seen). All (λ (x : Seen). x.stamp < 2 ^ 62) rows)
no_stamps (l ∷ labels) = All-cons (λ (rows : List Seen). All (λ (x : Seen). x.stamp < 2 ^ 62) rows) [] (map (λ (l : Label). []) labels) (All-nil (λ (x : Seen). x.stamp < 2 ^ 62)) (no_stamps labels)

module _ (r : RosterLists) (is : IsRoster r) (none : r.came ≡ []) (s : SolverLists) (empty : s.graph ≡ no_graph) (current : IsCurrent s) where
  no_came : (v : ℕ) (e : Came) → slice_get r.came v ≡ Some e → ⊥
  no_came v e at = none-some e (subst (λ (cs : List Came). slice_get cs v ≡ Some e) none at)

  nothing_known : (g : GraphLists) → KnowsNodes r g
  nothing_known g = record {
    events = λ v e at. absurd (no_came v e at);
    readings = λ clock x has. (
        let shown = is.on_clocks.each clock x.0 (x.1, has) in
        absurd (none_in shown.0 (subst (λ (cs : List Came). Contains cs shown.0) none shown.1)));
  }

  nothing_by : IsGrownBy r [] no_graph
  nothing_by =
      let start = nothing_grown (problem_by_number r []) (ap (λ (cs : List Came). map (named_event r.declaration) cs) none) refl in
      record {
        grown = start.0;
        once = start.1;
        knows = nothing_known no_graph;
        tells = record { each = λ m has. absurd (none_in m has); only = λ v e p at told. absurd (no_came v e at) };
      }

  pub nothing_kept : IsKeptFor (map (λ (l : Label). []) r.declaration.labels) r s
  nothing_kept =
      let seen : List (List Seen) = map (λ (l : Label). []) r.declaration.labels in
      let no_messages : messages_by_number r seen ≡ [] = ap (λ (events : List Placed). map (numbered_message r) (messages_of events)) (no_events 0 r.declaration.labels) in
      let way : IsChangeUnderWay [] r s = record {
        current = current;
        grown = subst (IsGrownBy r []) (sym empty) nothing_by;
        nodes = subst (λ (g : GraphLists). length g.nodes ≤ 2 * length r.came) (sym empty) (let z : 0 ≤ 2 * length r.came = omega arith in z);
      } in
      way_kept r is seen s [] (holds_none r is none) (no_stamps r.declaration.labels)
      (record { forth = λ m has. absurd (none_in m has); back = λ m has. subst (λ (ms : List Message). Contains ms m) no_messages has }) way
      (subst (λ (g : GraphLists). length g.arcs ≤ 8 * length r.came) (sym empty) (let z : 0 ≤ 8 * length r.came = omega arith in z))
