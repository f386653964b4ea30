-- A problem that is solved has one merge.
use Rattle.std.proofs.Common.{◌≡◌, ◌<◌, ◌++◌, ℕ, List, length, map, get_or, ℤ, ◌≤ℤ◌, slice_get, Some, All, sym, ◌∙◌, ap, subst, arith, inl}
use Rattle.std.proofs.lemmas.Int.{ints}
use Rattle.std.proofs.lemmas.List.{length-map}
use Rattle.std.proofs.lemmas.Option.{same_Some, slice_get-get_or}
use Rattle.problem_model.specs.declared.items.Node.TheVariants as nodes
use Rattle.problem_model.specs.Problem.{ProblemLists}
use Rattle.problem_model.specs.Bounds.{Times}
use Rattle.problem_model.specs.Nodes.{Reading, nodes_of}
use Rattle.problem_model.proofs.Places.{event_stands}
use Rattle.problem_model.specs.Executions.{at}
use Rattle.problem_model.specs.Solutions.{IsEarliestExecution}
use Rattle.problem.specs.Listing.{Listed, all_readings, listed_nodes}
use Rattle.problem.proofs.ListedNodes.{event_node, map_at}
use Rattle.traces.proofs.Lists.{all_at}
use Rattle.decl.specs.Declaration.{Declaration}
use Rattle.traces.specs.Seen.{Seen}
use Rattle.traces.specs.Traces.{Placed, events_of}
use Rattle.traces.specs.Messages.{event_with, problem_of_seen}
use Rattle.report.specs.declared.merge.MergeKey.{MergeKey}
use Rattle.report.specs.Merging.{IsMergeOrder}
use Rattle.problem_graph.proofs.NodeNumbers.{events_count}
use Rattle.solver.specs.Solver.{SolverLists}
use Rattle.solver.specs.Solution.{IsSolutionBy}
use Rattle.queries.specs.Replies.{Replies}
use Rattle.queries.proofs.Solutions.{stands}
use Rattle.replies.specs.Merged.{keys_from, IsMergeText}
use Rattle.replies.specs.Writing.{AreValued, IsTextBy, count_line, lines_merged, listed_node, times_by}
use Rattle.replies.proofs.Agreeing.{Agree, keys_agree, lines_agree}
use Rattle.replies.proofs.OneOrder.{order_one}

-- ---- one merge
same_by_order : (a b : ℤ) → a ≤ℤ b → b ≤ℤ a → a ≡ b
same_by_order a b below above = omega (arith, ints, below, above)

earliest_agree : (p : ProblemLists) (x y : Times) → IsEarliestExecution p x → IsEarliestExecution p y → Agree (length p.events) x y
earliest_agree p x y e f k inside =
    same_by_order (x (nodes.Event k)) (y (nodes.Event k)) (e.least y f.execution f.from_zero (nodes.Event k) inside) (f.least x e.execution e.from_zero (nodes.Event k) inside)

event_total : (d : Declaration) (seen : List (List Seen)) → length (problem_of_seen d seen).events ≡ length (events_of seen)
event_total d seen = length-map (events_of seen) (event_with d)

pub one_merge : (d : Declaration) (seen : List (List Seen)) (a b : List ℕ) → IsMergeText d seen a → IsMergeText d seen b → a ≡ b
one_merge d seen a b is is' =
    let events : List Placed = events_of seen in
    let agree : Agree (length events) is.times is'.times =
    subst (λ (n : ℕ). Agree n is.times is'.times) (event_total d seen) (earliest_agree (problem_of_seen d seen) is.times is'.times is.earliest is'.earliest) in
    let sorted : IsMergeOrder (keys_from is.times 0 events) is'.order = subst (λ (keys : List MergeKey). IsMergeOrder keys is'.order) (sym (keys_agree is.times is'.times events agree)) is'.sorted in
    let order : is.order ≡ is'.order = order_one (keys_from is.times 0 events) is.order is'.order is.sorted sorted in
    is.is ∙ ap (λ (ks : List ℕ). count_line (length events) ++ lines_merged d is.times events ks) order
    ∙ ap (λ (lines : List ℕ). count_line (length events) ++ lines) (lines_agree d is.times is'.times events is'.order agree) ∙ sym is'.is

-- ---- the merge that is written
module _ (d : Declaration) (seen : List (List Seen)) (l : Listed) (s : SolverLists) (solution : IsSolutionBy l (problem_of_seen d seen) s) where
  abbrev p : ProblemLists
  p = problem_of_seen d seen

  abbrev readings : List Reading
  readings = all_readings (problem_of_seen d seen).events

  as_many : length l.events ≡ length (problem_of_seen d seen).events
  as_many = events_count l p readings s.graph (stands l p s solution)

  -- the listing gives a node for the event at each place
  node_there : (k : ℕ) → k < length l.events → slice_get (listed_nodes l) k ≡ Some (listed_node l k)
  node_there k inside = event_node l k (get_or l.events k (0, 0)) (slice_get-get_or l.events k (0, 0) inside)

  -- each event has a value
  pub valued : (count : ℕ) → length (events_of seen) ≡ count → (values : List ℤ) → All (λ k. k < length values) (listed_nodes l) → AreValued l count values
  valued count total values all = record {
    as_many = as_many ∙ event_total d seen ∙ total;
    valued = λ k inside. all_at (λ n. n < length values) (listed_nodes l) k (listed_node l k) all (node_there k (let many = as_many ∙ event_total d seen ∙ total in omega (arith, inside, many)));
  }

  module _ (values : List ℤ) (x : Times) (is : map (at values) (listed_nodes l) ≡ map x (nodes_of (problem_of_seen d seen) (all_readings (problem_of_seen d seen).events))) where
    -- the values of the events' nodes are their times
    values_agree : Agree (length (problem_of_seen d seen).events) (times_by l values) x
    values_agree k inside =
        let by_number : slice_get (map (at values) (listed_nodes l)) k ≡ Some (at values (listed_node l k)) = map_at (at values) (listed_nodes l) k (listed_node l k) (node_there k (let many = as_many in omega (arith, inside, many))) in
        let by_node : slice_get (map x (nodes_of p readings)) k ≡ Some (x (nodes.Event k)) = map_at x (nodes_of p readings) k (nodes.Event k) (event_stands p readings k inside) in
        same_Some (at values (listed_node l k)) (x (nodes.Event k)) (sym by_number ∙ ap (λ (xs : List ℤ). slice_get xs k) is ∙ by_node)

    -- what is merged by the values of the events' nodes is the reply
    pub merge_shows : IsEarliestExecution (problem_of_seen d seen) x → (text : List ℕ)
        → IsTextBy d (times_by l values) (events_of seen) text → Replies (problem_of_seen d seen) (IsMergeText d seen) text
    merge_shows earliest text by =
        let events : List Placed = events_of seen in
        let agree : Agree (length events) (times_by l values) x = subst (λ (n : ℕ). Agree n (times_by l values) x) (event_total d seen) values_agree in
        inl (
          (x, earliest.execution),
          record {
            times = x;
            earliest = earliest;
            order = by.0;
            sorted = subst (λ (keys : List MergeKey). IsMergeOrder keys by.0) (keys_agree (times_by l values) x events agree) by.1;
            is = by.2 ∙ ap (λ (lines : List ℕ). count_line (length events) ++ lines) (lines_agree d (times_by l values) x events by.0 agree);
          },
        )
