-- The greatest differences of two nodes of a graph that stands for a listed problem.
use Rattle.std.proofs.Common.{◌≡◌, ◌<◌, ◌≤◌, ◌*◌, ◌^◌, ℕ, List, [], length, get_or, subst, arith}
use Rattle.std.specs.Prelude.{ℤ, pos, neg_ℤ, ◌-ℤ◌, ◌≤ℤ◌, ◌<ℤ◌}
use Rattle.std.proofs.lemmas.Int.{ints}
use Rattle.std.proofs.lemmas.List.Elements.{Contains-get_or}
use Rattle.problem_model.specs.declared.items.Node.{Node}
use Rattle.problem_model.specs.Problem.{ProblemLists}
use Rattle.problem_model.specs.Nodes.{Reading, AreReadings}
use Rattle.problem_model.specs.Executions.{Arc, at}
use Rattle.problem_model.specs.Differences.{IsGreatest}
use Rattle.problem_model.specs.Limits.{path_bits}
use Rattle.problem_model.proofs.Heights.{earliest_height, greatest_height, height_low}
use Rattle.problem.specs.Listing.{Listed}
use Rattle.row_pool.specs.declared.cell.Reach.{Reach}
use Rattle.row_pool.specs.declared.cell.Reach.TheVariants as reaches
use Rattle.row_pool.specs.declared.cell.Pair.{Pair}
use Rattle.intervals.specs.Ends.{IsSmall, FitsReach, FitsPair}
use Rattle.intervals.specs.Executions.{IsReachOf, IsPairOf}
use Rattle.sync_graph.specs.declared.arc.Arc as graphs
use Rattle.sync_graph.specs.Graph.{GraphLists, IsGraph, IsSound, arc_at, unnamed}
use Rattle.sync_graph.specs.InForce.{arcs_of, IsEarliestOf}
use Rattle.problem_graph.specs.ListedStanding.{IsNodeBy, StandsForListed}
use Rattle.sync_graph.proofs.InForce.{in_force_below, arcs_listed, arcs_within}
use Rattle.problem_graph.proofs.NodeNumbers.{number_below}
use Rattle.problem_graph.proofs.ListedExecutions.{greatest_of, unbounded_of}
use Rattle.distances.specs.Reaches.{IsReachIn}
use Rattle.repair.specs.Pairs.{IsPairIn}
use Rattle.solver.specs.Solver.{SolverLists}
use Rattle.solver.proofs.Staying.{solved_now}
use Rattle.solver.specs.Solution.{IsSolutionBy}

-- ---- of the problem
module _ (l : Listed) (p : ProblemLists) (readings : List Reading) (g : GraphLists) (stands : StandsForListed l p readings g) (is : IsGraph g)
    (j k : ℕ) (m n : Node) (by : IsNodeBy l p readings j m) (by' : IsNodeBy l p readings k n)
  where
    there : (r : Reach) → IsReachIn g j k r → IsReachOf p m n r
    there (reaches.At h) greatest = greatest_of l p readings g stands is j k m n by by' h greatest
    there reaches.Never unbounded = unbounded_of l p readings g stands is j k m n by by' unbounded

pub pair_of : (l : Listed) (p : ProblemLists) (readings : List Reading) (s : SolverLists) (j k : ℕ) (m n : Node) (pair : Pair) → AreReadings p readings → IsSolutionBy l p s
    → IsNodeBy l p readings j m → IsNodeBy l p readings k n → IsPairIn s.graph j k pair → IsPairOf p m n pair
pair_of l p readings s j k m n pair are is by by' told =
    let stands = is.stands readings are in
    let graph = is.current.set_up.graph in
    let below = number_below l p readings s.graph stands k n by' in
    record {
      there = there l p readings s.graph stands graph j k m n by by' pair.up (told.up below);
      back = there l p readings s.graph stands graph k j n m by' by pair.down (told.down below);
    }

-- ---- sizes
light : (n : ℕ) (a : graphs.Arc) → IsSound n a → (neg_ℤ (pos (2 ^ 93)) ≤ℤ (unnamed a).weight) × ((unnamed a).weight ≤ℤ pos (2 ^ 93))
light n a sound =
    let low : neg_ℤ (pos (2 ^ 93)) <ℤ a.weight = sound.low in
    let high : a.weight <ℤ pos (2 ^ 93) = sound.high in
    (omega (arith, ints, low, high), omega (arith, ints, low, high))

module _ (g : GraphLists) (is : IsGraph g) where
  weights : (a : Arc) (j : ℕ) → j < length g.arcs → unnamed (arc_at g.arcs j) ≡ a → (neg_ℤ (pos (2 ^ 93)) ≤ℤ a.weight) × (a.weight ≤ℤ pos (2 ^ 93))
  weights a j below same = subst (λ (b : Arc). (neg_ℤ (pos (2 ^ 93)) ≤ℤ b.weight) × (b.weight ≤ℤ pos (2 ^ 93))) same (light (length g.nodes) (arc_at g.arcs j) (is.sound j _ below))

  all_light : (k : ℕ) (d : Arc) → k < length (arcs_of g) → (neg_ℤ (pos (2 ^ 93)) ≤ℤ (get_or (arcs_of g) k d).weight) × ((get_or (arcs_of g) k d).weight ≤ℤ pos (2 ^ 93))
  all_light k d inside =
      let from = (arcs_listed g is).only (get_or (arcs_of g) k d) (Contains-get_or (arcs_of g) k d inside) in
      weights (get_or (arcs_of g) k d) from.0 (in_force_below g is from.0 from.1) from.2

  module _ (values : List ℤ) (earliest : IsEarliestOf g values) (j k : ℕ) (j_below : j < length g.nodes) (k_below : k < length g.nodes) where
    small : (h : ℤ) → IsGreatest (length g.nodes) (arcs_of g) j k h → IsSmall h
    small h greatest =
        let limit : length g.nodes * 2 ^ 93 ≤ 2 ^ path_bits = height_low (length g.nodes) is.node_limit in
        let high : h ≤ℤ pos (length g.nodes * 2 ^ 93) = greatest_height (length g.nodes) (arcs_of g) (2 ^ 93) (arcs_within g is) (λ i d inside. (all_light i d inside).1) j k h j_below k_below greatest in
        let most : (at values k -ℤ at values j) ≤ℤ h = greatest.most values earliest.execution in
        let from : pos 0 ≤ℤ at values k = earliest.non_negative k in
        let below : at values j ≤ℤ pos (length g.nodes * 2 ^ 93) =
        earliest_height (length g.nodes) (arcs_of g) values (2 ^ 93) (arcs_within g is) (λ i d inside. (all_light i d inside).0) earliest j j_below in
        sized (length g.nodes * 2 ^ 93) h (at values j) (at values k) limit high most from below
      where
        sized : (n : ℕ) (h x y : ℤ) → n ≤ 2 ^ path_bits → h ≤ℤ pos n → (y -ℤ x) ≤ℤ h → pos 0 ≤ℤ y → x ≤ℤ pos n → IsSmall h
        sized n h x y limit high most from below = (omega (arith, ints, limit, high, most, from, below), omega (arith, ints, limit, high, most, from, below))

    fits : (r : Reach) → IsReachIn g j k r → FitsReach r
    fits (reaches.At h) greatest = small h greatest
    fits reaches.Never unbounded = tt

pub pair_fits : (l : Listed) (p : ProblemLists) (s : SolverLists) (j k : ℕ) (pair : Pair) → IsSolutionBy l p s → s.contradiction ≡ []
    → j < length s.graph.nodes → k < length s.graph.nodes → IsPairIn s.graph j k pair → FitsPair pair
pair_fits l p s j k pair is none j_below k_below told =
    let graph = is.current.set_up.graph in
    let now = solved_now s is.current none in (
      fits s.graph graph s.earliest.values now.earliest j k j_below k_below pair.up (told.up k_below),
      fits s.graph graph s.earliest.values now.earliest k j k_below j_below pair.down (told.down k_below),
    )
