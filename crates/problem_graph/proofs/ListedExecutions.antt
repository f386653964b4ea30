-- A graph that stands for a listed problem has its executions, node by node.
use Rattle.std.proofs.Common.{◌≡◌, ℕ, true, List, length, map, get_or, refl, sym, ◌∙◌, subst, arith, inl, inr}
use Rattle.std.specs.Prelude.{ℤ, pos, ◌-ℤ◌, ◌≤ℤ◌, ◌<ℤ◌}
use Rattle.std.proofs.lemmas.Int.{ints}
use Rattle.std.proofs.lemmas.Bool.{cases_lt}
use Rattle.std.proofs.lemmas.List.{length-map, get_or_past}
use Rattle.std.proofs.lemmas.Option.{slice_get-get_or}
use Rattle.problem_model.specs.declared.items.Node.{Node}
use Rattle.problem_model.specs.declared.items.Node.TheVariants as nodes
use Rattle.problem_model.specs.declared.items.Bound.{Bound}
use Rattle.problem_model.specs.Problem.{ProblemLists}
use Rattle.problem_model.specs.Bounds.{Times}
use Rattle.problem_model.specs.Bounds as bounds
use Rattle.problem_model.specs.Nodes.{Reading, nodes_of}
use Rattle.problem_model.proofs.OneName.{declared_one}
use Rattle.problem_model.proofs.Following.{chained_by}
use Rattle.problem_model.proofs.Sufficing.{suffices}
use Rattle.problem_model.specs.Executions.{at, difference, IsExecution, Obeys, values_by}
use Rattle.problem_model.specs.Differences.{IsGreatest, IsUnbounded}
use Rattle.problem_model.specs.Earliest.{IsNonNegative}
use Rattle.problem_model.specs.ProblemArcs.{IsNodeAt, IsGreatestOf, IsUnboundedOf}
use Rattle.problem_model.specs.Solutions.{IsFromZero, IsEarliestExecution}
use Rattle.problem_model.specs.Tables.{ObeysAll}
use Rattle.problem_model.proofs.Executions.{at-values_by}
use Rattle.problem_model.proofs.Problems.{time_at}
use Rattle.problem_model.proofs.Tables.{obeys_all, execution_of_table, earliest_below}
use Rattle.std.proofs.lemmas.List.FromFn.{length-map-range_with_len}
use Rattle.sync_graph.specs.declared.arc.Arc.{Arc}
use Rattle.sync_graph.specs.Graph.{GraphLists, IsGraph, arc_at, unnamed, table_of}
use Rattle.sync_graph.specs.InForce.{arcs_of, IsEarliestOf}
use Rattle.sync_graph.proofs.InForce.{arcs_listed, arcs_within}
use Rattle.problem.specs.Listing.{Listed, listed_nodes}
use Rattle.problem_graph.specs.ListedStanding.{IsNodeBy, IsBoundBy, StandsForListed}
use Rattle.problem_graph.proofs.NodeNumbers.{number_below, node_at, number_of, times_by, time_by, time_of_number, time_of_number_is}

module _ (l : Listed) (p : ProblemLists) (readings : List Reading) (g : GraphLists) (stands : StandsForListed l p readings g) where
  -- an arc in force is a bound of the problem
  pub bound_of : (j : ℕ) → (table_of g).in_force j ≡ true → (b : Bound) × IsBoundBy l p readings b (arc_at g.arcs j)
  bound_of j force = stands.each (arc_at g.arcs j) (j, force, refl)

  -- ---- the same real times, by node and by number
  module _ (x : Times) (y : ℕ → ℤ) (same : (k : ℕ) (n : Node) → IsNodeBy l p readings k n → x n ≡ y k) where
    obeyed_bound : (b : Bound) (a : Arc) (by : IsBoundBy l p readings b a) → Obeys y (unnamed a) → bounds.Obeys x by.constraint
    obeyed_bound b a by obeyed =
        let arc : (y a.to -ℤ y a.from) ≤ℤ a.weight = obeyed in
        let from : x by.constraint.from ≡ y a.from = same a.from by.constraint.from by.tail in
        let to : x by.constraint.to ≡ y a.to = same a.to by.constraint.to by.head in
        let weighs : a.weight ≡ by.constraint.weight = by.weighs in
        omega (arith, ints, arc, from, to, weighs)

    obeyed_arc : (b : Bound) (a : Arc) (by : IsBoundBy l p readings b a) → bounds.Obeys x by.constraint → Obeys y (unnamed a)
    obeyed_arc b a by obeyed =
        let bound : (x by.constraint.to -ℤ x by.constraint.from) ≤ℤ by.constraint.weight = obeyed in
        let from : x by.constraint.from ≡ y a.from = same a.from by.constraint.from by.tail in
        let to : x by.constraint.to ≡ y a.to = same a.to by.constraint.to by.head in
        let weighs : a.weight ≡ by.constraint.weight = by.weighs in
        omega (arith, ints, bound, from, to, weighs)

    execution_by_node : ObeysAll (table_of g) y → bounds.IsExecution p x
    execution_by_node obeys = (suffices p x (chained_by p stands.lawful.formed) readings stands.are_readings).0 (λ i d inside c declares.
        let some = stands.every i d inside in
        let force = some.1 in
        let arc : Obeys y (unnamed some.0) = subst (λ (a : Arc). Obeys y (unnamed a)) force.2 (obeys force.0 force.1) in
        subst (bounds.Obeys x) (declared_one p stands.lawful.formed _ some.2.constraint c some.2.declares declares) (obeyed_bound _ some.0 some.2 arc))

    execution_by_number : bounds.IsExecution p x → ObeysAll (table_of g) y
    execution_by_number execution j force =
        let some = bound_of j force in
        obeyed_arc some.0 (arc_at g.arcs j) some.1 (execution some.0 some.1.constraint some.1.declares)

  -- ---- executions
  module _ (is : IsGraph g) where
    -- the real times of an execution of the graph
    pub times_of : (ys : List ℤ) → IsExecution (length g.nodes) (arcs_of g) ys → (x : Times) × (map (at ys) (listed_nodes l) ≡ map x (nodes_of p readings)) × bounds.IsExecution p x
    times_of ys execution =
        let some = times_by l p readings g stands (at ys) in (
          some.0,
          some.1,
          execution_by_node some.0 (at ys) (time_by l p readings g stands (at ys) some.0 some.1)
              (obeys_all (length g.nodes) (table_of g) (arcs_of g) ys (arcs_listed g is) execution),
        )

    -- an execution of the problem by number
    abbrev numbered : Times → List ℤ
    numbered x = values_by (time_of_number l p readings g stands x) (length g.nodes)

    numbered_is : (x : Times) (k : ℕ) (n : Node) → IsNodeBy l p readings k n → x n ≡ at (numbered x) k
    numbered_is x k n by =
        time_of_number_is l p readings g stands x k n by
        ∙ sym (at-values_by (time_of_number l p readings g stands x) (length g.nodes) k (number_below l p readings g stands k n by))

    execution_of : (x : Times) → bounds.IsExecution p x → IsExecution (length g.nodes) (arcs_of g) (numbered x)
    execution_of x execution =
        execution_of_table (length g.nodes) (table_of g) (arcs_of g) (numbered x) (arcs_listed g is) (length-map-range_with_len (time_of_number l p readings g stands x) 0 (length g.nodes))
        (execution_by_number x (at (numbered x)) (numbered_is x) execution)

    -- ---- differences
    module _ (j k : ℕ) (m n : Node) (by : IsNodeBy l p readings j m) (by' : IsNodeBy l p readings k n) where
      difference_is : (x : Times) (ys : List ℤ) → ((i : ℕ) (o : Node) → IsNodeBy l p readings i o → x o ≡ at ys i) → difference (at ys) j k ≡ (x n -ℤ x m)
      difference_is x ys same =
          let a : x m ≡ at ys j = same j m by in
          let b : x n ≡ at ys k = same k n by' in
          omega (arith, ints, a, b)

      difference_of : (ys : List ℤ) (execution : IsExecution (length g.nodes) (arcs_of g) ys) → difference (at ys) j k ≡ ((times_of ys execution).0 n -ℤ (times_of ys execution).0 m)
      difference_of ys execution = let some = times_of ys execution in difference_is some.0 ys (time_by l p readings g stands (at ys) some.0 some.1)

      pub greatest_of : (h : ℤ) → IsGreatest (length g.nodes) (arcs_of g) j k h → IsGreatestOf p m n h
      greatest_of h greatest = record {
        attained = (let some = times_of greatest.attained.0 greatest.attained.1 in (some.0, some.2, sym (difference_of greatest.attained.0 greatest.attained.1) ∙ greatest.attained.2));
        most = λ x execution. subst (λ (d : ℤ). d ≤ℤ h) (difference_is x (numbered x) (numbered_is x)) (greatest.most (numbered x) (execution_of x execution));
      }

      pub unbounded_of : IsUnbounded (length g.nodes) (arcs_of g) j k → IsUnboundedOf p m n
      unbounded_of unbounded h =
          let more = unbounded h in
          let some = times_of more.0 more.1 in
          (some.0, some.2, subst (λ (d : ℤ). h <ℤ d) (difference_of more.0 more.1) more.2)

    -- ---- the earliest execution
    values_from_zero : (x : Times) → IsFromZero p x → IsNonNegative (at (map x (nodes_of p readings)))
    values_from_zero x low i = elim (cases_lt i (length (nodes_of p readings))) [
      | inl inside ↦ (
          let n : Node = get_or (nodes_of p readings) i (nodes.Event 0) in
          let here : IsNodeAt p readings i n = slice_get-get_or (nodes_of p readings) i (nodes.Event 0) inside in
          subst (λ (v : ℤ). pos 0 ≤ℤ v) (sym (time_at p readings x (map x (nodes_of p readings)) refl i n here)) (low n (node_at l p readings g stands i n here)))
      | inr past ↦ (
          let same : length (map x (nodes_of p readings)) ≡ length (nodes_of p readings) = length-map (nodes_of p readings) x in
          let none : at (map x (nodes_of p readings)) i ≡ pos 0 = get_or_past (map x (nodes_of p readings)) i (pos 0) (omega (arith, past, same)) in
          omega (arith, ints, none))
    ]

    pub earliest_of : (values : List ℤ) (x : Times) → IsEarliestOf g values → map (at values) (listed_nodes l) ≡ map x (nodes_of p readings) → IsEarliestExecution p x
    earliest_of values x e is_of = record {
      execution = execution_by_node x (at values) (time_by l p readings g stands (at values) x is_of) (obeys_all (length g.nodes) (table_of g) (arcs_of g) values (arcs_listed g is) e.execution);
      from_zero = λ n inside.
          let by = number_of l p readings g stands n inside in
          subst (λ (v : ℤ). pos 0 ≤ℤ v) (sym (time_by l p readings g stands (at values) x is_of by.0 n by.1)) (e.non_negative by.0);
      least = λ y execution low n inside.
          let by = number_of l p readings g stands n inside in
          let here : x n ≡ at values by.0 = time_by l p readings g stands (at values) x is_of by.0 n by.1 in
          let there : y n ≡ time_of_number l p readings g stands y by.0 = time_of_number_is l p readings g stands y by.0 n by.1 in
          let below : at values by.0 ≤ℤ time_of_number l p readings g stands y by.0 =
          earliest_below (length g.nodes) (table_of g) (arcs_of g) values (arcs_listed g is) (arcs_within g is) e (time_of_number l p readings g stands y)
          (execution_by_number y (time_of_number l p readings g stands y) (time_of_number_is l p readings g stands y) execution)
          (λ k. values_from_zero y low _) by.0 in
          omega (arith, ints, here, there, below);
    }
