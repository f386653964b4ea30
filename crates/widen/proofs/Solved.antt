-- What solving a graph that holds the short list of a problem says of the problem.
use Rattle.std.proofs.Common.{◌≡◌, ◌≤◌, ◌*◌, ◌^◌, ℕ, List, [], ◌∷◌, length, map, get_or, refl, sym, ap, subst, arith}
use Rattle.std.specs.Prelude.{◌+◌, ℤ, pos, neg_ℤ, ◌≤ℤ◌, ◌<ℤ◌, All}
use Rattle.std.proofs.lemmas.Int.{ints}
use Rattle.std.proofs.lemmas.List.{get_or_default}
use Rattle.std.proofs.lemmas.List.Elements.{All-map, All-weaker, Contains-get_or}
use Rattle.problem_model.specs.Problem.{ProblemLists, IsWellFormed}
use Rattle.problem_model.specs.Nodes.{Reading, AreReadings, nodes_of}
use Rattle.problem_model.proofs.OneList.{readings_one}
use Rattle.problem_model.specs.Executions as bounds
use Rattle.problem_model.specs.Executions.{at}
use Rattle.problem_model.specs.Earliest.{IsEarliest}
use Rattle.problem_model.specs.Numbers.{IsUpTo}
use Rattle.problem_model.specs.Paths.{IsContradiction}
use Rattle.problem_model.specs.Solutions.{WeighedBound, IsContradictionOf, NamedArc, IsBoundArc, weighed}
use Rattle.problem_model.specs.Tables.{ArcTable, Lists}
use Rattle.problem_model.specs.Limits.{path_bits}
use Rattle.problem_model.proofs.Heights.{earliest_height, height_low}
use Rattle.problem_model.proofs.Problems.{times}
use Rattle.problem_model.proofs.Solutions.{same_earliest, named_contradiction}
use Rattle.problem_model.proofs.Tables.{lists_listed, obeys_all, execution_of_table}
use Rattle.sync_graph.specs.declared.arc.Arc.{Arc}
use Rattle.sync_graph.specs.Graph.{GraphLists, IsGraph, table_of, unnamed, arc_at}
use Rattle.sync_graph.specs.InForce.{arcs_of, IsEarliestOf, IsInForce}
use Rattle.problem_graph.specs.Standing.{IsArcDeclared}
use Rattle.problem_graph.proofs.Ends.{lists_all}
use Rattle.sync_graph.proofs.InForce.{no_arc, in_force_below, arcs_listed, arcs_within}
use Rattle.earliest.specs.Inserted.{IsNegativeCycle}
use Rattle.attain.specs.Tight.{IsUnder}
use Rattle.attain.proofs.EndLengths.{values_up_to}
use Rattle.widen.specs.Weighed.{weighed_arcs}
use Rattle.problem_graph.specs.HeldBounds.{HoldsShortList}
use Rattle.widen.specs.Found.{AreEarliestOf}
use Rattle.widen.proofs.AnyOrder.{stands_any}

-- ---- the earliest execution
-- two lists of the arcs of one table have the same earliest execution
earliest_listed : (nodes : ℕ) (table : ArcTable) (arcs arcs' : List bounds.Arc) (xs : List ℤ) → Lists table arcs → Lists table arcs' → IsEarliest nodes arcs xs → IsEarliest nodes arcs' xs
earliest_listed nodes table arcs arcs' xs l l' e = record {
  execution = execution_of_table nodes table arcs' xs l' e.execution.one_each (obeys_all nodes table arcs xs l e.execution);
  non_negative = e.non_negative;
  least = λ ys execution low k. e.least ys (execution_of_table nodes table arcs ys l execution.one_each (obeys_all nodes table arcs' ys l' execution)) low k;
}

module _ (p : ProblemLists) (g : GraphLists) (formed : IsWellFormed p) (is : IsGraph g) (readings : List Reading) (are : AreReadings p readings) (holds : HoldsShortList p g) where
  pub earliest_of : (values : List ℤ) → IsEarliestOf g values → AreEarliestOf p values
  earliest_of values e =
      let held = holds readings are in
      let has = held.2 in
      let stands = stands_any p readings held.0 g formed held.1 has in
      let listed : IsEarliest (length g.nodes) (map unnamed g.arcs) values =
      earliest_listed (length g.nodes) (table_of g) (arcs_of g) (map unnamed g.arcs) values (lists_listed (table_of g) (length g.arcs) (in_force_below g is)) (lists_all g has.all_in_force) e in
      let own : IsEarliest (length (nodes_of p readings)) (map unnamed g.arcs) values = subst (λ (n : ℕ). IsEarliest n (map unnamed g.arcs) values) (ap length has.nodes_are) listed in
      let found = times p readings (map unnamed g.arcs) are stands values own.execution in
      (found.0, (readings, are, found.1), (same_earliest p readings (map unnamed g.arcs) are stands found.0 values found.1).0 own)

-- values of an earliest execution are small
pub wider : (values : List ℤ) → All (IsUnder (path_bits + 1)) values → All (IsUnder (path_bits + 2)) values
wider values small k d inside =
    let low = (small k d inside).0 in
    let high = (small k d inside).1 in
    (omega (arith, ints, low), omega (arith, ints, high))

module _ (g : GraphLists) (is : IsGraph g) (values : List ℤ) (e : IsEarliestOf g values) where
  not_below : All (λ a. neg_ℤ (pos (2 ^ 93)) ≤ℤ a.weight) (arcs_of g)
  not_below k d inside =
      let r = (arcs_listed g is).only (get_or (arcs_of g) k d) (Contains-get_or (arcs_of g) k d inside) in
      subst (λ (a : bounds.Arc). neg_ℤ (pos (2 ^ 93)) ≤ℤ a.weight) r.2 (low (arc_at g.arcs r.0).weight (is.sound r.0 no_arc (in_force_below g is r.0 r.1)).low)
    where
      low : (w : ℤ) → neg_ℤ (pos (2 ^ 93)) <ℤ w → neg_ℤ (pos (2 ^ 93)) ≤ℤ w
      low w less = omega (arith, ints, less)

  between : (n : ℕ) (z : ℤ) → n ≤ 2 ^ path_bits → pos 0 ≤ℤ z → z ≤ℤ pos n → IsUnder (path_bits + 1) z
  between n z few low high = (omega (arith, ints, few, low, high), omega (arith, ints, few, low, high))

  pub values_under : All (IsUnder (path_bits + 1)) values
  values_under k d inside =
      let here : at values k ≡ get_or values k d = get_or_default values k (pos 0) d inside in
      subst (IsUnder (path_bits + 1)) here
      (between (length g.nodes * 2 ^ 93) (at values k) (height_low (length g.nodes) is.node_limit) (e.non_negative k)
      (earliest_height (length g.nodes) (arcs_of g) values (2 ^ 93) (arcs_within g is) not_below e k (omega (arith, inside, e.execution.one_each))))

  pub values_small : All (IsUpTo (path_bits + 2)) values
  values_small = values_up_to values (wider values values_under)

-- ---- a negative cycle
abbrev named : Arc → NamedArc
named a = (a.name, unnamed a)

unnamed_named : (steps : List Arc) → map (λ (s : NamedArc). s.1) (map named steps) ≡ map unnamed steps
unnamed_named [] = refl
unnamed_named (a ∷ steps) = ap (λ (more : List bounds.Arc). unnamed a ∷ more) (unnamed_named steps)

weighed_named : (steps : List Arc) → map weighed (map named steps) ≡ weighed_arcs steps
weighed_named [] = refl
weighed_named (a ∷ steps) = ap (λ (more : List WeighedBound). weighed (named a) ∷ more) (weighed_named steps)

module _ (p : ProblemLists) (g : GraphLists) (is : IsGraph g) (readings : List Reading) (are : AreReadings p readings) (holds : HoldsShortList p g) where
  pub declared_arc : (a : Arc) → IsInForce g a → IsArcDeclared p readings a
  declared_arc a (j, force, here) = subst (λ (b : Arc). IsArcDeclared p readings b) here ((holds readings are).2.declared j no_arc (in_force_below g is j force))

  pub sound_arc : (a : Arc) → IsInForce g a → (neg_ℤ (pos (2 ^ 93)) <ℤ a.weight) × (a.weight <ℤ pos (2 ^ 93))
  sound_arc a (j, force, here) = let sound = is.sound j no_arc (in_force_below g is j force) in subst (λ (b : Arc). (neg_ℤ (pos (2 ^ 93)) <ℤ b.weight) × (b.weight <ℤ pos (2 ^ 93))) here (sound.low, sound.high)

  module _ (steps : List Arc) (cycle : IsNegativeCycle g steps) where
    pub cycle_contradicts : IsContradictionOf p (weighed_arcs steps)
    cycle_contradicts =
        let each : All (IsBoundArc p readings) (map named steps) = All-map (IsBoundArc p readings) named steps (All-weaker (IsInForce g) (λ a. IsBoundArc p readings (named a)) declared_arc steps cycle.in_force) in
        let closed : IsContradiction (arcs_of g) (map (λ (s : NamedArc). s.1) (map named steps)) = subst (IsContradiction (arcs_of g)) (sym (unnamed_named steps)) cycle.contradiction in
        subst (IsContradictionOf p) (weighed_named steps) (named_contradiction p readings (arcs_of g) (map named steps) each closed)

    pub cycle_short : (rs : List Reading) → AreReadings p rs → length steps ≤ length (nodes_of p rs)
    cycle_short rs are' =
        let long : length g.nodes ≡ length (nodes_of p readings) = ap length (holds readings are).2.nodes_are in
        let one : length (nodes_of p readings) ≡ length (nodes_of p rs) = ap (λ (r : List Reading). length (nodes_of p r)) (readings_one p readings rs are are') in
        omega (arith, cycle.short, long, one)
