-- What is held of a graph that stands for a listed problem, of the problem.
use Rattle.std.proofs.Common.{◌≡◌, ◌<◌, ℕ, suc, List, [], ◌∷◌, length, map, refl, sym, ◌∙◌, ap, subst, arith}
use Rattle.std.specs.Prelude.{ℤ, pos, ◌+ℤ◌, ◌<ℤ◌, All}
use Rattle.std.proofs.lemmas.Int.{ints}
use Rattle.std.proofs.lemmas.List.Elements.{All-head, All-tail}
use Rattle.problem_model.specs.declared.items.Node.{Node}
use Rattle.problem_model.specs.Problem.{ProblemLists}
use Rattle.problem_model.specs.Bounds.{Times}
use Rattle.problem_model.specs.Nodes.{Reading, AreReadings, nodes_of}
use Rattle.problem_model.specs.Executions.{at}
use Rattle.problem_model.specs.Paths.{Joins, sum_of}
use Rattle.problem_model.specs.Solutions.{IsEarliestExecution, Leads, weight_of, IsContradictionOf}
use Rattle.problem_model.proofs.Solutions.{no_execution}
use Rattle.problem.specs.Listing.{Listed, listed_nodes}
use Rattle.cert.specs.declared.chain.Step.{Step}
use Rattle.cert.specs.declared.certificate.Cert.TheVariants.{Cycle, Run}
use Rattle.cert.specs.Listed.{HasNames, listed_cycle, listed_run}
use Rattle.cert.specs.Shows.{weighed_bounds}
use Rattle.cert.specs.CertificateText.{certificate_text}
use Rattle.attain.specs.ListedProblem.{AreCarried}
use Rattle.attain.proofs.ListedProblems.{cycle_carried, run_listed}
use Rattle.attain.proofs.NamedBounds.{named}
use Rattle.sync_graph.specs.declared.arc.Arc.{Arc}
use Rattle.sync_graph.specs.Graph.{GraphLists, unnamed}
use Rattle.sync_graph.specs.InForce.{IsInForce}
use Rattle.problem_graph.specs.ListedStanding.{IsNodeBy, StandsForListed}
use Rattle.problem_graph.proofs.NodeNumbers.{node_count, one_node, times_by}
use Rattle.problem_graph.proofs.ListedExecutions.{earliest_of}
use Rattle.solver.specs.Solver.{SolverLists}
use Rattle.solver.specs.Current.{IsSolvedNow, IsContradicted}
use Rattle.solver.proofs.Staying.{solved_now, contradicted_now}
use Rattle.queries.specs.Contradiction.{weighed_steps, HasContradictionBy}
use Rattle.solver.specs.Solution.{IsSolutionBy}

-- ---- arcs in force as bounds of the problem
module _ (l : Listed) (p : ProblemLists) (readings : List Reading) (g : GraphLists) (stands : StandsForListed l p readings g) where
  -- the steps, with events by their places
  carried_steps : (arcs : List Arc) → All (IsInForce g) arcs → List Step
  carried_steps [] each = []
  carried_steps (a ∷ arcs) each = record { bound = (stands.each a (All-head (IsInForce g) a arcs each)).0; weight = a.weight } ∷ carried_steps arcs (All-tail (IsInForce g) a arcs each)

  as_many : (arcs : List Arc) (each : All (IsInForce g) arcs) → length (carried_steps arcs each) ≡ length arcs
  unfolding carried_steps
  as_many [] each = refl
  as_many (a ∷ arcs) each = ap (λ (n : ℕ). suc n) (as_many arcs (All-tail (IsInForce g) a arcs each))

  are_carried : (arcs : List Arc) (each : All (IsInForce g) arcs) → AreCarried l (weighed_steps arcs) (carried_steps arcs each)
  unfolding carried_steps
  are_carried [] each = tt
  are_carried (a ∷ arcs) each = ((stands.each a (All-head (IsInForce g) a arcs each)).1.named, refl, are_carried arcs (All-tail (IsInForce g) a arcs each))

  same_weight : (arcs : List Arc) (each : All (IsInForce g) arcs) → sum_of (map unnamed arcs) ≡ weight_of (weighed_bounds (carried_steps arcs each))
  unfolding carried_steps
  same_weight [] each = refl
  same_weight (a ∷ arcs) each = ap (λ (w : ℤ). a.weight +ℤ w) (same_weight arcs (All-tail (IsInForce g) a arcs each))

  they_lead : (arcs : List Arc) (each : All (IsInForce g) arcs) (j k : ℕ) (m n : Node) → Joins j (map unnamed arcs) k → IsNodeBy l p readings j m → IsNodeBy l p readings k n
      → Leads p m (weighed_bounds (carried_steps arcs each)) n
  unfolding carried_steps
  they_lead [] each j k m n joins by by' = one_node l p readings g stands k m n (subst (λ (i : ℕ). IsNodeBy l p readings i m) joins by) by'
  they_lead (a ∷ arcs) each j k m n joins by by' =
      let bound = (stands.each a (All-head (IsInForce g) a arcs each)).1 in (
        bound.constraint,
        bound.declares,
        sym bound.weighs,
        one_node l p readings g stands a.from bound.constraint.from m bound.tail (subst (λ (i : ℕ). IsNodeBy l p readings i m) (sym joins.0) by),
        they_lead arcs (All-tail (IsInForce g) a arcs each) a.to k bound.constraint.to n joins.1 bound.head by',
      )

  -- a negative sum has a first step, which begins at a node
  begins_at : (arcs : List Arc) (each : All (IsInForce g) arcs) (j k : ℕ) → Joins j (map unnamed arcs) k → sum_of (map unnamed arcs) <ℤ pos 0 → (n : Node) × IsNodeBy l p readings j n
  begins_at [] each j k joins negative = absurd (let none : pos 0 <ℤ pos 0 = negative in omega (arith, ints, none))
  begins_at (a ∷ arcs) each j k joins negative =
      let bound = (stands.each a (All-head (IsInForce g) a arcs each)).1 in
      (bound.constraint.from, subst (λ (i : ℕ). IsNodeBy l p readings i bound.constraint.from) joins.0 bound.tail)

-- ---- the answers
module _ (l : Listed) (p : ProblemLists) (readings : List Reading) (are : AreReadings p readings) (s : SolverLists) (is : IsSolutionBy l p s) where
  stands : StandsForListed l p readings s.graph
  stands = is.stands readings are

  pub one_each : All (λ (k : ℕ). k < length s.earliest.values) (listed_nodes l)
  one_each = subst (λ (n : ℕ). All (λ (k : ℕ). k < n) (listed_nodes l)) (sym is.current.set_up.one_each) stands.nodes

  module _ (none : s.contradiction ≡ []) where
    now : IsSolvedNow s
    now = solved_now s is.current none

    pub each_earliest : (x : Times) → map (at s.earliest.values) (listed_nodes l) ≡ map x (nodes_of p readings) → IsEarliestExecution p x
    each_earliest x same = earliest_of l p readings s.graph stands is.current.set_up.graph s.earliest.values x now.earliest same

    pub earliest_there : (x : Times) × (map (at s.earliest.values) (listed_nodes l) ≡ map x (nodes_of p readings)) × IsEarliestExecution p x
    earliest_there = let some = times_by l p readings s.graph stands (at s.earliest.values) in (some.0, some.1, each_earliest some.0 some.1)

    pub run_written : (x : Times) × IsEarliestExecution p x × (listed_run l (at s.earliest.values) ≡ certificate_text p (nodes_of p readings) (Run (map x (nodes_of p readings))))
    run_written = (
      earliest_there.0,
      earliest_there.2,
      run_listed l p readings stands.listed (at s.earliest.values) ∙ ap (λ (xs : List ℤ). certificate_text p (nodes_of p readings) (Run xs)) earliest_there.1,
    )

  pub cycle_written : (has : HasContradictionBy l p s.contradiction) → listed_cycle l (weighed_steps s.contradiction) ≡ certificate_text p (nodes_of p readings) (Cycle has.steps)
  cycle_written has = cycle_carried l p readings stands.listed (weighed_steps s.contradiction) has.steps has.carried

  module _ (some : s.contradiction ≡ [] → ⊥) where
    held : IsContradicted s
    held = contradicted_now s is.current some

    abbrev each : All (IsInForce s.graph) s.contradiction
    each = held.cycle.in_force

    abbrev steps : List Step
    steps = carried_steps l p readings s.graph stands s.contradiction each

    steps_contradict : IsContradictionOf p (weighed_bounds steps)
    steps_contradict =
        let closed = held.cycle.contradiction.closed in
        let negative : sum_of (map unnamed s.contradiction) <ℤ pos 0 = held.cycle.contradiction.negative in
        let start = begins_at l p readings s.graph stands s.contradiction each closed.0 closed.0 closed.1.joined negative in
        record {
          closed = (start.0, they_lead l p readings s.graph stands s.contradiction each closed.0 closed.0 start.0 start.0 closed.1.joined start.1 start.1);
          negative = subst (λ (w : ℤ). w <ℤ pos 0) (same_weight l p readings s.graph stands s.contradiction each) negative;
        }

    pub contradicts : HasContradictionBy l p s.contradiction
    contradicts = record {
      named = λ k d inside. (
          let force = each k d inside in
          subst (λ (a : Arc). HasNames l a.name) force.2 (named l p readings s.graph stands force.0 force.1));
      steps = steps;
      carried = are_carried l p readings s.graph stands s.contradiction each;
      contradiction = steps_contradict;
      short = λ others are'.
          let count : length s.graph.nodes ≡ length (nodes_of p others) = node_count l p others s.graph (is.stands others are') in
          let many : length steps ≡ length s.contradiction = as_many l p readings s.graph stands s.contradiction each in
          omega (arith, held.cycle.short, count, many);
      no_execution = λ x. no_execution p (weighed_bounds steps) x steps_contradict;
    }
