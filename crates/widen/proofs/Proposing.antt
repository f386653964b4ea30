-- What is known once a proposal was judged.
use Rattle.std.proofs.Common.{◌≡◌, ◌<◌, ◌≤◌, ◌+◌, ◌-◌, ◌^◌, ℕ, List, length, map, Option, Some, None, sym, ap, subst, arith}
use Rattle.std.specs.Prelude.{All, IfSome, unsigned_abs}
use Rattle.std.proofs.lemmas.List.Elements.{All-map, All-weaker}
use Rattle.problem_model.specs.Problem.{ProblemLists}
use Rattle.problem_model.specs.Nodes.{Reading, AreReadings, nodes_of}
use Rattle.problem_model.specs.Solutions.{IsContradictionOf}
use Rattle.problem_model.proofs.OneList.{readings_one}
use Rattle.problem.proofs.ListedNodes.{length-nodes_of}
use Rattle.sync_graph.specs.declared.arc.Arc.{Arc}
use Rattle.attain.specs.Tight.{IsUnder}
use Rattle.cert.specs.declared.chain.Step.{Step}
use Rattle.cert.specs.CertificateText.{IsStepOf}
use Rattle.cert.specs.Shows.{weighed_bounds}
use Rattle.cert_check.specs.declared.what.What.{What}
use Rattle.cert_check.specs.Widened.{widened}
use Rattle.cert_check.proofs.Comparing.{declared_back}
use Rattle.widen.specs.declared.tried.Tried.{Tried}
use Rattle.widen.specs.Least.{HasExecution, IsLeastWidening}
use Rattle.widen.specs.Found.{IsFoundBelow, IsCycleAt}
use Rattle.widen.specs.Weighed.{IsWeighed, step_of}
use Rattle.widen.specs.Search.{IsTried}
use Rattle.widen.proofs.Rising.{none_below}
use Rattle.widen.proofs.Weighing.{abs_under}

-- so many steps as there are events and readings are no more than there are nodes
pub short_by : (p : ProblemLists) (readings others : List Reading) (steps : ℕ) → AreReadings p readings → AreReadings p others → steps ≤ length p.events + length readings → steps ≤ length (nodes_of p others)
short_by p readings others steps are are' few =
    let one : length readings ≡ length others = ap length (readings_one p readings others are are') in
    omega (arith, few, one, length-nodes_of p others)

module _ (what : What) (p : ProblemLists) (e : ℕ) (arcs : List Arc) (cycle : List Step) (is : cycle ≡ map step_of arcs) where
  -- the steps of arcs with the weights of a problem that is widened are bounds of the problem
  pub steps_named : All (IsWeighed (widened what p e)) arcs → All (IsStepOf p) cycle
  steps_named weighed =
      subst (All (IsStepOf p)) (sym is)
      (All-map (IsStepOf p) step_of arcs (All-weaker (IsWeighed (widened what p e)) (λ a. IsStepOf p (step_of a)) (λ a w. declared_back what p e a.name w.0 w.1) arcs weighed))

  -- a cycle that was judged to be a contradiction
  pub cycle_judged : All (λ a. unsigned_abs a.weight < 2 ^ 93) arcs → IsContradictionOf (widened what p e) (weighed_bounds cycle)
      → ((readings : List Reading) → AreReadings p readings → length cycle ≤ length (nodes_of p readings)) → IsCycleAt what p e cycle
  cycle_judged small contradiction short = record {
    contradiction = contradiction;
    short = short;
    small = subst (All (λ s. IsUnder 93 s.weight)) (sym is)
        (All-map (λ (s : Step). IsUnder 93 s.weight) step_of arcs (All-weaker (λ (a : Arc). unsigned_abs a.weight < 2 ^ 93) (λ a. IsUnder 93 a.weight) (λ a. abs_under a.weight) arcs small));
  }

-- what was judged, where it shows something
pub shown_from : (what : What) (p : ProblemLists) (last low : ℕ) (shown : Option Tried) (tried : Tried) → shown ≡ Some tried
    → IfSome shown (λ t. (e : ℕ) → e ≤ last → IsTried what p e t) → low ≤ last → IsTried what p low tried
shown_from what p last low shown tried is shows le = subst (λ (o : Option Tried). IfSome o (λ t. (e : ℕ) → e ≤ last → IsTried what p e t)) is shows low le

-- what heals, and nothing below does, is the least widening
pub least_at : (what : What) (p : ProblemLists) (low : ℕ) (below : Option (List Step)) → low < 2 ^ 62 → IsFoundBelow what p low below → HasExecution what p low → IsLeastWidening what p low
least_at what p low None within found heals = record {
  within = within;
  heals = heals;
  least = λ f less. let none : low ≡ 0 = found in absurd (omega (arith, less, none));
}
least_at what p low (Some cycle) within found heals = record {
  within = within;
  heals = heals;
  least = λ f less. none_below what p cycle f (low - 1) found.1.contradiction (omega (arith, less));
}
