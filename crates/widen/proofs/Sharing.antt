-- A contradiction of a problem that is widened in one way, weighed where it is widened in another.
use Rattle.std.proofs.Common.{◌≡◌, ◌<◌, ◌≤◌, ◌-◌, ◌^◌, ℕ, List, length, map, Option, Some, None, sym, subst, arith}
use Rattle.std.specs.Prelude.{pos, ◌<ℤ◌, All, IfSome, unsigned_abs}
use Rattle.problem_model.specs.Problem.{ProblemLists, IsProblem}
use Rattle.problem_model.specs.Nodes.{Reading, AreReadings}
use Rattle.problem_model.specs.Solutions.{weight_of}
use Rattle.problem_model.specs.Limits.{most_nodes}
use Rattle.sync_graph.specs.declared.arc.Arc.{Arc}
use Rattle.cert.specs.declared.chain.Step.{Step}
use Rattle.cert_check.specs.declared.what.What.{What}
use Rattle.cert_check.specs.Widened.{widened}
use Rattle.widen.specs.declared.tried.Tried.{Tried}
use Rattle.widen.specs.Weighed.{IsNameOf, IsWeighed, unweighed, weighed_arcs, arc_of}
use Rattle.widen.specs.Found.{IsCycleFor, IsFoundBelow}
use Rattle.widen.specs.Search.{IsTried, IsCycleOf}
use Rattle.widen.proofs.Lasting.{cycle_as_arcs, names, few_arcs, same_long, later_cycle}

module _ (p : ProblemLists) (lawful : IsProblem p) (cycle : List Step) (shared : IsCycleOf p cycle) (arcs : List Arc) (is : arcs ≡ map arc_of cycle) where
  found : IsCycleFor shared.0 p shared.1 arcs
  found = subst (IsCycleFor shared.0 p shared.1) (sym is) (cycle_as_arcs shared.0 p shared.1 cycle shared.2)

  pub names_shared : All (IsNameOf p) arcs
  names_shared = names shared.0 p shared.1 arcs lawful found

  pub few_shared : (readings : List Reading) → AreReadings p readings → (others : List Arc) → map unweighed others ≡ map unweighed arcs → length others ≤ most_nodes
  few_shared readings are others same =
      let few = few_arcs shared.0 p shared.1 arcs lawful found readings are in
      let long = same_long arcs others same in
      omega (arith, few, long)

  -- with the weights that it has where the problem is widened in the other way
  pub shared_there : (what : What) (e : ℕ) (others : List Arc) → map unweighed others ≡ map unweighed arcs → All (IsWeighed (widened what p e)) others → All (λ a. unsigned_abs a.weight < 2 ^ 93) others
      → weight_of (weighed_arcs others) <ℤ pos 0 → IsCycleFor what p e others
  shared_there what e others same weighed small negative = later_cycle shared.0 p shared.1 arcs lawful found what e others same weighed small negative

-- what trying a cycle shows, where it shows something
pub tried_shown : (what : What) (p : ProblemLists) (e : ℕ) (shown : Option Tried) (tried : Tried) → shown ≡ Some tried → IfSome shown (IsTried what p e) → IsTried what p e tried
tried_shown what p e shown tried is shows = subst (λ (o : Option Tried). IfSome o (IsTried what p e)) is shows

-- the cycle below a least widening is one of the problem
pub cycle_below : (what : What) (p : ProblemLists) (extra : ℕ) (cycle : Option (List Step)) → IsFoundBelow what p extra cycle → IfSome cycle (IsCycleOf p)
cycle_below what p extra None below = tt
cycle_below what p extra (Some cycle) below = (what, extra - 1, below.1)
