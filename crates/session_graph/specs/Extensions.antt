-- A graph that only grows, and the steps that it takes.
use Rattle.std.specs.Prelude.{◌≡◌, ℕ, ◌+◌, ◌≤◌, Bool, if◌then◌else◌, nat_lt, List, [], ◌∷◌, ◌++◌, length}
use Rattle.problem_model.specs.declared.items.Node.{Node}
use Rattle.sync_graph.specs.declared.arc.Arc.{Arc}
use Rattle.solver.specs.Solver.{SolverLists}
use Rattle.solver.specs.Current.{IsCurrent}
use Rattle.solver.specs.Costs.{pushing_steps}

-- the later state has more nodes and arcs behind those of the earlier, which are in force or not as they were, and keeps the same nodes
pub record Extends (old new : SolverLists) : Type 0 where
  pub nodes : (more : List Node) × (new.graph.nodes ≡ old.graph.nodes ++ more)
  pub arcs : (more : List Arc) × (new.graph.arcs ≡ old.graph.arcs ++ more)
  pub in_force : (more : List Bool) × (new.graph.in_force ≡ old.graph.in_force ++ more)
  pub slots : new.kept.slots ≡ old.kept.slots
  pub source : new.kept.source ≡ old.kept.source

-- ---- stages
-- one node or one arc has come, and what is held is the answer for the graph with it
pub record IsNextStage (old new : SolverLists) : Type 0 where
  pub extends : Extends old new
  pub one : length new.graph.nodes + length new.graph.arcs ≡ length old.graph.nodes + length old.graph.arcs + 1
  pub current : IsCurrent new

-- by these stages, one after another, the first state becomes the last
abbrev pub LeadTo : SolverLists → List SolverLists → SolverLists → Type 0
LeadTo first [] last = last ≡ first
LeadTo first (next ∷ stages) last = IsNextStage first next × LeadTo next stages last

-- what an arc may take that came to the next stage; a node takes nothing
abbrev pub stage_steps : SolverLists → SolverLists → ℕ
stage_steps old new = if nat_lt (length old.graph.arcs) (length new.graph.arcs) then pushing_steps old new else 0

-- what all arcs may take that came by these stages
abbrev pub steps_of_stages : SolverLists → List SolverLists → ℕ
steps_of_stages first [] = 0
steps_of_stages first (next ∷ stages) = stage_steps first next + steps_of_stages next stages

-- stages lead from the one state to the other, and it took no more steps than their arcs may take
pub record TakesFewToPush (old new : SolverLists) (first last : ℕ) : Type 0 where
  pub stages : List SolverLists
  pub lead : LeadTo old stages new
  pub few : last ≤ first + steps_of_stages old stages
