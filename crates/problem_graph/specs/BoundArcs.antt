-- The arcs that one thing of a problem brings, whatever the numbers of its nodes.
use Rattle.std.specs.Prelude.{◌≡◌, ℕ, List, [], ◌∷◌, length, map, slice_get, Some, All}
use Rattle.problem_model.specs.declared.items.Node.{Node}
use Rattle.problem_model.specs.declared.items.Bound.{Bound}
use Rattle.problem_model.specs.Problem.{ProblemLists}
use Rattle.problem_model.specs.Bounds.{Constraint, Declares}
use Rattle.sync_graph.specs.declared.arc.Arc.{Arc}
use Rattle.sync_graph.specs.Graph.{IsSound}
use Rattle.sync_graph.specs.Names.{IsNamed}
use Rattle.problem_graph.specs.declared.arcs.Arcs.{Arcs}
use Rattle.problem_graph.specs.declared.arcs.Arcs.TheVariants.{Nothing, One, Two}

-- the arcs as a list
abbrev pub arcs_in : Arcs → List Arc
arcs_in Nothing = []
arcs_in (One a) = a ∷ []
arcs_in (Two a b) = a ∷ b ∷ []

-- the names of arcs
abbrev pub names_of : List Arc → List Bound
names_of arcs = map (λ (a : Arc). a.name) arcs

-- a graph with these nodes may have the arc
pub record FitsNodes (all : List Node) (a : Arc) : Type 0 where
  pub sound : IsSound (length all) a
  pub named : IsNamed all a

-- the arc is the bound of its name: it joins the same nodes, by their numbers among these, and weighs the same
abbrev pub IsBoundAmong : ProblemLists → List Node → Arc → Type 0
IsBoundAmong p all a = (c : Constraint) × Declares p a.name c × (slice_get all a.from ≡ Some c.from) × (slice_get all a.to ≡ Some c.to) × (a.weight ≡ c.weight)

-- both nodes have these numbers
abbrev pub HaveNumbers : ℕ → Node → ℕ → Node → List Node → Type 0
HaveNumbers j m k n all = (slice_get all j ≡ Some m) × (slice_get all k ≡ Some n)

-- the arcs have these names; where their nodes have their numbers a graph may have them, and they are bounds of each
-- problem that has the thing
pub record AreArcsOf (bounds : List Bound) (AreNumbered : List Node → Type 0) (Has : ProblemLists → Type 0) (arcs : List Arc) : Type 0 where
  pub named : names_of arcs ≡ bounds
  pub fit : (all : List Node) → AreNumbered all → All (FitsNodes all) arcs
  pub declared : (p : ProblemLists) (all : List Node) → AreNumbered all → Has p → All (IsBoundAmong p all) arcs
