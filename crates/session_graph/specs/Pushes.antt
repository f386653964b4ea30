-- Bounds that are pushed one after another.
use Rattle.std.specs.Prelude.{◌≡◌, ℕ, ◌+◌, ◌++◌, List, [], ◌∷◌, length}
use Rattle.problem_model.specs.declared.items.Bound.{Bound}
use Rattle.sync_graph.specs.declared.arc.Arc.{Arc}
use Rattle.sync_graph.specs.Graph.{GraphLists, arc_at, with_arc}
use Rattle.solver.specs.Solver.{SolverLists, HasRoom}
use Rattle.solver.specs.Current.{IsCurrent}
use Rattle.roster.specs.Once.{IsOn, HasEachOnce}
use Rattle.session_graph.specs.Kept.{KeepsRows}
use Rattle.session_graph.specs.Extensions.{Extends}

-- the graph with these arcs behind all others, in force
abbrev pub with_arcs : GraphLists → List Arc → GraphLists
with_arcs g [] = g
with_arcs g (a ∷ arcs) = with_arcs (with_arc g a) arcs

-- arcs of these names are in force behind all others, which stay as they were, as do nodes, slots and rows
pub record Brings (bounds : List Bound) (old new : SolverLists) : Type 0 where
  pub current : IsCurrent new
  pub nodes : new.graph.nodes ≡ old.graph.nodes
  pub count : length new.graph.arcs ≡ length old.graph.arcs + length bounds
  pub stay : (k : ℕ) → IsOn old.graph k → IsOn new.graph k × (arc_at new.graph.arcs k ≡ arc_at old.graph.arcs k)
  pub once : (rest : List Bound) → HasEachOnce (bounds ++ rest) old.graph → HasEachOnce rest new.graph
  pub rows : KeepsRows old new
  pub extends : Extends old new
  pub room : (n : ℕ) → HasRoom n old → HasRoom n new
