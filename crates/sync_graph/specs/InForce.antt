-- The arcs in force of a graph, and its earliest execution.
use Rattle.std.specs.Prelude.{◌≡◌, ℕ, true, false, ℤ, List, length, slice_index_or}
use Rattle.problem_model.specs.Executions as bounds
use Rattle.problem_model.specs.Earliest.{IsEarliest}
use Rattle.problem_model.specs.Tables.{arcs_among}
use Rattle.sync_graph.specs.declared.arc.Arc.{Arc}
use Rattle.sync_graph.specs.Graph.{GraphLists, arc_at, table_of}

-- the arc, with its name, is one of those in force
abbrev pub IsInForce : GraphLists → Arc → Type 0
IsInForce g a = (j : ℕ) × (slice_index_or g.in_force j false ≡ true) × (arc_at g.arcs j ≡ a)

-- the arcs in force, without their names
abbrev pub arcs_of : GraphLists → List bounds.Arc
arcs_of g = arcs_among (table_of g) (length g.arcs)

-- the values are the earliest execution of the arcs in force
abbrev pub IsEarliestOf : GraphLists → List ℤ → Type 0
IsEarliestOf g values = IsEarliest (length g.nodes) (arcs_of g) values
