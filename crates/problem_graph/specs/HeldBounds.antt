-- Bounds among which those of the short list stand.
use Rattle.std.specs.Prelude.{List, All, Contains}
use Rattle.problem_model.specs.declared.items.Bound.{Bound}
use Rattle.problem_model.specs.Problem.{ProblemLists}
use Rattle.problem_model.specs.Nodes.{Reading, AreReadings}
use Rattle.problem_model.specs.ShortList.{short_list}
use Rattle.sync_graph.specs.Graph.{GraphLists}
use Rattle.problem_graph.specs.Standing.{HasBounds}

-- each bound of the short list is one of them
abbrev pub HasShortList : ProblemLists → List Reading → List Bound → Type 0
HasShortList p readings bounds = All (Contains bounds) (short_list p readings)

-- the nodes are those of the problem, and the arcs, all in force, are bounds of it, those of the short list among them, in any order
abbrev pub HoldsShortList : ProblemLists → GraphLists → Type 0
HoldsShortList p g = (readings : List Reading) → AreReadings p readings → (bounds : List Bound) × HasShortList p readings bounds × HasBounds p readings bounds g
