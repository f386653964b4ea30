-- What solving a graph answers.
use Rattle.std.specs.Prelude.{◌≡◌, true}
use Rattle.sync_graph.specs.Graph.{GraphLists}
use Rattle.earliest.specs.Inserted.{IsNegativeCycle, HasNoExecution}
use Rattle.earliest.specs.Values.{IsEarliestOf}
use Rattle.problem_solver.specs.declared.solution.GraphSolution.{GraphSolution}
use Rattle.problem_solver.specs.declared.solution.GraphSolution.TheVariants.{Execution, Contradiction}

-- the earliest execution of the arcs in force, or else a negative cycle of them, and so no execution
abbrev pub IsGraphSolution : GraphLists → GraphSolution → Type 0
IsGraphSolution g (Execution e) = (e.is_solved ≡ true) × IsEarliestOf g e.values
IsGraphSolution g (Contradiction steps) = IsNegativeCycle g steps.items × HasNoExecution g
