-- The problem of what a roster holds, with its events by number.
use Rattle.std.specs.Prelude.{◌≡◌, ℕ, List, map, slice_get, Some, Contains}
use Rattle.problem_model.specs.declared.items.Event.{Event}
use Rattle.problem_model.specs.declared.items.Message.{Message}
use Rattle.problem_model.specs.declared.items.Node.TheVariants as nodes
use Rattle.problem_model.specs.Problem.{ProblemLists}
use Rattle.decl.specs.Declaration.{Declaration, follows_of}
use Rattle.sync_graph.specs.Graph.{GraphLists}
use Rattle.traces.specs.Traces.{name_of, clock_of}
use Rattle.traces.specs.Messages.{bounds_of}
use Rattle.roster.specs.declared.came.Came.{Came}
use Rattle.roster.specs.Groups.{group_at}
use Rattle.roster.specs.Readings.{Stamped}
use Rattle.roster.specs.Roster.{RosterLists, id_of}

-- an event with its name and its own bounds, on the clock of its label
abbrev pub named_event : Declaration → Came → Event
named_event d e = record { name = name_of d (id_of e); clock = clock_of d (id_of e); stamp = e.stamp; bounds = bounds_of d (id_of e) }

-- the problem of the declaration, with the events as they came and these messages, whose ends are numbers
abbrev pub problem_by_number : RosterLists → List Message → ProblemLists
problem_by_number r messages = record { clocks = r.declaration.clocks; follows = follows_of r.declaration; events = map (named_event r.declaration) r.came; messages = messages }

-- each event and each reading is the node of the graph that the roster has of it
pub record KnowsNodes (r : RosterLists) (g : GraphLists) : Type 0 where
  pub events : (v : ℕ) (e : Came) → slice_get r.came v ≡ Some e → slice_get g.nodes e.node ≡ Some (nodes.Event v)
  pub readings : (clock : ℕ) (s : Stamped) → Contains (group_at r.readings clock) s → slice_get g.nodes s.1 ≡ Some (nodes.Reading clock s.0)
