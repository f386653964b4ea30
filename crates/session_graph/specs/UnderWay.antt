-- A graph and its roster while events come.
use Rattle.std.specs.Prelude.{◌≡◌, ◌*◌, ◌≤◌, ℕ, Bool, true, List, [], length, slice_get, Some, Contains}
use Rattle.problem_model.specs.declared.items.Message.{Message}
use Rattle.problem_model.specs.declared.items.Node.TheVariants as nodes
use Rattle.sync_graph.specs.Graph.{GraphLists}
use Rattle.problem_graph.specs.Standing.{HasNode}
use Rattle.solver.specs.Solver.{SolverLists}
use Rattle.solver.specs.Current.{IsCurrent}
use Rattle.roster.specs.declared.came.Came.{Came}
use Rattle.roster.specs.Groups.{group_at}
use Rattle.roster.specs.Readings.{Stamped}
use Rattle.roster.specs.Roster.{RosterLists}
use Rattle.roster.specs.Growing.{IsGrownTo}
use Rattle.roster.specs.Once.{HasEachOnce}
use Rattle.roster.specs.Rosters.{problem_by_number}
use Rattle.session_graph.specs.Kept.{KnowsMessages, IsGrownBy}

-- the graph has grown to all events of the roster and these messages among them, and what is held of it is current; nodes are at
-- most two an event
pub record IsChangeUnderWay (messages : List Message) (r : RosterLists) (s : SolverLists) : Type 0 where
  pub current : IsCurrent s
  pub grown : IsGrownBy r messages s.graph
  pub nodes : length s.graph.nodes ≤ 2 * length r.came

-- each event and each reading of the roster that is a node of the graph is the node that the roster has of it
pub record KnowsNodesThere (r : RosterLists) (g : GraphLists) : Type 0 where
  pub events : (v : ℕ) (e : Came) → slice_get r.came v ≡ Some e → HasNode g (nodes.Event v) → slice_get g.nodes e.node ≡ Some (nodes.Event v)
  pub readings : (clock : ℕ) (s : Stamped) → Contains (group_at r.readings clock) s → HasNode g (nodes.Reading clock s.0) → slice_get g.nodes s.1 ≡ Some (nodes.Reading clock s.0)

-- the graph has grown to those events of the roster that have entered and these messages among them, each bound once, and what is held
-- of it is current; the roster knows its nodes and the arcs of messages
pub record IsEntering (entered : ℕ → Bool) (messages : List Message) (r : RosterLists) (s : SolverLists) : Type 0 where
  pub current : IsCurrent s
  pub grown : IsGrownTo (problem_by_number r messages) entered s.graph
  pub once : HasEachOnce [] s.graph
  pub knows : KnowsNodesThere r s.graph
  pub tells : KnowsMessages r messages s.graph
  pub among : (m : Message) → Contains messages m → (entered m.send ≡ true) × (entered m.receive ≡ true)
