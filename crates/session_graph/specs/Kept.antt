-- A graph that is kept for what was accepted.
use Rattle.std.specs.Prelude.{◌≡◌, ℕ, ◌*◌, ◌≤◌, suc, List, [], length, slice_get, Some, Contains}
use Rattle.problem_model.specs.declared.items.Message.{Message}
use Rattle.problem_model.specs.declared.items.Bound.TheVariants.{DelayMost, DelayLeast}
use Rattle.sync_graph.specs.Graph.{GraphLists, arc_at}
use Rattle.row_pool.specs.Pool.{free_rows}
use Rattle.solver.specs.Solver.{SolverLists}
use Rattle.solver.specs.Solution.{IsSolutionBy}
use Rattle.traces.specs.Seen.{Seen}
use Rattle.traces.specs.Messages.{problem_of_seen}
use Rattle.traces.specs.Making.{StampsFit}
use Rattle.roster.specs.declared.came.Came.{Came}
use Rattle.roster.specs.declared.came.Partner.{Partner}
use Rattle.roster.specs.Groups.{group_at}
use Rattle.roster.specs.Readings.{Stamped}
use Rattle.roster.specs.Roster.{RosterLists, HoldsEvents, listed}
use Rattle.roster.specs.Entered.{all_events}
use Rattle.roster.specs.Growing.{IsGrownTo}
use Rattle.roster.specs.Withdrawing.{HasMessage}
use Rattle.roster.specs.Once.{IsOn, HasEachOnce}
use Rattle.roster.specs.Rosters.{problem_by_number, KnowsNodes}
pub use Rattle.roster.specs.Told.{number_of, numbered_message, messages_by_number}

-- ---- messages
-- the arc of this number is in force and is the message's least delay, and the one before it is its greatest delay, where there is one
pub record HasArcs (g : GraphLists) (m : Message) (arc : ℕ) : Type 0 where
  pub on : IsOn g arc
  pub least : (arc_at g.arcs arc).name ≡ DelayLeast m.send m.receive
  pub most : (w : ℕ) → m.most ≡ Some w → (k : ℕ) × (arc ≡ suc k) × IsOn g k × ((arc_at g.arcs k).name ≡ DelayMost m.send m.receive)

-- the roster tells of the message at its send, with the number of its arc
abbrev pub TellsArc : RosterLists → GraphLists → Message → Type 0
TellsArc r g m = (e : Came) × (arc : ℕ) × (slice_get r.came m.send ≡ Some e) × (e.partner ≡ Some (record { event = m.receive; arc = arc })) × HasArcs g m arc

-- the roster tells of each of these messages, and of no others
pub record KnowsMessages (r : RosterLists) (messages : List Message) (g : GraphLists) : Type 0 where
  pub each : (m : Message) → Contains messages m → TellsArc r g m
  pub only : (v : ℕ) (e : Came) (p : Partner) → slice_get r.came v ≡ Some e → e.partner ≡ Some p → HasMessage messages v p.event

-- ---- what is kept
-- the graph has grown to all events of the roster and these messages among them, each bound once, and the roster knows its
-- nodes and the arcs of messages
pub record IsGrownBy (r : RosterLists) (messages : List Message) (g : GraphLists) : Type 0 where
  pub grown : IsGrownTo (problem_by_number r messages) all_events g
  pub once : HasEachOnce [] g
  pub knows : KnowsNodes r g
  pub tells : KnowsMessages r messages g

-- the roster holds these events of each label, the graph has grown to all of them and their messages, and what is held
-- of it is the answer of their problem; arcs are at most eight an event, withdrawn ones too
pub record IsKeptFor (seen : List (List Seen)) (r : RosterLists) (s : SolverLists) : Type 0 where
  pub holds : HoldsEvents r seen
  pub stamps : StampsFit seen
  pub solution : IsSolutionBy (listed r) (problem_of_seen r.declaration seen) s
  pub grown : IsGrownBy r (messages_by_number r seen) s.graph
  pub few : length s.graph.arcs ≤ 8 * length r.came

-- ---- what an addition leaves
-- each event has its number, its stamp, its name and its node still
abbrev pub KeepsEvents : RosterLists → RosterLists → Type 0
KeepsEvents old new = (v : ℕ) (e : Came) → slice_get old.came v ≡ Some e
    → (f : Came) × (slice_get new.came v ≡ Some f) × (f.stamp ≡ e.stamp) × (f.label ≡ e.label) × (f.number ≡ e.number) × (f.node ≡ e.node)

-- each reading has its node still
abbrev pub KeepsReadings : RosterLists → RosterLists → Type 0
KeepsReadings old new = (clock : ℕ) (s : Stamped) → Contains (group_at old.readings clock) s → Contains (group_at new.readings clock) s

-- the same nodes are kept, and as many rows are there and free
pub record KeepsRows (old new : SolverLists) : Type 0 where
  pub slots : new.kept.slots ≡ old.kept.slots
  pub source : new.kept.source ≡ old.kept.source
  pub count : length new.pool.rows ≡ length old.pool.rows
  pub free : free_rows new.pool ≡ free_rows old.pool
