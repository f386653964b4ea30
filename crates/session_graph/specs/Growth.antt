-- A roster to which events of a label come.
use Rattle.std.specs.Prelude.{◌≡◌, ◌+◌, ℕ, List, ◌++◌, length, map, slice_get, slice_set, Some, Contains}
use Rattle.problem_model.specs.declared.items.Node.TheVariants as nodes
use Rattle.sync_graph.specs.Graph.{GraphLists}
use Rattle.problem_graph.specs.Standing.{HasNode}
use Rattle.traces.specs.Seen.{Seen}
use Rattle.traces.specs.declared.event_id.EventId.{EventId}
use Rattle.roster.specs.declared.came.Came.{Came}
use Rattle.roster.specs.Groups.{group_at}
use Rattle.roster.specs.Readings.{Stamped}
use Rattle.roster.specs.Roster.{RosterLists, HoldsEvents, IsNumberUnder}
use Rattle.session_graph.specs.Kept.{KeepsEvents, KeepsReadings}

-- the roster has events of a label with these stamps more, and knows all others as before
pub record Gains (label : ℕ) (stamps : List ℕ) (old new : RosterLists) : Type 0 where
  pub declaration : new.declaration ≡ old.declaration
  pub count : length new.came ≡ length old.came + length stamps
  pub events : KeepsEvents old new
  pub readings : KeepsReadings old new
  pub under : (id : EventId) (v : ℕ) → IsNumberUnder old.under id v → IsNumberUnder new.under id v
  pub holds : (seen : List (List Seen)) (own more : List Seen) → HoldsEvents old seen → slice_get seen label ≡ Some own → map (λ (s : Seen). s.stamp) more ≡ stamps
      → HoldsEvents new (slice_set seen label (own ++ more))

-- the roster has the same events, and may tell other messages
pub record Retells (old new : RosterLists) : Type 0 where
  pub declaration : new.declaration ≡ old.declaration
  pub count : length new.came ≡ length old.came
  pub events : KeepsEvents old new
  pub readings : KeepsReadings old new
  pub under : new.under ≡ old.under
  pub holds : (seen : List (List Seen)) → HoldsEvents old seen → HoldsEvents new seen

-- the roster has the same events, knows those that are nodes of the graph and readings that are as before, and may tell other messages
pub record KeepsNodesThere (g : GraphLists) (old new : RosterLists) : Type 0 where
  pub declaration : new.declaration ≡ old.declaration
  pub count : length new.came ≡ length old.came
  pub under : new.under ≡ old.under
  pub events : (v : ℕ) (e : Came) → slice_get old.came v ≡ Some e → HasNode g (nodes.Event v)
      → (f : Came) × (slice_get new.came v ≡ Some f) × (f.stamp ≡ e.stamp) × (f.label ≡ e.label) × (f.number ≡ e.number) × (f.node ≡ e.node)
  pub readings : (clock : ℕ) (s : Stamped) → Contains (group_at old.readings clock) s → HasNode g (nodes.Reading clock s.0) → Contains (group_at new.readings clock) s
  pub holds : (seen : List (List Seen)) → HoldsEvents old seen → HoldsEvents new seen
