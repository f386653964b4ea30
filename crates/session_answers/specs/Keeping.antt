-- What keeping nodes and asking questions change of a solver.
use Rattle.std.specs.Prelude.{◌≡◌, ◌⊎◌, ℕ, ◌+◌, ◌<◌, List, [], ◌∷◌, ◌++◌, length, map, slice_get, slice_set, Option, Some, None}
use Rattle.row_pool.specs.Pool.{free_rows}
use Rattle.repair.specs.declared.slot.Slot.{Slot}
use Rattle.solver.specs.Solver.{SolverLists}
use Rattle.solver.specs.Changes.{KeepsAnswer}
use Rattle.solver.specs.Current.{IsCurrent}
use Rattle.problem.specs.Listing.{Listed}
use Rattle.roster.specs.Roster.{RosterLists, IsRoster, id_of, listed}
use Rattle.session_graph.specs.Kept.{IsKeptFor}
use Rattle.queries.specs.Asking.{HasKeptRows, IsSourceReading}
use Rattle.traces.specs.Seen.{Seen}
use Rattle.msg_match.specs.Ends.{AreEndsBy}
use Rattle.traces.specs.declared.event_id.EventId.{EventId}
use Rattle.decl.specs.Declaration.{Declaration}
use Rattle.problem_model.specs.Problem.{ProblemLists}
use Rattle.queries.specs.Replies.{HasReading}
use Rattle.traces.specs.Traces.{name_of, clock_by}
use Rattle.replies.specs.declared.refusal.Refusal.TheVariants.{EightAreKept}
use Rattle.replies.specs.declared.outcome.Outcome.{Outcome}
use Rattle.replies.specs.declared.outcome.Outcome.TheVariants.{Added, Kept, Refused}
use Rattle.replies.specs.Reply.{most_kept}
use Rattle.session_answers.specs.declared.answers.Answers.{Answers}
use Rattle.session_answers.specs.Ready.{HasNodeOf, AreSlotsOf, HasSpareRows, answers_problem, declared}

-- what is known of the graph stays, and so many free rows are taken
pub record TakesFree (taken : ℕ) (old new : SolverLists) : Type 0 where
  pub answer : KeepsAnswer old new
  pub current : IsCurrent new
  pub count : length new.pool.rows ≡ length old.pool.rows
  pub free : free_rows new.pool + taken ≡ free_rows old.pool

-- the node has the slot behind those before
abbrev pub HasNextSlot : ℕ → SolverLists → SolverLists → Type 0
HasNextSlot node old new = (slot : Slot) × (slot.node ≡ node) × (new.kept.slots ≡ old.kept.slots ++ slot ∷ []) × (new.kept.source ≡ old.kept.source)

-- a source has a slot, which takes two free rows, or all stays
abbrev pub TakesForSource : SolverLists → SolverLists → Type 0
TakesForSource old new = (((slot : Slot) × (new.kept.source ≡ Some slot)) × TakesFree 2 old new) ⊎ (new ≡ old)

-- a slot for the source may have come: the graph and all other slots stay, and one that it had; where none came all stays, and no step
-- was taken
pub record BringsSource (old new : SolverLists) (first last : ℕ) : Type 0 where
  pub graph : new.graph ≡ old.graph
  pub slots : new.kept.slots ≡ old.kept.slots
  pub source : (slot : Slot) → old.kept.source ≡ Some slot → new.kept.source ≡ Some slot
  pub idle : new.kept.source ≡ old.kept.source → (new ≡ old) × (last ≡ first)

-- what came of keeping one more event, whose node has no slot: it has the next one, or all are taken and all stays
abbrev pub IsKeptNext : EventId → ℕ → List EventId → List EventId → SolverLists → SolverLists → Outcome → Type 0
IsKeptNext event node kept kept' old new (Added added) = ⊥
IsKeptNext event node kept kept' old new (Kept slot) = (length kept < most_kept) × (slot ≡ length kept + 1) × (kept' ≡ kept ++ event ∷ [])
    × HasNextSlot node old new × KeepsAnswer old new × IsCurrent new × HasSpareRows new
IsKeptNext event node kept kept' old new (Refused r) = (r ≡ EightAreKept) × (length kept ≡ most_kept) × (kept' ≡ kept) × (new ≡ old)

-- the event has this name, and the roster this node of it
pub record IsCalled (r : RosterLists) (name : List ℕ) (event : EventId) (node : ℕ) : Type 0 where
  pub known : HasNodeOf r event node
  pub named : name_of r.declaration event ≡ name

-- the node of the event of this name has a slot
abbrev pub HasSlotBy : RosterLists → SolverLists → List ℕ → Type 0
HasSlotBy r s name = (event : EventId) × (node : ℕ) × IsCalled r name event node × HasKeptRows s node

-- ---- more events
-- the events of each label are these with so many more under one of them
pub record BringsEvents (before after : List (List Seen)) (label more : ℕ) : Type 0 where
  pub own : List Seen
  pub events : List Seen
  pub count : length events ≡ more
  pub was : slice_get before label ≡ Some own
  pub is : after ≡ slice_set before label (own ++ events)

-- the clock of the label at a place
abbrev pub clock_at : Declaration → ℕ → ℕ
clock_at d label = clock_by (slice_get d.labels label)

-- the source's slot is that of a reading of its clock with this stamp; where it has none, its clock is this one or has no reading
abbrev pub KeepsSourceBut : ℕ → Listed → ProblemLists → (source stamp : Option ℕ) → SolverLists → Type 0
KeepsSourceBut on l p None None s = s.kept.source ≡ None
KeepsSourceBut on l p None (Some stamp) s = ⊥
KeepsSourceBut on l p (Some clock) None s = (HasReading p clock → on ≡ clock) × (s.kept.source ≡ None)
KeepsSourceBut on l p (Some clock) (Some stamp) s = IsSourceReading l s clock stamp

-- the answers are those of these events, but that the source may have no slot yet where it is the clock of this label
pub record AreAnswersBut (label : ℕ) (seen : List (List Seen)) (kept : List EventId) (a : Answers) : Type 0 where
  pub lawful : IsRoster a.graph.roster
  pub graph : IsKeptFor seen a.graph.roster a.graph.solver
  pub ends : AreEndsBy (map id_of a.graph.roster.came) a.graph.matcher seen
  pub slots : AreSlotsOf a.graph.roster kept a.graph.solver.kept.slots
  pub source_slot : KeepsSourceBut (clock_at (declared a) label) (listed a.graph.roster) (answers_problem a seen) (declared a).source a.source a.graph.solver
  pub rows : HasSpareRows a.graph.solver
