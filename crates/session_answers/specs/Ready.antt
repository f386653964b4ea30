-- What stands ready for questions.
use Rattle.std.specs.Prelude.{◌≡◌, ℕ, ◌+◌, ◌*◌, ◌≤◌, List, length, map, slice_get, true, Option, Some, None}
use Rattle.decl.specs.Declaration.{Declaration}
use Rattle.traces.specs.Seen.{Seen}
use Rattle.traces.specs.declared.event_id.EventId.{EventId}
use Rattle.traces.specs.Messages.{problem_of_seen}
use Rattle.problem_model.specs.Problem.{ProblemLists}
use Rattle.problem.specs.Listing.{Listed}
use Rattle.row_pool.specs.Pool.{free_rows}
use Rattle.repair.specs.declared.slot.Slot.{Slot}
use Rattle.repair.specs.Slots.{all_slots}
use Rattle.solver.specs.Solver.{SolverLists}
use Rattle.roster.specs.declared.came.Came.{Came}
use Rattle.roster.specs.Roster.{RosterLists, IsRoster, id_of, listed}
use Rattle.msg_match.specs.Ends.{AreEndsBy}
use Rattle.session_graph.specs.Kept.{IsKeptFor}
use Rattle.session_graph.specs.Steps.{IsBetween, TakesFewToAdd}
use Rattle.queries.specs.Asking.{IsSourceReading}
use Rattle.queries.specs.Replies.{HasReading}
use Rattle.session_answers.specs.declared.answers.Answers.{Answers}

-- ---- slots
-- a roster has this node of the event
pub record HasNodeOf (r : RosterLists) (event : EventId) (node : ℕ) : Type 0 where
  pub number : ℕ
  pub came : Came
  pub there : slice_get r.came number ≡ Some came
  pub id_is : id_of came ≡ event
  pub node_is : came.node ≡ node

-- the nodes of the slots are those of the kept events, in their order
pub record AreSlotsOf (r : RosterLists) (kept : List EventId) (slots : List Slot) : Type 0 where
  pub each : length slots ≡ length kept
  pub nodes : (k : ℕ) (event : EventId) (slot : Slot) → slice_get kept k ≡ Some event → slice_get slots k ≡ Some slot → HasNodeOf r event slot.node

-- the source's slot is that of a reading of its clock with this stamp; there is none where no source is declared, or where
-- its clock has no reading
abbrev pub KeepsSource : Listed → ProblemLists → Option ℕ → Option ℕ → SolverLists → Type 0
KeepsSource l p None stamp s = (stamp ≡ None) × (s.kept.source ≡ None)
KeepsSource l p (Some clock) None s = (HasReading p clock → ⊥) × (s.kept.source ≡ None)
KeepsSource l p (Some clock) (Some stamp) s = IsSourceReading l s clock stamp

-- ---- the answers
-- there are at least two rows for each kept event, two for the source and two for a question, and none is taken but those of the slots
abbrev pub HasSpareRows : SolverLists → Type 0
HasSpareRows s = (2 * length s.kept.slots + 4 ≤ length s.pool.rows) × (length s.pool.rows ≤ free_rows s.pool + 2 * length (all_slots s.kept))

-- their declaration
abbrev pub declared : Answers → Declaration
declared a = a.graph.roster.declaration

-- the problem of events by the declaration of the answers
abbrev pub answers_problem : Answers → List (List Seen) → ProblemLists
answers_problem a seen = problem_of_seen (declared a) seen

-- the answers are those of these events: the graph is kept for them and the matcher has their ends of messages, with the rows of the
-- kept events and of the source, and the stamp of the source's reading
pub record AreAnswersOf (seen : List (List Seen)) (kept : List EventId) (a : Answers) : Type 0 where
  pub lawful : IsRoster a.graph.roster
  pub graph : IsKeptFor seen a.graph.roster a.graph.solver
  pub ends : AreEndsBy (map id_of a.graph.roster.came) a.graph.matcher seen
  pub slots : AreSlotsOf a.graph.roster kept a.graph.solver.kept.slots
  pub source_slot : KeepsSource (listed a.graph.roster) (answers_problem a seen) (declared a).source a.source a.graph.solver
  pub rows : HasSpareRows a.graph.solver

-- ---- additions
-- what an addition of so many events makes of what stood ready: slots stay, and where an execution existed, there is the graph between
-- them; it takes no more steps than the changes ask for, and none where no event came and an execution exists
pub record IsAddition (events : ℕ) (before after : SolverLists) (first last : ℕ) : Type 0 where
  pub slots : after.kept.slots ≡ before.kept.slots
  pub source : (slot : Slot) → before.kept.source ≡ Some slot → after.kept.source ≡ Some slot
  pub between : before.earliest.is_solved ≡ true → (between : SolverLists) × IsBetween before after between
  pub steps : TakesFewToAdd events before after first last
  pub nothing : events ≡ 0 → before.earliest.is_solved ≡ true → last ≤ first
