-- What a session holds, and what it stands for.
use Rattle.std.specs.Prelude.{◌≡◌, ◌⊎◌, ℕ, ◌+◌, ◌*◌, ◌≤◌, List, [], ◌∷◌, length, map, slice_get, Bool, true, false, Option, Some, None, IsSome, IfSome, All, Result, OnOk, IsErrOf, ⊤}
use Rattle.ports.specs.Content.{Appends, AppendsPrefix, Rose, SinkTold}
use Rattle.ports.specs.Files.{FilesTold}
use Rattle.captures.specs.Feeding as feeding
use Rattle.captures.specs.Capture.{passed_count}
use Rattle.captures.specs.Feeding.{taken, waiting_of}
use Rattle.decl.specs.declared.items.Label.{Label}
use Rattle.decl.specs.declared.items.TraceKind.{TraceKind}
use Rattle.decl.specs.declared.items.TraceKind.TheVariants.{Capture, Log}
use Rattle.decl.specs.Declaration.{Declaration, IsDeclaration}
use Rattle.traces.specs.Seen.{Seen, seen_events}
use Rattle.traces.specs.declared.accepted.Accepted.{Accepted}
use Rattle.traces.specs.declared.event_id.EventId.{EventId}
use Rattle.traces.specs.declared.accepted.Stream.{Stream}
use Rattle.traces.specs.declared.accepted.Stream.TheVariants as streams
use Rattle.traces.specs.Held.{passed_by}
use Rattle.traces.specs.Traces.{Trace, Captured, Logged, bytes_accepted, seen_by, name_of, IsOfKind, event_count}
use Rattle.traces.specs.Messages.{problem_of_seen}
use Rattle.problem_model.specs.Problem.{ProblemLists}
use Rattle.problem_model.specs.Limits.{most_events}
use Rattle.solver.specs.Solver.{SolverLists}
use Rattle.roster.specs.Roster.{RosterLists, IsRoster, listed}
use Rattle.solver.specs.Solution.{IsSolutionBy}
use Rattle.queries.specs.declared.stop.Stop.{Stop}
use Rattle.queries.specs.declared.stop.Stop.TheVariants as stops
use Rattle.session_answers.specs.declared.answers.Answers.{Answers}
use Rattle.session_answers.specs.Ready.{AreSlotsOf, KeepsSource, IsAddition}
use Rattle.replies.specs.Commands.{Add, Ask, Question, Asks, IsReadOff}
use Rattle.replies.specs.declared.outcome.Aside.{Aside}
use Rattle.replies.specs.Reply.{State, Found, most_of_label}
use Rattle.replies.specs.Sessions.{LineReply, AreCounted}

-- ---- what is kept of the bytes under a label
-- the kind of the label
abbrev pub kind_by_stream : Stream → TraceKind
kind_by_stream streams.Log = Log
kind_by_stream (streams.Capture tail) = Capture

-- how many bytes wait for more; of a log none do
abbrev pub waiting : Stream → ℕ
waiting streams.Log = 0
waiting (streams.Capture tail) = waiting_of tail

-- what of them gives no events: those that wait, and the packets that were passed over
abbrev pub aside_in : Stream → Aside
aside_in stream = record { pending = waiting stream; passed = passed_count (passed_by stream) }

-- a capture was read no further than through so many bytes
abbrev pub IsReadWithin : Stream → ℕ → Type 0
IsReadWithin streams.Log size = ⊤
IsReadWithin (streams.Capture tail) size = taken tail ≤ size

-- this is kept of what was accepted
abbrev pub IsStreamOf : Stream → Trace → Type 0
IsStreamOf streams.Log (Captured bytes capture) = ⊥
IsStreamOf streams.Log (Logged rows size) = ⊤
IsStreamOf (streams.Capture tail) (Captured bytes capture) = feeding.StandsFor tail bytes capture
IsStreamOf (streams.Capture tail) (Logged rows size) = ⊥

-- ---- what is held
-- what is held under a label: its events, how many bytes were accepted, and what is kept of them
pub record Under : Type 0 where
  pub events : List Seen
  pub size : ℕ
  pub stream : Stream

-- what a session holds: its declaration, what is held under each label, the events that are kept, and the answers that stand
-- ready, which are none once memory ran out in a change
pub record Held : Type 0 where
  pub declaration : Declaration
  pub under : List Under
  pub kept : List EventId
  pub answers : Option SolverLists

-- the events that are held under each label
abbrev pub seen_held : List Under → List (List Seen)
seen_held under = map (λ (u : Under). u.events) under

-- the problem of what is held
abbrev pub problem_held : Held → ProblemLists
problem_held h = problem_of_seen h.declaration (seen_held h.under)

-- a label has at most 2^30 bytes, and what is kept of them is of no more
abbrev pub IsLawfulUnder : Under → Type 0
IsLawfulUnder u = (u.size ≤ most_of_label) × IsReadWithin u.stream u.size

-- what the code holds under a label
abbrev pub under_of : Accepted → Under
under_of a = record { events = seen_events a.events.items; size = a.size; stream = a.stream }

-- what the code's own parts hold
abbrev pub held_parts : Declaration → List Accepted → List EventId → Option SolverLists → Held
held_parts d accepted kept answers = record { declaration = d; under = map under_of accepted; kept = kept; answers = answers }

-- ---- what stands ready
-- there are at most eight arcs for each of so many events, withdrawn ones included
abbrev pub HasFewArcs : ℕ → SolverLists → Type 0
HasFewArcs events s = length s.graph.arcs ≤ 8 * events

-- what stands ready is of what is held: by some roster its graph stands for the problem of all that was accepted, the slots are those
-- of the kept events, and the source's slot is that of a reading of its clock; and the graph has few arcs
pub record IsKeptUp (h : Held) (s : SolverLists) : Type 0 where
  pub roster : RosterLists
  pub lawful : IsRoster roster
  pub declared : roster.declaration ≡ h.declaration
  pub solution : IsSolutionBy (listed roster) (problem_held h) s
  pub slots : AreSlotsOf roster h.kept s.kept.slots
  pub stamp : Option ℕ
  pub source : KeepsSource (listed roster) (problem_held h) h.declaration.source stamp s
  pub few : HasFewArcs (event_count (seen_held h.under)) s

-- what a session holds is within its limits, with a place for each label, and what stands ready is of it
pub record IsHeldInSession (h : Held) : Type 0 where
  pub declared : IsDeclaration h.declaration
  pub each : length h.under ≡ length h.declaration.labels
  pub fit : All IsLawfulUnder h.under
  pub few : event_count (seen_held h.under) ≤ most_events
  pub kept_up : IfSome h.answers (IsKeptUp h)

-- the solver of the answers, where they stand ready
abbrev pub solver_of : Bool → Answers → Option SolverLists
solver_of true a = Some a.graph.solver
solver_of false a = None

-- no call before ran out of memory
abbrev pub IsReady : Held → Type 0
IsReady h = IsSome h.answers

-- ---- questions that are answered from rows
-- the event of this name is kept
abbrev pub KeepsEvent : Held → List ℕ → Type 0
KeepsEvent h name = (k : ℕ) × (event : EventId) × (slice_get h.kept k ≡ Some event) × (name_of h.declaration event ≡ name)

-- the line spells a question that is answered from values, and from rows of events that are kept
abbrev pub AsksOfRows : Held → List ℕ → Type 0
AsksOfRows h line = (question : Question) × Asks line (Some (Ask question)) × IsReadOff (KeepsEvent h) question

-- ---- additions
-- so it is of as many events as are held more afterwards, where answers stand ready before and after
abbrev pub AddsSo : Held → Held → ℕ → ℕ → Type 0
AddsSo old new first last = (events : ℕ) → event_count (seen_held new.under) ≡ event_count (seen_held old.under) + events
    → IfSome old.answers (λ before. IfSome new.answers (λ after. IsAddition events before after first last))

-- so it is where the line spells an addition
abbrev pub AddsByLine : List ℕ → Held → Held → ℕ → ℕ → Type 0
AddsByLine line old new first last = (label path : List ℕ) → Asks line (Some (Add label path)) → AddsSo old new first last

-- ---- what it stands for

-- the session stands for a declaration, traces and kept events
pub record StandsFor (h : Held) (d : Declaration) (s : State) : Type 0 where
  pub declaration : h.declaration ≡ d
  pub labels : length s.traces ≡ length d.labels
  pub kinds : (k : ℕ) (label : Label) (trace : Trace) → slice_get d.labels k ≡ Some label → slice_get s.traces k ≡ Some trace → IsOfKind label.kind trace
  pub events : seen_held h.under ≡ seen_by d s.traces
  pub sizes : map (λ (u : Under). u.size) h.under ≡ map bytes_accepted s.traces
  pub streams : (k : ℕ) (u : Under) (trace : Trace) → slice_get h.under k ≡ Some u → slice_get s.traces k ≡ Some trace → IsStreamOf u.stream trace
  pub kept : s.kept ≡ h.kept

-- for each declaration, traces and kept events that the session stood for, a reply to the line stands written so, and the
-- session stands for what follows it
abbrev pub Stepped : List ℕ → FilesTold → FilesTold → Held → Held → (List ℕ → Type 0) → Type 0
Stepped line files files' held held' IsWritten = (d : Declaration) (s : State) → StandsFor held d s →
    (found : Found) × (text : List ℕ) × (s' : State) × LineReply d files.content s line found text s'
    × IsWritten text
    × AreCounted (found ∷ []) files files'
    × StandsFor held' d s'

-- this is said of the reply as it stands written: whole, or a front of it where a write failed, and then the output's
-- count of faults rose
pub record WritesReply (Says : (List ℕ → Type 0) → Type 0) (old new : SinkTold) (result : Result (Unit {0}) Stop) : Type 0 where
  pub reply : OnOk result (Says (Appends old.written new.written))
  pub front : IsErrOf result stops.WriteFault → Says (AppendsPrefix old.written new.written)
  pub cause : IsErrOf result stops.WriteFault → Rose old.faults new.faults
  pub no_fall : old.faults ≤ new.faults
