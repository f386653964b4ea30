-- What a session may reply to a command, and what it then has.
use Rattle.std.specs.Prelude.{◌≡◌, ℕ, zero, suc, ◌+◌, ◌-◌, ◌^◌, ◌<◌, ◌≤◌, ◌⊎◌, List, [], ◌∷◌, ◌++◌, length, map, slice_get, slice_set, Option, Some, None, Bool, true, false, nat_le, ◌&&◌, codes, MatchBool, All, Any, position}
use Rattle.std.specs.Str.{bytes_eq}
use Rattle.atto.specs.Decimal.{decimal_of}
use Rattle.line_format.specs.Words.{line_of}
use Rattle.problem_model.specs.Problem.{ProblemLists}
use Rattle.problem_model.specs.ProblemText.{problem_text}
use Rattle.problem_model.specs.Limits.{most_events}
use Rattle.problem.specs.Line.{HasEvent, IsUnknown}
use Rattle.event_log.specs.declared.errors.LogError.{LogError}
use Rattle.event_log.specs.declared.row.Row.{Row}
use Rattle.event_log.specs.Log.{records_of, AreRows, IsLogFault}
use Rattle.captures.specs.declared.errors.CaptureError.{CaptureError}
use Rattle.captures.specs.Capture as captures
use Rattle.captures.specs.Capture.{Reads, IsFault, passed_count}
use Rattle.decl.specs.declared.items.Label.{Label}
use Rattle.decl.specs.declared.items.TraceKind.{TraceKind}
use Rattle.decl.specs.declared.items.TraceKind.TheVariants.{Capture, Log}
use Rattle.decl.specs.Declaration.{Declaration}
use Rattle.traces.specs.Seen.{Seen}
use Rattle.traces.specs.declared.event_id.EventId.{EventId}
use Rattle.traces.specs.declared.event_id.Couple.{Couple}
use Rattle.traces.specs.Traces.{Trace, Captured, Logged, Traces, Missed, Placed, missed_of, passed_of, seen_by, bytes_accepted, events_of, event_count}
use Rattle.traces.specs.Messages.{messages_of, missing, problem_of, problem_of_seen}
use Rattle.queries.specs.Consistent.{IsConsistent}
use Rattle.widen.specs.Blame.{IsBlameText}
use Rattle.thinning.specs.Named.{IsKnown, IsThinText}
use Rattle.queries.specs.Replies.{HasReading, IsComparisonLine, IsProofText, IsTimeLine, Replies}
use Rattle.replies.specs.Merged.{IsMergeText}
use Rattle.replies.specs.AllTimes.{AreTimesBy, AreEndsSince, IsTimesText}
use Rattle.report.specs.Reports.{report_text}
use Rattle.replies.specs.declared.outcome.Added.{Added}
use Rattle.replies.specs.declared.outcome.Aside.{Aside}
use Rattle.replies.specs.declared.refusal.Refusal.{Refusal}
use Rattle.replies.specs.declared.refusal.Refusal.TheVariants.{UnknownLabel, UnreadFile, TooManyBytes, TooManyEvents, UnknownEvent, NoSourceTime, EightAreKept}
use Rattle.replies.specs.Refusals.{refusal_line, log_refusal, capture_refusal}
use Rattle.replies.specs.Commands.{Command, Add, Keep, Ask, Question, Compare, Time, AllTimes, Merge, Prove, Problem, Report, Blame, Thin}

-- what a session has: the traces, and the events that are kept
pub record State : Type 0 where
  pub traces : Traces
  pub kept : List EventId

-- what came of the read that a command makes: it makes none, bytes, no such file, or a read that failed
pub data Found : Type 0 where
  -- the command reads no file
  Unread : Found
  -- the path has these bytes
  Bytes : List ℕ → Found
  -- the path is not there
  Absent : Found
  -- a read failed
  Failed : Found

-- ---- refusals
-- the command is refused so, and nothing changes
abbrev pub Refuses : State → Refusal → List ℕ → State → Type 0
Refuses s r text s' = (text ≡ refusal_line r) × (s' ≡ s)

-- ---- questions
-- what is said of two events by their names, or the refusal where one is unknown
abbrev pub OfTwo : ProblemLists → List ℕ → List ℕ → (ℕ → ℕ → List ℕ → Type 0) → List ℕ → Type 0
OfTwo p first second Says text =
    ((i : ℕ) × (j : ℕ) × HasEvent p i first × HasEvent p j second × Replies p (Says i j) text)
    ⊎ ((IsUnknown p first ⊎ IsUnknown p second) × (text ≡ refusal_line UnknownEvent))

-- what is said of an event by its name, or the refusal where none has it
abbrev pub OfOne : ProblemLists → List ℕ → (ℕ → List ℕ → Type 0) → List ℕ → Type 0
OfOne p event Says text = ((i : ℕ) × HasEvent p i event × Says i text) ⊎ (IsUnknown p event × (text ≡ refusal_line UnknownEvent))

-- what is said of some events by their names, or the refusal where one is unknown
abbrev pub OfEach : ProblemLists → List (List ℕ) → (List ℕ → Type 0) → List ℕ → Type 0
OfEach p events Says text = (All (IsKnown p) events × Says text) ⊎ (Any (IsUnknown p) events × (text ≡ refusal_line UnknownEvent))

-- what is said by the source's clock, or the refusal where no source is declared or its clock has no reading
abbrev pub OfSource : ProblemLists → Option ℕ → (ℕ → List ℕ → Type 0) → List ℕ → Type 0
OfSource p None Says text = text ≡ refusal_line NoSourceTime
OfSource p (Some clock) Says text = (HasReading p clock × Replies p (Says clock) text)
    ⊎ ((HasReading p clock → ⊥) × (text ≡ refusal_line NoSourceTime))

-- the time of an event by the source's clock
abbrev pub IsTimeReply : ProblemLists → Option ℕ → ℕ → List ℕ → Type 0
IsTimeReply p source event = OfSource p source (λ clock. IsTimeLine p clock event)

-- the times of all events by the source's clock
abbrev pub IsTimesReply : ProblemLists → Option ℕ → List ℕ → Type 0
IsTimesReply p source = OfSource p source (λ clock. IsTimesText p (AreTimesBy p clock))

-- the real time from an event to each one
abbrev pub IsSinceText : ProblemLists → ℕ → List ℕ → Type 0
IsSinceText p first text = Replies p (IsTimesText p (AreEndsSince p first)) text

-- what answers the question for the times of all events: by the source's clock, or from the event of a name
abbrev pub IsTimesAnswer : ProblemLists → Option ℕ → Option (List ℕ) → List ℕ → Type 0
IsTimesAnswer p source None = IsTimesReply p source
IsTimesAnswer p source (Some event) = OfOne p event (IsSinceText p)

-- the report on the events of all labels and on the packets under each that have none, by whether the problem of the events
-- has an execution
abbrev pub IsReport : Declaration → List (List Seen) → List Missed → List ℕ → Type 0
IsReport d seen missed text = (b : Bool) × IsConsistent (problem_of_seen d seen) b × (text ≡ report_text d seen missed b)

-- what answers a question about these events of all labels, and about the packets under each that have none
abbrev pub IsAnswerTo : Question → Declaration → List (List Seen) → List Missed → List ℕ → Type 0
IsAnswerTo (Compare what first second) d seen missed = let p = problem_of_seen d seen in OfTwo p first second (IsComparisonLine what p)
IsAnswerTo (Time event) d seen missed = let p = problem_of_seen d seen in OfOne p event (IsTimeReply p d.source)
IsAnswerTo (AllTimes since) d seen missed = IsTimesAnswer (problem_of_seen d seen) d.source since
IsAnswerTo Merge d seen missed = Replies (problem_of_seen d seen) (IsMergeText d seen)
IsAnswerTo (Prove first second) d seen missed = let p = problem_of_seen d seen in OfTwo p first second (IsProofText p)
IsAnswerTo Problem d seen missed = λ text. text ≡ problem_text (problem_of_seen d seen)
IsAnswerTo Report d seen missed = IsReport d seen missed
IsAnswerTo Blame d seen missed = IsBlameText (problem_of_seen d seen)
IsAnswerTo (Thin events) d seen missed = let p = problem_of_seen d seen in OfEach p events (IsThinText p events)

-- ---- additions
-- whether there is an execution, as a word
abbrev pub state_word : Bool → List ℕ
state_word true = codes "consistent"
state_word false = codes "inconsistent"

-- how many packets were passed over, in words; where none were, there are none
abbrev pub passed_words : ℕ → List (List ℕ)
passed_words zero = []
passed_words (suc n) = codes "passed" ∷ decimal_of (suc n) ∷ []

-- the line of what an addition changed; how many packets were passed over is said where any were
abbrev pub added_line : Added → List ℕ
added_line a =
    line_of (codes "added" ∷ codes "events" ∷ decimal_of a.events ∷ codes "messages" ∷ decimal_of a.messages ∷ codes "withdrawn" ∷ decimal_of a.withdrawn
    ∷ codes "pending" ∷ decimal_of a.aside.pending ∷ (passed_words a.aside.passed ++ state_word a.consistent ∷ []))

-- the messages of traces
abbrev pub messages_by : Declaration → Traces → List Couple
messages_by d traces = messages_of (events_of (seen_by d traces))

-- how many events traces have
abbrev pub count_by : Declaration → Traces → ℕ
count_by d traces = event_count (seen_by d traces)

-- what an addition changed, by the traces before and after, by what under its label gives no events, and by whether there is an
-- execution
abbrev pub added_by : Declaration → Traces → Traces → Aside → Bool → Added
added_by d old new aside consistent = record {
  events = count_by d new - count_by d old;
  messages = missing (messages_by d new) (messages_by d old);
  withdrawn = missing (messages_by d old) (messages_by d new);
  aside = aside;
  consistent = consistent;
}

-- the line of an addition
abbrev pub IsAdded : Declaration → Traces → Traces → Aside → List ℕ → Type 0
IsAdded d old new aside text = (b : Bool) × IsConsistent (problem_of d new) b × (text ≡ added_line (added_by d old new aside b))

-- how many bytes under a label wait for the rest of their record or header; of a log none do
abbrev pub pending_of : Trace → ℕ
pending_of (Captured bytes capture) = length capture.rest
pending_of (Logged rows size) = 0

-- what under a label gives no events: the bytes that wait, and the packets that were passed over in all its pieces
abbrev pub aside_of : Trace → Aside
aside_of trace = record { pending = pending_of trace; passed = passed_count (passed_of trace) }

-- what was accepted under the label at a place becomes this, unless there would be too many events
abbrev pub AcceptReply : Declaration → State → ℕ → Trace → List ℕ → State → Type 0
AcceptReply d s k trace text s' =
    let traces = slice_set s.traces k trace in
    MatchBool (nat_le (count_by d traces) (most_events))
    ((s' ≡ record s { traces = traces }) × IsAdded d s.traces traces (aside_of trace) text)
    (Refuses s TooManyEvents text s')

-- ---- pieces of logs
-- a trace with the rows of one piece more, of so many bytes
abbrev pub with_rows : Trace → List Row → ℕ → Trace
with_rows (Captured bytes capture) more size = Captured bytes capture
with_rows (Logged rows old) more size = Logged (rows ++ more) (old + size)

-- the refusal of a piece of a log by its first record that is no row
abbrev pub IsLogRefusal : List ℕ → Refusal → Type 0
IsLogRefusal bytes r = (e : LogError) × IsLogFault bytes e × (log_refusal e ≡ Some r)

-- a piece of a log has rows, or a first fault
abbrev pub LogReply : Declaration → State → ℕ → Trace → List ℕ → List ℕ → State → Type 0
LogReply d s k trace bytes text s' =
    ((rows : List Row) × AreRows (records_of bytes) rows × AcceptReply d s k (with_rows trace rows (length bytes)) text s')
    ⊎ ((r : Refusal) × IsLogRefusal bytes r × Refuses s r text s')

-- ---- pieces of captures
-- the bytes of a capture so far
abbrev pub bytes_of : Trace → List ℕ
bytes_of (Captured bytes capture) = bytes
bytes_of (Logged rows size) = []

-- the refusal of a capture of these bytes
abbrev pub IsCaptureRefusal : List ℕ → Refusal → Type 0
IsCaptureRefusal bytes r = (e : CaptureError) × IsFault bytes e × (capture_refusal e ≡ Some r)

-- a capture with one piece more is read, or refused
abbrev pub CaptureReply : Declaration → State → ℕ → Trace → List ℕ → List ℕ → State → Type 0
CaptureReply d s k trace piece text s' =
    let bytes = bytes_of trace ++ piece in
    ((capture : captures.Capture) × Reads bytes capture × AcceptReply d s k (Captured bytes capture) text s')
    ⊎ ((r : Refusal) × IsCaptureRefusal bytes r × Refuses s r text s')

-- a piece by the kind of its label
abbrev pub KindReply : Declaration → State → ℕ → Trace → TraceKind → List ℕ → List ℕ → State → Type 0
KindReply d s k trace Capture bytes text s' = CaptureReply d s k trace bytes text s'
KindReply d s k trace Log bytes text s' = LogReply d s k trace bytes text s'

-- the most bytes of a piece, which is held in memory whole: 2^28
abbrev pub most_piece : ℕ
most_piece = 2 ^ 28

-- the most bytes that are accepted under a label: 2^30
abbrev pub most_of_label : ℕ
most_of_label = 2 ^ 30

-- whether a piece is not too long, by itself and with what its label has
abbrev pub fits_label : Trace → List ℕ → Bool
fits_label trace bytes = nat_le (length bytes) most_piece && nat_le (bytes_accepted trace + length bytes) most_of_label

-- a piece for the label at a place
abbrev pub PieceReply : Declaration → State → ℕ → Option Label → Option Trace → List ℕ → List ℕ → State → Type 0
PieceReply d s k None trace bytes text s' = ⊥
PieceReply d s k (Some label) None bytes text s' = ⊥
PieceReply d s k (Some label) (Some trace) bytes text s' =
    MatchBool (fits_label trace bytes) (KindReply d s k trace label.kind bytes text s') (Refuses s TooManyBytes text s')

-- the place of a label by its name
abbrev pub label_at : Declaration → List ℕ → Option ℕ
label_at d name = position (λ (l : Label). bytes_eq l.name name) d.labels

-- the first refusal that applies, or what was added
abbrev pub AddReply : Declaration → State → Option ℕ → Found → List ℕ → State → Type 0
AddReply d s None Unread text s' = Refuses s UnknownLabel text s'
AddReply d s None (Bytes bytes) text s' = ⊥
AddReply d s None Absent text s' = ⊥
AddReply d s None Failed text s' = ⊥
AddReply d s (Some k) Unread text s' = ⊥
AddReply d s (Some k) (Bytes bytes) text s' = PieceReply d s k (slice_get d.labels k) (slice_get s.traces k) bytes text s'
AddReply d s (Some k) Absent text s' = Refuses s UnreadFile text s'
AddReply d s (Some k) Failed text s' = Refuses s UnreadFile text s'

-- ---- events that are kept
-- how many events are kept at most
abbrev pub most_kept : ℕ
most_kept = 8

-- the event at this place among all
abbrev pub IsPlacedAt : List (List Seen) → ℕ → EventId → Type 0
IsPlacedAt seen place event = slice_get (map (λ (e : Placed). e.id) (events_of seen)) place ≡ Some event

-- the event is one of these
abbrev pub IsAmong : List EventId → EventId → Type 0
IsAmong kept event = (k : ℕ) × (slice_get kept k ≡ Some event)

-- kept events are at most eight, each is one of these events, and no two are the same
pub record AreKept (seen : List (List Seen)) (kept : List EventId) : Type 0 where
  pub few : length kept ≤ most_kept
  pub there : (k : ℕ) (event : EventId) → slice_get kept k ≡ Some event → (place : ℕ) × IsPlacedAt seen place event
  pub differ : (j k : ℕ) (event : EventId) → slice_get kept j ≡ Some event → slice_get kept k ≡ Some event → j ≡ k

-- the line of a slot
abbrev pub kept_line : ℕ → List ℕ
kept_line slot = line_of (codes "kept" ∷ decimal_of slot ∷ [])

-- the event has its place among those that are kept; or it gets the next one where fewer than eight are; or it is refused
abbrev pub SlotReply : List EventId → EventId → List ℕ → List EventId → Type 0
SlotReply kept event text kept' =
    ((k : ℕ) × (slice_get kept k ≡ Some event) × (text ≡ kept_line (k + 1)) × (kept' ≡ kept))
    ⊎ ((IsAmong kept event → ⊥) × (length kept < most_kept) × (text ≡ kept_line (length kept + 1)) × (kept' ≡ kept ++ event ∷ []))
    ⊎ ((IsAmong kept event → ⊥) × (length kept ≡ most_kept) × (text ≡ refusal_line EightAreKept) × (kept' ≡ kept))

-- the slot of the event of this name among these of a problem, and the events that are then kept; or the refusal where none
-- has the name
abbrev pub KeepReply : ProblemLists → List (List Seen) → List EventId → List ℕ → List ℕ → List EventId → Type 0
KeepReply p seen kept name text kept' =
    ((place : ℕ) × (event : EventId) × HasEvent p place name × IsPlacedAt seen place event × SlotReply kept event text kept')
    ⊎ (IsUnknown p name × (text ≡ refusal_line UnknownEvent) × (kept' ≡ kept))

-- ---- any command
-- the texts that are replies, and what the session then has
abbrev pub Reply : Declaration → State → Command → Found → List ℕ → State → Type 0
Reply d s (Add label path) found text s' = AddReply d s (label_at d label) found text s'
Reply d s (Keep event) found text s' = (found ≡ Unread) × (s'.traces ≡ s.traces) × KeepReply (problem_of d s.traces) (seen_by d s.traces) s.kept event text s'.kept
Reply d s (Ask question) found text s' = (found ≡ Unread) × (s' ≡ s) × IsAnswerTo question d (seen_by d s.traces) (map missed_of s.traces) text
