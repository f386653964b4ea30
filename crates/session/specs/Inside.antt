-- What the parts of a session promise each other.
use Rattle.std.specs.Prelude.{◌≡◌, ℕ, ◌+◌, ◌<◌, ◌≤◌, List, [], ◌∷◌, ◌++◌, length, map, slice_get, slice_set, Option, Some, Bool, true, false, All, ⊤}
use Rattle.ports.specs.Files.{FilesTold}
use Rattle.captures.specs.Feeding.{IsNew}
use Rattle.decl.specs.declared.items.Label.{Label}
use Rattle.decl.specs.declared.items.TraceKind.{TraceKind}
use Rattle.decl.specs.Declaration.{Declaration}
use Rattle.traces.specs.Seen.{Seen}
use Rattle.traces.specs.declared.accepted.Stream.{Stream}
use Rattle.traces.specs.declared.accepted.Stream.TheVariants as streams
use Rattle.traces.specs.Traces.{Trace, IsOfKind, seen_of, bytes_accepted}
use Rattle.msg_match.specs.declared.changes.Changed.{Changed}
use Rattle.queries.specs.Consistent.{IsConsistent}
use Rattle.replies.specs.Commands.{Command}
use Rattle.problem_model.specs.Problem.{ProblemLists}
use Rattle.replies.specs.declared.outcome.Added.{Added}
use Rattle.replies.specs.declared.outcome.Aside.{Aside}
use Rattle.replies.specs.Reply.{State, Found, Unread, Reply, AcceptReply, PieceReply, aside_of, added_line, most_of_label, most_piece}
use Rattle.replies.specs.Sessions.{CommandReply, AreCounted}
use Rattle.session.specs.Stands.{Held, Under, StandsFor, IsStreamOf, IsReadWithin, kind_by_stream, aside_in}

-- ---- what is written
-- what an addition of so many events changed, by how the messages changed, by what gives no events, and by whether there is an
-- execution
abbrev pub added_of : Changed → ℕ → Aside → Bool → Added
added_of changed more aside consistent = record { events = more; messages = changed.messages; withdrawn = changed.withdrawn; aside = aside; consistent = consistent }

-- the line of an addition of so many events, behind which this is the problem
abbrev pub IsAddedTo : ProblemLists → Changed → ℕ → Aside → List ℕ → Type 0
IsAddedTo p changed more aside text = (b : Bool) × IsConsistent p b × (text ≡ added_line (added_of changed more aside b))

-- ---- what is held
-- this is kept of nothing
abbrev pub IsNewStream : Stream → Type 0
IsNewStream streams.Log = ⊤
IsNewStream (streams.Capture tail) = IsNew tail

-- nothing is held under a label
pub record HoldsNothing (u : Under) : Type 0 where
  pub events : u.events ≡ []
  pub size : u.size ≡ 0
  pub stream : IsNewStream u.stream

-- the kinds of what is kept under each label
abbrev pub kinds_held : List Under → List TraceKind
kinds_held under = map (λ (u : Under). kind_by_stream u.stream) under

-- nothing is held under these labels
abbrev pub AreEmpty : List Under → List Label → Type 0
AreEmpty under labels = (kinds_held under ≡ map (λ (l : Label). l.kind) labels) × All HoldsNothing under

-- a label has room for so many bytes more
abbrev pub HasPlace : List Under → ℕ → ℕ → Type 0
HasPlace under k size = (u : Under) → slice_get under k ≡ Some u → u.size + size ≤ most_of_label

-- this is kept of no more than a label has, with so many bytes more
abbrev pub IsStreamWithin : List Under → ℕ → ℕ → Stream → Type 0
IsStreamWithin under k size stream = (u : Under) → slice_get under k ≡ Some u → IsReadWithin stream (u.size + size)

-- what is held under a label, with more events that came in so many bytes, of which this is kept
abbrev pub grown_under : Under → List Seen → ℕ → Stream → Under
grown_under u events size stream = record { events = u.events ++ events; size = u.size + size; stream = stream }

-- what is held under all labels, with more at a place
pub record IsGrownAt (old new : List Under) (k : ℕ) (events : List Seen) (size : ℕ) (stream : Stream) : Type 0 where
  pub at : Under
  pub was : slice_get old k ≡ Some at
  pub is : new ≡ slice_set old k (grown_under at events size stream)

-- the front of a piece is all of it, or there is more of it than a piece may have
abbrev pub IsPiece : Bool → List ℕ → List ℕ → Type 0
IsPiece true front bytes = most_piece < length bytes
IsPiece false front bytes = bytes ≡ front

-- ---- replies
-- a reply of this kind stands written so, and the session stands for what follows it
abbrev pub Answered : Held → Declaration → (List ℕ → State → Type 0) → (List ℕ → Type 0) → Type 0
Answered held' d IsReply IsWritten = (text : List ℕ) × (s' : State) × IsReply text s' × IsWritten text × StandsFor held' d s'

-- the same for all that the session stood for, of a command that reads no file
abbrev pub UnreadAnswered : Held → Held → Command → (List ℕ → Type 0) → Type 0
UnreadAnswered held held' command IsWritten = (d : Declaration) (s : State) → StandsFor held d s → Answered held' d (Reply d s command Unread) IsWritten

-- the same of a piece for a label
abbrev pub PieceAnswered : Held → Held → (Declaration → State → List ℕ → State → Type 0) → (List ℕ → Type 0) → Type 0
PieceAnswered held held' IsReply IsWritten = (d : Declaration) (s : State) → StandsFor held d s → Answered held' d (IsReply d s) IsWritten

-- the same of a piece for a label, whose front was read and maybe more
abbrev pub FrontAnswered : Bool → List ℕ → Held → Held → ℕ → (List ℕ → Type 0) → Type 0
FrontAnswered more front held held' k IsWritten = (bytes : List ℕ) → IsPiece more front bytes
    → PieceAnswered held held' (λ d s. PieceReply d s k (slice_get d.labels k) (slice_get s.traces k) bytes) IsWritten

-- the same of a piece for a label of this kind, by what was accepted under it
abbrev pub KindAnswered : TraceKind → Held → Held → ℕ → (Declaration → State → Trace → List ℕ → State → Type 0) → (List ℕ → Type 0) → Type 0
KindAnswered kind held held' k IsReply IsWritten = (d : Declaration) (s : State) (trace : Trace) → StandsFor held d s → slice_get s.traces k ≡ Some trace
    → IsOfKind kind trace → Answered held' d (IsReply d s trace) IsWritten

-- the trace of a label, of this kind, grew by these events, which came in so many bytes, and this is kept of it
pub record IsGrownTrace (d : Declaration) (label : Label) (kind : TraceKind) (old new : Trace) (more : List Seen) (came : ℕ) (next : Stream) : Type 0 where
  pub of_kind : IsOfKind kind new
  pub events : seen_of d label new ≡ seen_of d label old ++ more
  pub size : bytes_accepted new ≡ bytes_accepted old + came
  pub aside : aside_in next ≡ aside_of new
  pub stream : IsStreamOf next new

-- these events were accepted, or refused for their number: the answer is a reply for every trace that they make of the one before
abbrev pub AcceptAnswered : Held → Held → ℕ → List Seen → ℕ → Stream → (List ℕ → Type 0) → Type 0
AcceptAnswered held held' k events size stream IsWritten = (d : Declaration) (s : State) (label : Label) (old new : Trace) → StandsFor held d s
    → slice_get d.labels k ≡ Some label → slice_get s.traces k ≡ Some old → IsGrownTrace d label label.kind old new events size stream
    → Answered held' d (AcceptReply d s k new) IsWritten

-- the same of a command or of a line that spells none, with what its read came to
abbrev pub CommandAnswered : Option Command → FilesTold → FilesTold → Held → Held → (List ℕ → Type 0) → Type 0
CommandAnswered command files files' held held' IsWritten = (d : Declaration) (s : State) → StandsFor held d s →
    (found : Found) × Answered held' d (CommandReply d files.content s command found) IsWritten × AreCounted (found ∷ []) files files'
