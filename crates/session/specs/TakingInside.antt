-- What the parts of an addition whose packets are kept promise each other.
use Rattle.std.specs.Prelude.{◌≡◌, ℕ, ◌+◌, ◌≤◌, List, [], ◌∷◌, length, slice_get, Some, Bool, true, false, ⊤}
use Rattle.problem_model.specs.Limits.{most_events}
use Rattle.ports.specs.Files.{FilesTold}
use Rattle.captures.specs.Capture as captures
use Rattle.captures.specs.Feeding.{Tail}
use Rattle.decl.specs.Declaration.{Declaration}
use Rattle.mergecap.specs.MergedCapture.{Timed}
use Rattle.traces.specs.declared.accepted.Stream.{Stream}
use Rattle.traces.specs.declared.accepted.Stream.TheVariants as streams
use Rattle.traces.specs.Traces.{event_count}
use Rattle.replies.specs.declared.outcome.Outcome.{Outcome}
use Rattle.replies.specs.declared.outcome.Outcome.TheVariants.{Added, Kept, Refused}
use Rattle.session.specs.declared.pieces.Piece.{Piece}
use Rattle.session.specs.declared.pieces.Piece.TheVariants as pieces
use Rattle.session.specs.declared.kept_packets.AddAnswer.{AddAnswer}
use Rattle.replies.specs.Commands.{Add}
use Rattle.replies.specs.Reply.{State, Found, Unread, Bytes, Absent, Failed, AddReply}
use Rattle.replies.specs.Sessions.{CommandReply, FoundAt, AreCounted}
use Rattle.session.specs.Stands.{Held, Under, StandsFor, seen_held}
use Rattle.session.specs.Pieces.{IsFed}
use Rattle.session.specs.Inside.{Answered}
use Rattle.session.specs.Taking.{TakesBy}

-- ---- packets
-- the packets that a piece completes, by what is kept of those before it; of a log there are none
abbrev pub Completes : Stream → List ℕ → List captures.Seen → Type 0
Completes streams.Log piece packets = packets ≡ []
Completes (streams.Capture tail) piece packets = (fed : Tail) × IsFed tail piece fed packets

-- what was read of a piece has these packets, at most one for each event
abbrev pub HasPackets : Stream → List ℕ → List captures.Seen → Piece → Type 0
HasPackets kept piece packets (pieces.Read events next) = Completes kept piece packets × (length packets ≤ length events.items)
HasPackets kept piece packets pieces.TooManyEvents = ⊤
HasPackets kept piece packets (pieces.Refused r) = ⊤

-- ---- what came of an addition
-- where something was added, this is so; no event was kept
abbrev pub WhereAdded : Type 0 → Outcome → Type 0
WhereAdded So (Added a) = So
WhereAdded So (Kept slot) = ⊥
WhereAdded So (Refused r) = ⊤

-- where something was added, there was room for so many events
abbrev pub HadRoom : Held → ℕ → Outcome → Type 0
HadRoom held more = WhereAdded (event_count (seen_held held.under) + more ≤ most_events)

-- where something was added, all of the piece was read, and the packets are those that it completes under the label at a place
abbrev pub CompletesFront : Bool → List ℕ → Held → ℕ → List captures.Seen → Outcome → Type 0
CompletesFront more front held k packets = WhereAdded ((more ≡ false) × ((u : Under) → slice_get held.under k ≡ Some u → Completes u.stream front packets))

-- the packets are those that the found bytes complete under the label at a place
abbrev pub CompletesFound : Held → ℕ → List captures.Seen → Found → Type 0
CompletesFound held k packets Unread = ⊥
CompletesFound held k packets (Bytes bytes) = (u : Under) → slice_get held.under k ≡ Some u → Completes u.stream bytes packets
CompletesFound held k packets Absent = ⊥
CompletesFound held k packets Failed = ⊥

-- the found is at the path
abbrev pub IsAtPath : FilesTold → List ℕ → Found → Type 0
IsAtPath files path found = (label : List ℕ) → FoundAt files.content (Add label path) found

-- a file for the label at a place is answered so, with what its read came to, of which this is said
abbrev pub UnderAnswered : ℕ → List ℕ → FilesTold → FilesTold → Held → Held → (Found → Type 0) → (List ℕ → Type 0) → Type 0
UnderAnswered k path files files' held held' Says IsWritten = (d : Declaration) (s : State) → StandsFor held d s →
    (found : Found) × IsAtPath files path found × Says found × Answered held' d (AddReply d s (Some k) found) IsWritten × AreCounted (found ∷ []) files files'

-- where packets are to be kept and something was added, these are the packets of what was found
abbrev pub KeepsFound : Bool → Held → ℕ → List captures.Seen → Outcome → Found → Type 0
KeepsFound keeps held k packets outcome found = keeps ≡ true → WhereAdded (CompletesFound held k packets found) outcome

-- ---- what is answered
-- a file for the label at a place
abbrev pub TakesUnder : ℕ → List ℕ → FilesTold → FilesTold → Held → Held → List Timed → List Timed → AddAnswer → Type 0
TakesUnder k path files files' = TakesBy (λ d s found text s'. IsAtPath files path found × AddReply d s (Some k) found text s') files files'

-- a file for the label of this name
abbrev pub TakesFile : List ℕ → List ℕ → FilesTold → FilesTold → Held → Held → List Timed → List Timed → AddAnswer → Type 0
TakesFile label path files files' = TakesBy (λ d s. CommandReply d files.content s (Some (Add label path))) files files'
