-- The lines of a problem text after its head, by their words, and when each may stand where.
use Rattle.std.specs.Prelude.{◌≡◌, ◌≢◌, ℕ, ◌+◌, ◌<◌, ◌≤◌, ◌^◌, List, [], ◌∷◌, ◌++◌, length, map, All, slice_get, Option, Some, is_some, IfSome, Bool, true, false, codes}
use Rattle.std.specs.List.{flat_map}
use Rattle.atto.specs.Decimal.{decimal_of}
use Rattle.line_format.specs.Words.{line_of}
use Rattle.line_format.specs.Format.{Format}
use Rattle.problem_model.specs.Name.{IsEventName, IsClockName}
use Rattle.problem_model.specs.Problem.{ProblemLists, IsProblem}
use Rattle.problem_model.specs.declared.items.Event.{Event}
use Rattle.problem_model.specs.ProblemText.{problem_head, followed_head, own_head, clock_line, follow_line, event_line, message_line, most_word}
use Rattle.problem.specs.declared.version.Version.{Version}
use Rattle.problem.specs.declared.version.Version.TheVariants.{First, Second, Third}
use Rattle.problem.specs.Growing.{HasRoomForClock, HasRoomForEvent, HasRoomForMessage}

-- a line of a problem text, with numbers as large as they are written: NAME SHORT LONG EARLY LATE; EARLIER LATER GAP;
-- NAME CLOCK STAMP; NAME CLOCK STAMP EARLY LATE; SEND RECEIVE LEAST MOST; the end
pub data Line : Type 0 where
  ClockLine : List ℕ → ℕ → ℕ → ℕ → ℕ → Line
  FollowLine : List ℕ → List ℕ → ℕ → Line
  EventLine : List ℕ → List ℕ → ℕ → Line
  OwnLine : List ℕ → List ℕ → ℕ → ℕ → ℕ → Line
  MessageLine : List ℕ → List ℕ → ℕ → Option ℕ → Line
  EndLine : Line

-- the words of a line
abbrev pub line_words : Line → List (List ℕ)
line_words (ClockLine name short long early late) = codes "clock" ∷ name ∷ decimal_of short ∷ decimal_of long ∷ decimal_of early ∷ decimal_of late ∷ []
line_words (FollowLine earlier later gap) = codes "follow" ∷ earlier ∷ later ∷ decimal_of gap ∷ []
line_words (EventLine name clock stamp) = codes "event" ∷ name ∷ clock ∷ decimal_of stamp ∷ []
line_words (OwnLine name clock stamp early late) = codes "event" ∷ name ∷ clock ∷ decimal_of stamp ∷ decimal_of early ∷ decimal_of late ∷ []
line_words (MessageLine send receive least most) = codes "message" ∷ send ∷ receive ∷ decimal_of least ∷ most_word most ∷ []
line_words EndLine = codes "end" ∷ []

-- each name is spelled as one of its kind
abbrev pub IsSpelled : Line → Type 0
IsSpelled (ClockLine name short long early late) = IsClockName name
IsSpelled (FollowLine earlier later gap) = IsClockName earlier × IsClockName later
IsSpelled (EventLine name clock stamp) = IsEventName name × IsClockName clock
IsSpelled (OwnLine name clock stamp early late) = IsEventName name × IsClockName clock
IsSpelled (MessageLine send receive least most) = IsEventName send × IsEventName receive
IsSpelled EndLine = Unit {0}

-- the head of a version
abbrev pub head_with : Version → List (List ℕ)
head_with First = problem_head
head_with Second = followed_head
head_with Third = own_head

-- whether its events have bounds of their own: in the third version each has, in the others none
abbrev pub are_own : Version → Bool
are_own First = false
are_own Second = false
are_own Third = true

-- what a version needs before what comes next: the second one a follow before its events, messages and end, the third one an
-- event before its messages and end, the first one nothing
abbrev pub HasWhatItNeeds : Version → ProblemLists → Type 0
HasWhatItNeeds First p = Unit {0}
HasWhatItNeeds Second p = p.follows ≢ []
HasWhatItNeeds Third p = p.events ≢ []

-- follows stand in the first version nowhere, in the others before events and messages
abbrev pub MayFollow : Version → ProblemLists → Type 0
MayFollow First p = ⊥
MayFollow Second p = (p.events ≡ []) × (p.messages ≡ [])
MayFollow Third p = (p.events ≡ []) × (p.messages ≡ [])

-- clocks before follows before events before messages before the end; in the second version nothing but clocks comes
-- before the first follow; the lines of events are with bounds or without, as the version has it
abbrev pub MayStand : Version → ProblemLists → Line → Type 0
MayStand version p (ClockLine name short long early late) = (p.follows ≡ []) × (p.events ≡ []) × (p.messages ≡ [])
MayStand version p (FollowLine earlier later gap) = MayFollow version p
MayStand version p (EventLine name clock stamp) = (are_own version ≡ false) × HasWhatItNeeds version p × (p.messages ≡ [])
MayStand version p (OwnLine name clock stamp early late) = (are_own version ≡ true) × (p.messages ≡ [])
MayStand version p (MessageLine send receive least most) = HasWhatItNeeds version p
MayStand version p EndLine = HasWhatItNeeds version p

-- which lines stand before the first of a kind: in the first version there are no follows, in the second nothing but
-- clocks comes before the first follow, in the third no message before the first event
abbrev pub IsInPlace : Version → ProblemLists → Type 0
IsInPlace First p = p.follows ≡ []
IsInPlace Second p = p.follows ≡ [] → (p.events ≡ []) × (p.messages ≡ [])
IsInPlace Third p = p.events ≡ [] → p.messages ≡ []

-- each of these events has bounds of its own, or none has
abbrev pub AreBounded : Bool → List Event → Type 0
AreBounded own events = All (λ e. is_some e.bounds ≡ own) events

-- how the lines of a version stand so far
abbrev pub IsInOrder : Version → ProblemLists → Type 0
IsInOrder version p = IsInPlace version p × AreBounded (are_own version) p.events

-- a lawful problem that the lines of a version may say
abbrev pub IsSaid : Version → ProblemLists → Type 0
IsSaid version p = IsProblem p × IsInOrder version p

-- the clock at this place has this name
abbrev pub HasClock : ProblemLists → ℕ → List ℕ → Type 0
HasClock p k name = slice_get (map (λ c. c.name) p.clocks) k ≡ Some name

-- the event at this place has this name
abbrev pub HasEvent : ProblemLists → ℕ → List ℕ → Type 0
HasEvent p k name = slice_get (map (λ e. e.name) p.events) k ≡ Some name

-- no event has this name
abbrev pub IsUnknown : ProblemLists → List ℕ → Type 0
IsUnknown p name = (k : ℕ) → HasEvent p k name → ⊥

-- the message at this place goes from the one event to the other
abbrev pub HasMessageAt : ProblemLists → ℕ → ℕ → ℕ → Type 0
HasMessageAt p k send receive = slice_get {X = ℕ × ℕ} (map (λ m. (m.send, m.receive)) p.messages) k ≡ Some (send, receive)

-- a name of its own; two known clocks in their order, the one not followed yet and the other not following; a clock that is
-- known; two known events that no message joins in this order
abbrev pub NamesFit : ProblemLists → Line → Type 0
NamesFit p (ClockLine name short long early late) = All (λ c. c.name ≢ name) p.clocks
NamesFit p (FollowLine earlier later gap) = (c : ℕ) × (d : ℕ) × HasClock p c earlier × HasClock p d later × (c < d)
    × All (λ f. f.earlier ≢ c) p.follows × All (λ f. f.later ≢ d) p.follows
NamesFit p (EventLine name clock stamp) = All (λ e. e.name ≢ name) p.events × ((k : ℕ) × HasClock p k clock)
NamesFit p (OwnLine name clock stamp early late) = All (λ e. e.name ≢ name) p.events × ((k : ℕ) × HasClock p k clock)
NamesFit p (MessageLine send receive least most) = (s : ℕ) × (r : ℕ) × HasEvent p s send × HasEvent p r receive × (s ≢ r)
    × All (λ m. (m.send ≡ s) → (m.receive ≡ r) → ⊥) p.messages
NamesFit p EndLine = Unit {0}

-- each number is in its range
abbrev pub NumbersFit : Line → Type 0
NumbersFit (ClockLine name short long early late) = (short ≤ 999999999) × (long ≤ 1000000000) × (early < 2 ^ 62) × (late < 2 ^ 62)
NumbersFit (FollowLine earlier later gap) = gap < 2 ^ 62
NumbersFit (EventLine name clock stamp) = stamp < 2 ^ 62
NumbersFit (OwnLine name clock stamp early late) = (stamp < 2 ^ 62) × (early < 2 ^ 62) × (late < 2 ^ 62)
NumbersFit (MessageLine send receive least most) = (least < 2 ^ 62) × IfSome most (λ n. n < 2 ^ 62)
NumbersFit EndLine = Unit {0}

-- there is room for one more of its kind
abbrev pub HasRoomForLine : ProblemLists → Line → Type 0
HasRoomForLine p (ClockLine name short long early late) = HasRoomForClock p
HasRoomForLine p (FollowLine earlier later gap) = Unit {0}
HasRoomForLine p (EventLine name clock stamp) = HasRoomForEvent p
HasRoomForLine p (OwnLine name clock stamp early late) = HasRoomForEvent p
HasRoomForLine p (MessageLine send receive least most) = HasRoomForMessage p
HasRoomForLine p EndLine = Unit {0}

-- the text of a problem without its end
abbrev pub open_text : Version → ProblemLists → List ℕ
open_text version p = line_of (head_with version) ++ flat_map clock_line p.clocks ++ (flat_map (follow_line p.clocks) p.follows ++ flat_map (event_line p.clocks) p.events)
    ++ flat_map (message_line p.events) p.messages

-- how many lines that text has
abbrev pub open_lines : ProblemLists → ℕ
open_lines p = 1 + length p.clocks + length p.follows + length p.events + length p.messages

-- the format of problem texts of a version; of a line it asks: spelling, place, names, numbers, room
abbrev pub problem_format : Version → Format ProblemLists Line
problem_format version = record {
  head = head_with version;
  end = EndLine;
  line_words = line_words;
  IsSpelled = IsSpelled;
  MayStand = MayStand version;
  NamesFit = NamesFit;
  NumbersFit = NumbersFit;
  HasRoom = HasRoomForLine;
  IsSound = IsSaid version;
  text_of = open_text version;
  lines_of = open_lines;
}
