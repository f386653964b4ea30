-- What the code holds of a line: a number of 2 ^ 64 or more is held as None, so its text is still a lawful spelling.
use Rattle.std.specs.Prelude.{◌≡◌, ℕ, ◌^◌, ◌<◌, List, [], ◌∷◌, ◌++◌, codes, Option, Some, None, SomeIff, IfSome, Err}
use Rattle.atto.specs.Decimal.{decimal_of}
use Rattle.atto.specs.Number.{Counts}
use Rattle.atto.specs.Span.{RateParts}
use Rattle.line_format.specs.Words.{words}
use Rattle.line_format.specs.Cut.{◌>>=◌}
use Rattle.line_format.specs.Format.{TakesLine}
use Rattle.line_format.specs.declared.fault.LineError.{LineError}
use Rattle.problem_model.specs.declared.items.Clock.{Clock}
use Rattle.problem_model.specs.Problem.{ProblemLists}
use Rattle.problem_model.specs.Name.{IsEventName, IsClockName}
use Rattle.problem_model.specs.ProblemText.{most_word}
use Rattle.problem.specs.Line.{NumbersFit, HasClock, HasEvent, problem_format}
use Rattle.problem.specs.Line.Line.{ClockLine, FollowLine, MessageLine}
use Rattle.problem.specs.declared.words.ClockWords.{ClockWords}
use Rattle.problem.specs.declared.words.FollowWords.{FollowWords}
use Rattle.problem.specs.declared.words.EventWords.{EventWords}
use Rattle.problem.specs.declared.words.OwnWords.{OwnWords}
use Rattle.problem.specs.declared.ranges.OwnStamp.{OwnStamp}
use Rattle.problem.specs.declared.version.Version.{Version}
use Rattle.problem.specs.declared.words.MessageWords.{MessageWords}

-- the text spells m, which is held as n
pub record Spells (text : List ℕ) (n : Option ℕ) : Type 0 where
  pub m : ℕ
  pub is : text ≡ decimal_of m
  pub counts : Counts (2 ^ 64) m n

-- the text spells no number
abbrev pub SpellsNone : List ℕ → Type 0
SpellsNone text = (m : ℕ) → text ≡ decimal_of m → ⊥

-- what the words behind `clock` say, word by word
pub record ClockParts (name short long early late : List ℕ) (w : ClockWords) : Type 0 where
  pub name_is : name ≡ w.name
  pub named : IsClockName w.name
  pub short_is : Spells short w.short
  pub long_is : Spells long w.long
  pub early_is : Spells early w.early
  pub late_is : Spells late w.late

-- the words of a clock's line behind the first
abbrev pub clock_rest : List ℕ → ℕ → ℕ → ℕ → ℕ → List ℕ
clock_rest name s l e t = words (name ∷ decimal_of s ∷ decimal_of l ∷ decimal_of e ∷ decimal_of t ∷ [])

-- the words behind `clock` are those of w
pub record ClockSays (rest : List ℕ) (w : ClockWords) : Type 0 where
  pub short : ℕ
  pub long : ℕ
  pub early : ℕ
  pub late : ℕ
  pub named : IsClockName w.name
  pub is : rest ≡ clock_rest w.name short long early late
  pub short_is : Counts (2 ^ 64) short w.short
  pub long_is : Counts (2 ^ 64) long w.long
  pub early_is : Counts (2 ^ 64) early w.early
  pub late_is : Counts (2 ^ 64) late w.late

-- the words behind `clock` are no clock's
abbrev pub NoClock : List ℕ → Type 0
NoClock rest = (name : List ℕ) (s l e t : ℕ) → IsClockName name → rest ≡ clock_rest name s l e t → ⊥

-- what the words behind `follow` say, word by word
pub record FollowParts (earlier later gap : List ℕ) (w : FollowWords) : Type 0 where
  pub earlier_is : earlier ≡ w.earlier
  pub earlier_named : IsClockName w.earlier
  pub later_is : later ≡ w.later
  pub later_named : IsClockName w.later
  pub gap_is : Spells gap w.gap

-- the words of a follow's line behind the first
abbrev pub follow_rest : List ℕ → List ℕ → ℕ → List ℕ
follow_rest earlier later gap = words (earlier ∷ later ∷ decimal_of gap ∷ [])

-- the words behind `follow` are those of w
pub record FollowSays (rest : List ℕ) (w : FollowWords) : Type 0 where
  pub gap : ℕ
  pub earlier_named : IsClockName w.earlier
  pub later_named : IsClockName w.later
  pub is : rest ≡ follow_rest w.earlier w.later gap
  pub gap_is : Counts (2 ^ 64) gap w.gap

-- the words behind `follow` are no follow's
abbrev pub NoFollow : List ℕ → Type 0
NoFollow rest = (earlier later : List ℕ) (gap : ℕ) → IsClockName earlier → IsClockName later → rest ≡ follow_rest earlier later gap → ⊥

-- what the words behind `event` say, word by word
pub record EventParts (name clock stamp : List ℕ) (w : EventWords) : Type 0 where
  pub name_is : name ≡ w.name
  pub named : IsEventName w.name
  pub clock_is : clock ≡ w.clock
  pub clock_named : IsClockName w.clock
  pub stamp_is : Spells stamp w.stamp

-- the words of an event's line behind the first
abbrev pub event_rest : List ℕ → List ℕ → ℕ → List ℕ
event_rest name clock stamp = words (name ∷ clock ∷ decimal_of stamp ∷ [])

-- the words behind `event` are those of w
pub record EventSays (rest : List ℕ) (w : EventWords) : Type 0 where
  pub stamp : ℕ
  pub named : IsEventName w.name
  pub clock_named : IsClockName w.clock
  pub is : rest ≡ event_rest w.name w.clock stamp
  pub stamp_is : Counts (2 ^ 64) stamp w.stamp

-- the words behind `event` are no event's
abbrev pub NoEvent : List ℕ → Type 0
NoEvent rest = (name clock : List ℕ) (stamp : ℕ) → IsEventName name → IsClockName clock → rest ≡ event_rest name clock stamp → ⊥

-- what the words behind `event` say, word by word, where the event has bounds of its own
pub record OwnParts (name clock stamp early late : List ℕ) (w : OwnWords) : Type 0 where
  pub name_is : name ≡ w.name
  pub named : IsEventName w.name
  pub clock_is : clock ≡ w.clock
  pub clock_named : IsClockName w.clock
  pub stamp_is : Spells stamp w.stamp
  pub early_is : Spells early w.early
  pub late_is : Spells late w.late

-- the words of such a line behind the first
abbrev pub own_rest : List ℕ → List ℕ → ℕ → ℕ → ℕ → List ℕ
own_rest name clock s e t = words (name ∷ clock ∷ decimal_of s ∷ decimal_of e ∷ decimal_of t ∷ [])

-- the words behind `event` are those of w
pub record OwnSays (rest : List ℕ) (w : OwnWords) : Type 0 where
  pub stamp : ℕ
  pub early : ℕ
  pub late : ℕ
  pub named : IsEventName w.name
  pub clock_named : IsClockName w.clock
  pub is : rest ≡ own_rest w.name w.clock stamp early late
  pub stamp_is : Counts (2 ^ 64) stamp w.stamp
  pub early_is : Counts (2 ^ 64) early w.early
  pub late_is : Counts (2 ^ 64) late w.late

-- the words behind `event` are those of no event with bounds of its own
abbrev pub NoOwn : List ℕ → Type 0
NoOwn rest = (name clock : List ℕ) (s e t : ℕ) → IsEventName name → IsClockName clock → rest ≡ own_rest name clock s e t → ⊥

-- the greatest delay m of a message, or that there is none, is held as n
abbrev pub MostCounts : Option ℕ → Option (Option ℕ) → Type 0
MostCounts None n = n ≡ None
MostCounts (Some m) n = (k : Option ℕ) × (n ≡ Some k) × Counts (2 ^ 64) m k

-- the text spells a greatest delay or none, which is held as n
pub record SpellsMost (text : List ℕ) (n : Option (Option ℕ)) : Type 0 where
  pub m : Option ℕ
  pub is : text ≡ most_word m
  pub counts : MostCounts m n

-- what the words behind `message` say, word by word
pub record MessageParts (send receive least most : List ℕ) (w : MessageWords) : Type 0 where
  pub send_is : send ≡ w.send
  pub send_named : IsEventName w.send
  pub receive_is : receive ≡ w.receive
  pub receive_named : IsEventName w.receive
  pub least_is : Spells least w.least
  pub most_is : SpellsMost most w.most

-- the words of a message's line behind the first
abbrev pub message_rest : List ℕ → List ℕ → ℕ → Option ℕ → List ℕ
message_rest send receive least most = words (send ∷ receive ∷ decimal_of least ∷ most_word most ∷ [])

-- the words behind `message` are those of w
pub record MessageSays (rest : List ℕ) (w : MessageWords) : Type 0 where
  pub least : ℕ
  pub most : Option ℕ
  pub send_named : IsEventName w.send
  pub receive_named : IsEventName w.receive
  pub is : rest ≡ message_rest w.send w.receive least most
  pub least_is : Counts (2 ^ 64) least w.least
  pub most_is : MostCounts most w.most

-- the words behind `message` are no message's
abbrev pub NoMessage : List ℕ → Type 0
NoMessage rest = (send receive : List ℕ) (l : ℕ) (m : Option ℕ) → IsEventName send → IsEventName receive → rest ≡ message_rest send receive l m → ⊥

-- ---- the numbers in their ranges
-- w holds these numbers of a clock
abbrev pub SaysClock : ClockWords → ℕ → ℕ → ℕ → ℕ → Type 0
SaysClock w s l e t = Counts (2 ^ 64) s w.short × Counts (2 ^ 64) l w.long × Counts (2 ^ 64) e w.early × Counts (2 ^ 64) t w.late

-- the clock of these numbers, or None where they do not fit
abbrev pub ClockIs : Option Clock → List ℕ → ℕ → ℕ → ℕ → ℕ → Type 0
ClockIs clock name s l e t = SomeIff clock (NumbersFit (ClockLine name s l e t)) (record { name = name; rate = record { short = s; long = l }; early = e; late = t })

-- w holds these numbers of an event with bounds of its own
abbrev pub SaysOwn : OwnWords → ℕ → ℕ → ℕ → Type 0
SaysOwn w s e t = Counts (2 ^ 64) s w.stamp × Counts (2 ^ 64) e w.early × Counts (2 ^ 64) t w.late

-- the stamp of these numbers and its bounds, or None where they do not fit
abbrev pub OwnIs : Option OwnStamp → ℕ → ℕ → ℕ → Type 0
OwnIs own s e t = SomeIff own ((s < 2 ^ 62) × (e < 2 ^ 62) × (t < 2 ^ 62)) (record { stamp = s; bounds = record { early = e; late = t } })

-- the number, or None where it is 2 ^ 62 or more
abbrev pub NanoIs : Option ℕ → ℕ → Type 0
NanoIs n m = SomeIff n (m < 2 ^ 62) m

-- the greatest delay, or None where it is a number of 2 ^ 62 or more
abbrev pub MostIs : Option (Option ℕ) → Option ℕ → Type 0
MostIs n m = SomeIff n (IfSome m (λ k. k < 2 ^ 62)) m

-- a clock of these parts, where all of them are in range
abbrev pub joined : List ℕ → Option RateParts → Option ℕ → Option ℕ → Option Clock
joined name rate early late = do
  r ← rate
  e ← early
  t ← late
  Some (record { name = name; rate = r; early = e; late = t })

-- a stamp of these parts, where all of them are in range
abbrev pub joined_own : Option ℕ → Option ℕ → Option ℕ → Option OwnStamp
joined_own stamp early late = do
  s ← stamp
  e ← early
  t ← late
  Some (record { stamp = s; bounds = record { early = e; late = t } })

-- why no message may stand between the events at s and r whose numbers are out of their ranges
abbrev pub RefusesDelays : ProblemLists → ℕ → ℕ → LineError → Type 0
RefusesDelays p s r e = (version : Version) (x y : List ℕ) (l : ℕ) (m : Option ℕ) → HasEvent p s x → HasEvent p r y → (NumbersFit (MessageLine x y l m) → ⊥)
    → TakesLine (problem_format version) p (MessageLine x y l m) (Err e) p

-- why no follow may lead from the clock at c to that at d whose gap is out of its range
abbrev pub RefusesGap : ProblemLists → ℕ → ℕ → LineError → Type 0
RefusesGap p c d e = (version : Version) (x y : List ℕ) (gap : ℕ) → HasClock p c x → HasClock p d y → (NumbersFit (FollowLine x y gap) → ⊥)
    → TakesLine (problem_format version) p (FollowLine x y gap) (Err e) p

-- ---- the texts of the forms, by what follows their first word
-- the line of a clock
abbrev pub clock_body : List ℕ → List ℕ
clock_body rest = codes "clock" ++ 32 ∷ rest

-- the line of a follow
abbrev pub follow_body : List ℕ → List ℕ
follow_body rest = codes "follow" ++ 32 ∷ rest

-- the line of an event
abbrev pub event_body : List ℕ → List ℕ
event_body rest = codes "event" ++ 32 ∷ rest

-- the line of a message
abbrev pub message_body : List ℕ → List ℕ
message_body rest = codes "message" ++ 32 ∷ rest
