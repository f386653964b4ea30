-- The text of a problem.
use Rattle.std.specs.Prelude.{ℕ, List, [], ◌∷◌, ◌++◌, slice_get, Option, Some, None, is_some, Bool, if◌then◌else◌, codes}
use Rattle.std.specs.List.{flat_map, list_any}
use Rattle.atto.specs.Decimal.{decimal_of}
use Rattle.line_format.specs.Words.{line_of}
use Rattle.problem_model.specs.declared.items.Clock.{Clock}
use Rattle.problem_model.specs.declared.items.Follow.{Follow}
use Rattle.problem_model.specs.declared.items.Event.{Event}
use Rattle.problem_model.specs.declared.items.StampBounds.{StampBounds}
use Rattle.problem_model.specs.declared.items.Message.{Message}
use Rattle.problem_model.specs.Problem.{ProblemLists}

-- the words of the first line, where no clock follows another
abbrev pub problem_head : List (List ℕ)
problem_head = codes "problem" ∷ codes "1" ∷ []

-- the words of the first line, where some clock follows another
abbrev pub followed_head : List (List ℕ)
followed_head = codes "problem" ∷ codes "2" ∷ []

-- the words of the first line, where events have bounds of their own
abbrev pub own_head : List (List ℕ)
own_head = codes "problem" ∷ codes "3" ∷ []

-- the words of the first line of a problem with these follows, where no event has bounds of its own
abbrev pub plain_head : List Follow → List (List ℕ)
plain_head [] = problem_head
plain_head (f ∷ follows) = followed_head

-- some event has bounds of its own
abbrev pub have_bounds : List Event → Bool
have_bounds events = list_any (λ (e : Event). is_some e.bounds) events

-- the words of the first line of a problem with these follows and these events
abbrev pub head_words : List Follow → List Event → List (List ℕ)
head_words follows events = if have_bounds events then own_head else plain_head follows

-- the line of a clock
abbrev pub clock_line : Clock → List ℕ
clock_line c = line_of (codes "clock" ∷ c.name ∷ decimal_of c.rate.short ∷ decimal_of c.rate.long ∷ decimal_of c.early ∷ decimal_of c.late ∷ [])

-- the name of the clock at a place
abbrev pub clock_name : List Clock → ℕ → List ℕ
clock_name clocks k = option_name (slice_get clocks k)
  where
    option_name : Option Clock → List ℕ
    option_name None = []
    option_name (Some c) = c.name

-- the line of a follow, with the names of its clocks
abbrev pub follow_line : List Clock → Follow → List ℕ
follow_line clocks f = line_of (codes "follow" ∷ clock_name clocks f.earlier ∷ clock_name clocks f.later ∷ decimal_of f.gap ∷ [])

-- the name of the event at a place
abbrev pub event_name : List Event → ℕ → List ℕ
event_name events k = option_name (slice_get events k)
  where
    option_name : Option Event → List ℕ
    option_name None = []
    option_name (Some e) = e.name

-- the words of an event's own bounds
abbrev pub bound_words : Option StampBounds → List (List ℕ)
bound_words None = []
bound_words (Some own) = decimal_of own.early ∷ decimal_of own.late ∷ []

-- the line of an event, with the name of its clock, and with its own bounds where it has them
abbrev pub event_line : List Clock → Event → List ℕ
event_line clocks e = line_of (codes "event" ∷ e.name ∷ clock_name clocks e.clock ∷ decimal_of e.stamp ∷ bound_words e.bounds)

-- the greatest delay, or that there is none
abbrev pub most_word : Option ℕ → List ℕ
most_word None = codes "none"
most_word (Some n) = decimal_of n

-- the line of a message, with the names of its events
abbrev pub message_line : List Event → Message → List ℕ
message_line events m = line_of (codes "message" ∷ event_name events m.send ∷ event_name events m.receive ∷ decimal_of m.least ∷ most_word m.most ∷ [])

-- the only text of a problem
abbrev pub problem_text : ProblemLists → List ℕ
problem_text p = line_of (head_words p.follows p.events) ++ flat_map clock_line p.clocks ++ (flat_map (follow_line p.clocks) p.follows ++ flat_map (event_line p.clocks) p.events)
    ++ flat_map (message_line p.events) p.messages ++ line_of (codes "end" ∷ [])
