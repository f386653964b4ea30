-- What may be added to a problem, by its names and places (`IsNew..`) and by the room, and what the problem then is.
use Rattle.std.specs.Prelude.{ℕ, ◌≡◌, ◌≢◌, ◌<◌, ◌⊎◌, Contains, List, [], ◌∷◌, ◌++◌, All, length, is_some, Result, Ok, Err}
use Rattle.problem_model.specs.declared.items.Clock.{Clock}
use Rattle.problem_model.specs.declared.items.Follow.{Follow}
use Rattle.problem_model.specs.declared.items.Event.{Event}
use Rattle.problem_model.specs.declared.items.Message.{Message}
use Rattle.problem_model.specs.Name.{IsClockName}
use Rattle.problem_model.specs.Problem.{ProblemLists, LeadsOn}
use Rattle.problem_model.specs.Nodes.{Reading}
use Rattle.problem_model.specs.Limits.{most_clocks, most_events, most_messages}
use Rattle.problem.specs.declared.errors.PushError.{PushError}
use Rattle.problem.specs.declared.errors.PushError.TheVariants as errors

-- the name is a clock name, and that of no clock
pub record IsNewClock (p : ProblemLists) (c : Clock) : Type 0 where
  pub named : IsClockName c.name
  pub new : All (λ k. k.name ≢ c.name) p.clocks

-- both clocks are known, the earlier one stands before the later, and no follow has the one as its earlier clock or the other
-- as its later one
pub record IsNewFollow (p : ProblemLists) (f : Follow) : Type 0 where
  pub leads : LeadsOn p.clocks f
  pub earlier_new : All (λ g. g.earlier ≢ f.earlier) p.follows
  pub later_new : All (λ g. g.later ≢ f.later) p.follows

-- the name is that of no event, the clock is known, and it has bounds of its own where the events there have, and none
-- where they have none
pub record IsNewEvent (p : ProblemLists) (e : Event) : Type 0 where
  pub new : All (λ x. x.name ≢ e.name) p.events
  pub clock : e.clock < length p.clocks
  pub alike : All (λ x. is_some x.bounds ≡ is_some e.bounds) p.events

-- both places are those of events, of two, and no message goes from the one to the other
pub record IsNewPair (p : ProblemLists) (send receive : ℕ) : Type 0 where
  pub sends : send < length p.events
  pub receives : receive < length p.events
  pub two_ends : send ≢ receive
  pub new : All (λ m. (m.send ≡ send) → (m.receive ≡ receive) → ⊥) p.messages

-- a message of a new pair
abbrev pub IsMessageOfNewPair : ProblemLists → Message → Type 0
IsMessageOfNewPair p m = IsNewPair p m.send m.receive

-- there is room for one more
abbrev pub HasRoomForClock : ProblemLists → Type 0
HasRoomForClock p = length p.clocks < most_clocks

abbrev pub HasRoomForEvent : ProblemLists → Type 0
HasRoomForEvent p = length p.events < most_events

abbrev pub HasRoomForMessage : ProblemLists → Type 0
HasRoomForMessage p = length p.messages < most_messages

-- the problem with one clock more, at the end of its list
abbrev pub with_clock : ProblemLists → Clock → ProblemLists
with_clock p c = record p { clocks = p.clocks ++ c ∷ [] }

-- the problem with one event more, at the end of its list
abbrev pub with_event : ProblemLists → Event → ProblemLists
with_event p e = record p { events = p.events ++ e ∷ [] }

-- the problem with one message more, at the end of its list
abbrev pub with_message : ProblemLists → Message → ProblemLists
with_message p m = record p { messages = p.messages ++ m ∷ [] }

-- whether one more may be added: first by its names, then by the room
abbrev pub Allows : Type 0 → Type 0 → Result (Unit {0}) PushError → Type 0
Allows IsNew HasRoom (Ok _) = IsNew × HasRoom
Allows IsNew HasRoom (Err errors.Name) = IsNew → ⊥
Allows IsNew HasRoom (Err errors.Limit) = IsNew × (HasRoom → ⊥)
Allows IsNew HasRoom (Err errors.Memory) = ⊥

-- the reading of an event
abbrev pub reading_of : Event → Reading
reading_of e = (e.clock, e.stamp)

-- the readings with one more, where it is new
pub record AddsReading (old new : List Reading) (reading : Reading) : Type 0 where
  pub kept : (r : Reading) → Contains old r → Contains new r
  pub added : Contains new reading
  pub only : (r : Reading) → Contains new r → Contains old r ⊎ (r ≡ reading)
