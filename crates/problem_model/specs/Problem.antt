-- A problem and the rules that it meets.
use Rattle.std.specs.Prelude.{◌≡◌, ◌≢◌, ℕ, ◌^◌, ◌<◌, ◌≤◌, List, [], length, is_some, IfSome, AllPairs, All}
use Rattle.problem_model.specs.declared.items.Clock.{Clock}
use Rattle.problem_model.specs.declared.items.Follow.{Follow}
use Rattle.problem_model.specs.declared.items.Event.{Event}
use Rattle.problem_model.specs.declared.items.Message.{Message}
use Rattle.problem_model.specs.Name.{IsEventName, IsClockName}
use Rattle.problem_model.specs.Limits.{most_clocks, most_events, most_messages}

-- what a problem says: clocks, follows, events, messages. A follow has the places of two clocks and a gap, an event the
-- place of its clock, a message the places of its two events
pub record ProblemLists : Type 0 where
  pub clocks : List Clock
  pub follows : List Follow
  pub events : List Event
  pub messages : List Message

-- the problem that says nothing
abbrev pub empty_problem : ProblemLists
empty_problem = record { clocks = []; follows = []; events = []; messages = [] }

-- the numbers of a clock are in their ranges
abbrev pub ClockFits : Clock → Type 0
ClockFits c = (c.rate.short ≤ 999999999) × (c.rate.long ≤ 1000000000) × (c.early < 2 ^ 62) × (c.late < 2 ^ 62)

-- so are those of an event
abbrev pub EventFits : Event → Type 0
EventFits e = (e.stamp < 2 ^ 62) × IfSome e.bounds (λ own. (own.early < 2 ^ 62) × (own.late < 2 ^ 62))

-- so are those of a message
abbrev pub MessageFits : Message → Type 0
MessageFits m = (m.least < 2 ^ 62) × IfSome m.most (λ most. most < 2 ^ 62)

-- a follow leads from one clock to another that stands behind it
abbrev pub LeadsOn : List Clock → Follow → Type 0
LeadsOn clocks f = (f.earlier < f.later) × (f.later < length clocks)

-- follows make chains, as the short list needs: they lead on in the list of clocks, and no clock is the later of two
pub record IsChained (p : ProblemLists) : Type 0 where
  pub follow_ends : All (LeadsOn p.clocks) p.follows
  pub laters_differ : AllPairs (λ a b. a.later ≢ b.later) p.follows

-- names are spelled as names and tell clocks and events apart, each place is one of its list, follows make chains in which
-- no clock is the earlier or the later of two, and a message joins two events, no other one the same two in this order
pub record IsWellFormed (p : ProblemLists) : Type 0 where
  pub clock_names : All (λ c. IsClockName c.name) p.clocks
  pub clocks_differ : AllPairs (λ a b. a.name ≢ b.name) p.clocks
  pub follow_ends : All (LeadsOn p.clocks) p.follows
  pub earliers_differ : AllPairs (λ a b. a.earlier ≢ b.earlier) p.follows
  pub laters_differ : AllPairs (λ a b. a.later ≢ b.later) p.follows
  pub event_names : All (λ e. IsEventName e.name) p.events
  pub events_differ : AllPairs (λ a b. a.name ≢ b.name) p.events
  pub bounds_alike : AllPairs (λ a b. is_some a.bounds ≡ is_some b.bounds) p.events
  pub event_clocks : All (λ e. e.clock < length p.clocks) p.events
  pub sends : All (λ m. m.send < length p.events) p.messages
  pub receives : All (λ m. m.receive < length p.events) p.messages
  pub two_ends : All (λ m. m.send ≢ m.receive) p.messages
  pub messages_differ : AllPairs (λ a b. (a.send ≡ b.send) → (a.receive ≡ b.receive) → ⊥) p.messages

-- numbers are in their ranges, and there are not too many clocks, events and messages
pub record FitsLimits (p : ProblemLists) : Type 0 where
  pub clocks_fit : All ClockFits p.clocks
  pub clock_limit : length p.clocks ≤ most_clocks
  pub gaps_fit : All (λ f. f.gap < 2 ^ 62) p.follows
  pub events_fit : All EventFits p.events
  pub event_limit : length p.events ≤ most_events
  pub messages_fit : All MessageFits p.messages
  pub message_limit : length p.messages ≤ most_messages

-- a problem: what its names and places need, and its numbers and limits
pub record IsProblem (p : ProblemLists) : Type 0 where
  pub formed : IsWellFormed p
  pub fits : FitsLimits p
