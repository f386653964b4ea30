-- The problem that events and messages under a declaration make.
use Rattle.std.specs.Prelude.{◌≡◌, ◌≢◌, ◌^◌, ◌<◌, ◌≤◌, List, map, length, All, AllPairs, Contains}
use Rattle.problem_model.specs.Problem.{ProblemLists}
use Rattle.problem_model.specs.Limits.{most_events}
use Rattle.decl.specs.Declaration.{Declaration, follows_of}
use Rattle.traces.specs.declared.event_id.EventId.{EventId}
use Rattle.traces.specs.declared.event_id.Couple.{Couple}
use Rattle.traces.specs.Seen.{Seen}
use Rattle.traces.specs.Traces.{Placed}
use Rattle.traces.specs.Messages.{event_with, linked}

-- the clocks of all hosts, a follow for each two neighbouring clocks of a host, these events and these messages
abbrev pub problem_by : Declaration → List Placed → List Couple → ProblemLists
problem_by d events couples = record { clocks = d.clocks; follows = follows_of d; events = map (event_with d) events; messages = map (linked d events) couples }

-- one of these events goes by this id
abbrev pub IsOneOf : List Placed → EventId → Type 0
IsOneOf events id = (e : Placed) × Contains events e × (e.id ≡ id)

-- each event has a label of the declaration and a number that is not too large; no two are one, and there are not too many
pub record AreEventsOf (d : Declaration) (events : List Placed) : Type 0 where
  pub labels : All (λ e. e.id.label < length d.labels) events
  pub numbers : All (λ e. e.id.number ≤ most_events) events
  pub differ : AllPairs (λ a b. a.id ≢ b.id) events
  pub limit : length events ≤ most_events

-- each message goes from one of these events to another; no two have one send, so there are not too many
pub record AreMessages (events : List Placed) (couples : List Couple) : Type 0 where
  pub sends : All (λ m. IsOneOf events m.send) couples
  pub receives : All (λ m. IsOneOf events m.receive) couples
  pub two_ends : All (λ m. m.send ≢ m.receive) couples
  pub differ : AllPairs (λ a b. a.send ≢ b.send) couples
  pub limit : length couples ≤ most_events

-- every stamp is in its range
abbrev pub StampsFit : List (List Seen) → Type 0
StampsFit seen = All (λ rows. All (λ s. s.stamp < 2 ^ 62) rows) seen
