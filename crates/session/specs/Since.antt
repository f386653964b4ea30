-- How long packets were after one event, in any execution.
use Rattle.std.specs.Prelude.{◌≡◌, ◌⊎◌, ℕ, List, [], length, slice_get, Option, Some, None}
use Rattle.problem_model.specs.Bounds.{Times}
use Rattle.problem_model.specs.Solutions.{IsEarliestExecution}
use Rattle.decl.specs.Declaration.{Declaration}
use Rattle.intervals.specs.declared.ends.Ends.{Ends}
use Rattle.mergecap.specs.MergedCapture.{Timed}
use Rattle.traces.specs.Seen.{Seen}
use Rattle.traces.specs.declared.event_id.EventId.{EventId}
use Rattle.traces.specs.Traces.{Placed, events_of, name_of}
use Rattle.traces.specs.Messages.{place_of, problem_of_seen}
use Rattle.replies.specs.AllTimes.{AreEndsSince}
use Rattle.replies.specs.Reply.{IsPlacedAt}
use Rattle.session.specs.Dates.{IsFirstEvent}
use Rattle.session.specs.Settled.{event_of}

-- the event at the place comes first in the merge, as the one by which dates begin
pub record IsFirstOfAll (d : Declaration) (seen : List (List Seen)) (place : ℕ) (event : EventId) : Type 0 where
  pub times : Times
  pub earliest : IsEarliestExecution (problem_of_seen d seen) times
  pub placed : Placed
  pub first : IsFirstEvent times (events_of seen) place placed
  pub is : placed.id ≡ event

-- the event at the place is the one that times are counted from: the one of this name, or where none is named the first of all
abbrev pub IsOrigin : Declaration → List (List Seen) → Option (List ℕ) → ℕ → EventId → Type 0
IsOrigin d seen None place event = IsFirstOfAll d seen place event
IsOrigin d seen (Some name) place event = IsPlacedAt seen place event × (name_of d event ≡ name)

-- each packet has the least and the greatest real time from the event at the place to its own, over all executions
pub record AreEndsFrom (d : Declaration) (seen : List (List Seen)) (first : ℕ) (ts : List Timed) (all : List Ends) : Type 0 where
  pub each : length all ≡ length ts
  pub are : (k : ℕ) (t : Timed) (ends : Ends) → slice_get ts k ≡ Some t → slice_get all k ≡ Some ends
      → AreEndsSince (problem_of_seen d seen) first (place_of (events_of seen) (event_of t)) ends

-- they have those from the one event that times are counted from; without any event there is no packet
abbrev pub AreCountedFrom : Declaration → List (List Seen) → Option (List ℕ) → List Timed → EventId → List Ends → Type 0
AreCountedFrom d seen name ts event all = ((place : ℕ) × IsOrigin d seen name place event × AreEndsFrom d seen place ts all)
    ⊎ ((events_of seen ≡ []) × (name ≡ None) × (ts ≡ []) × (all ≡ []))
