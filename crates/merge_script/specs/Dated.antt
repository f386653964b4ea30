-- The packets of a script, merged and dated, and the file of them.
use Rattle.std.specs.Prelude.{◌≡◌, ◌⊎◌, ℕ, List, [], ◌∷◌, ◌++◌, Option, Some, None, IfSome, IsSomeAnd, true, false, Any, ℤ}
use Rattle.problem_model.specs.Problem.{ProblemLists}
use Rattle.problem.specs.Line.{HasEvent, IsUnknown}
use Rattle.intervals.specs.declared.ends.Ends.{Ends}
use Rattle.decl.specs.Declaration.{Declaration}
use Rattle.mergecap.specs.MergedCapture.{Timed}
use Rattle.merged_blocks.specs.declared.dates.DateError.{DateError}
use Rattle.merged_blocks.specs.declared.dates.DateError.TheVariants as errors
use Rattle.merged_blocks.specs.declared.taps.Tap.{Tap}
use Rattle.merged_blocks.specs.Taps.{AreTapsOf}
use Rattle.merged_blocks.specs.MergedFile.{HasManyTaps, HasNoStamp, IsDateFault}
use Rattle.traces.specs.Seen.{Seen}
use Rattle.traces.specs.Traces.{events_of}
use Rattle.traces.specs.declared.event_id.EventId.{EventId}
use Rattle.traces.specs.Messages.{problem_of_seen}
use Rattle.queries.specs.Consistent.{IsConsistent}
use Rattle.replies.specs.declared.refusal.Refusal.TheVariants.{UnknownEvent}
use Rattle.replies.specs.Refusals.{refusal_line}
use Rattle.replies.specs.Reply.{IsPlacedAt}
use Rattle.session.specs.Dates.{AreDatedBy}
use Rattle.session.specs.Since.{AreCountedFrom, IsOrigin}
use Rattle.session.specs.Settled.{AreSettled}
use Rattle.session.specs.Script.{Devices, OfScript}
use Rattle.merge_script.specs.declared.unmerged.Unmerged.{Unmerged}
use Rattle.merge_script.specs.declared.unmerged.Unmerged.TheVariants as ends
use Rattle.merge_script.specs.Merged.{IsMergeOf, OfAllAdded}
use Rattle.merge_script.specs.Turns.{GathersNone}

-- these packets in the order of their events' times in the earliest execution; their dates are so much later; and their taps
pub record IsDatedMergeOf (d : Declaration) (seen : List (List Seen)) (all ordered : List Timed) (taps : List Tap) (shift : ℤ) : Type 0 where
  pub merge : IsMergeOf d seen all ordered
  pub dates : AreDatedBy d seen shift
  pub taps_are : AreTapsOf ordered taps

-- the same, and how long each was after one event: that of the name, or where none is given the first of all
pub record IsCountedMergeOf (d : Declaration) (seen : List (List Seen)) (name : Option (List ℕ)) (all ordered : List Timed) (taps : List Tap) (shift : ℤ) (since : EventId) (each : List Ends) : Type 0 where
  pub dated : IsDatedMergeOf d seen all ordered taps shift
  pub counted : AreCountedFrom d seen name ordered since each

-- some packet's date has no stamp
pub record LacksStamp (d : Declaration) (seen : List (List Seen)) (all : List Timed) : Type 0 where
  pub settled : List Timed
  pub at_times : AreSettled d seen all settled
  pub shift : ℤ
  pub dates : AreDatedBy d seen shift
  pub without : Any (HasNoStamp shift) settled

-- an event of the problem has the name, where one is given
abbrev pub KnowsEvent : ProblemLists → Option (List ℕ) → Type 0
KnowsEvent p name = IfSome name (λ event. (place : ℕ) × HasEvent p place event)

-- no event has the name, and the reply is the refusal for that
abbrev pub IsRefusedEvent : ProblemLists → Option (List ℕ) → List ℕ → Type 0
IsRefusedEvent p name reply = IsSomeAnd name (IsUnknown p) × (reply ++ 10 ∷ [] ≡ refusal_line UnknownEvent)

-- ---- the event that times are counted from
-- this one is; or there is none, where none is named and there is no event at all
abbrev pub IsOriginFor : Declaration → List (List Seen) → Option (List ℕ) → Option EventId → Type 0
IsOriginFor d seen name None = (events_of seen ≡ []) × (name ≡ None)
IsOriginFor d seen name (Some event) = (place : ℕ) × IsOrigin d seen name place event × IsPlacedAt seen place event × KnowsEvent (problem_of_seen d seen) name

-- ---- why there is no file
-- why there is no file of these packets: no execution; or one, and no event of the name; or both, and a date without a stamp or too
-- many taps; want of memory says nothing
abbrev pub LacksFile : Declaration → List (List Seen) → Option (List ℕ) → List Timed → Unmerged → Type 0
LacksFile d seen name all (ends.Refused said) = IsConsistent (problem_of_seen d seen) true × IsRefusedEvent (problem_of_seen d seen) name said.items
LacksFile d seen name all ends.Size = ⊥
LacksFile d seen name all ends.Inconsistent = IsConsistent (problem_of_seen d seen) false
LacksFile d seen name all ends.Links = ⊥
LacksFile d seen name all ends.Range = IsConsistent (problem_of_seen d seen) true × KnowsEvent (problem_of_seen d seen) name × (LacksStamp d seen all ⊎ HasManyTaps all)
LacksFile d seen name all ends.ReadFault = ⊥
LacksFile d seen name all ends.Limit = ⊥
LacksFile d seen name all ends.Memory = Unit {0}

-- the file of all packets of the script has these packets, with these taps and dates so much later, each so long after this event
abbrev pub MergesDated : Declaration → Option (List ℕ) → Devices → Devices → List Timed → List Tap → ℤ → EventId → List Ends → Type 0
MergesDated d name old new ordered taps shift since each =
    OfScript old.input.left (OfAllAdded d old new (λ seen all. IsCountedMergeOf d seen name all ordered taps shift since each))

-- why there is none
abbrev pub DatesNot : Declaration → Option (List ℕ) → Devices → Devices → Unmerged → Type 0
DatesNot d name old new (ends.Refused said) =
    GathersNone d old new (ends.Refused said) ⊎ OfScript old.input.left (OfAllAdded d old new (λ seen all. LacksFile d seen name all (ends.Refused said)))
DatesNot d name old new ends.Size = GathersNone d old new ends.Size
DatesNot d name old new ends.Inconsistent = OfScript old.input.left (OfAllAdded d old new (λ seen all. LacksFile d seen name all ends.Inconsistent))
DatesNot d name old new ends.Links = ⊥
DatesNot d name old new ends.Range = OfScript old.input.left (OfAllAdded d old new (λ seen all. LacksFile d seen name all ends.Range))
DatesNot d name old new ends.ReadFault = GathersNone d old new ends.ReadFault
DatesNot d name old new ends.Limit = GathersNone d old new ends.Limit
DatesNot d name old new ends.Memory = Unit {0}

-- ---- faults of dates
-- what such a fault is here
abbrev pub undated : DateError → Unmerged
undated errors.Range = ends.Range
undated errors.Memory = ends.Memory

-- these packets have no dates for such a fault
abbrev pub IsUndated : List Timed → ℤ → Unmerged → Type 0
IsUndated ts shift why = (e : DateError) × IsDateFault ts shift e × (why ≡ undated e)
