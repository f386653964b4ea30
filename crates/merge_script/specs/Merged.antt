-- The packets of a script, merged.
use Rattle.std.specs.Prelude.{◌≡◌, ℕ, List, true, false, Any}
use Rattle.decl.specs.Declaration.{Declaration}
use Rattle.mergecap.specs.declared.errors.ArrangeError.{ArrangeError}
use Rattle.mergecap.specs.declared.errors.ArrangeError.TheVariants as errors
use Rattle.mergecap.specs.MergedCapture.{Timed, HasNoRecord, IsArranged, IsFault, HasOneLink, HasTwoLinks}
use Rattle.traces.specs.Seen.{Seen}
use Rattle.traces.specs.Traces.{seen_by}
use Rattle.traces.specs.Messages.{problem_of_seen}
use Rattle.queries.specs.Consistent.{IsConsistent}
use Rattle.replies.specs.Reply.{State}
use Rattle.session.specs.Settled.{AreSettled}
use Rattle.session.specs.Script.{Devices, OfScript}
use Rattle.merge_script.specs.declared.unmerged.Unmerged.{Unmerged}
use Rattle.merge_script.specs.declared.unmerged.Unmerged.TheVariants as ends
use Rattle.merge_script.specs.Gathered.{AreAllOf, AddsScript}
use Rattle.merge_script.specs.Turns.{GathersNone}

-- these packets in the order of their events' times in the earliest execution
pub record IsMergeOf (d : Declaration) (seen : List (List Seen)) (all ordered : List Timed) : Type 0 where
  pub settled : List Timed
  pub at_times : AreSettled d seen all settled
  pub arranged : IsArranged settled ordered

-- some packet's time has no record, and all have one link type
pub record LacksRecord (d : Declaration) (seen : List (List Seen)) (all : List Timed) : Type 0 where
  pub one_link : HasOneLink all
  pub settled : List Timed
  pub at_times : AreSettled d seen all settled
  pub without : Any HasNoRecord settled

-- why these packets have no merge: no execution, or one and two link types, or one link type and a late time; want of
-- memory says nothing
abbrev pub LacksMerge : Declaration → List (List Seen) → List Timed → Unmerged → Type 0
LacksMerge d seen all (ends.Refused said) = ⊥
LacksMerge d seen all ends.Size = ⊥
LacksMerge d seen all ends.Inconsistent = IsConsistent (problem_of_seen d seen) false
LacksMerge d seen all ends.Links = IsConsistent (problem_of_seen d seen) true × HasTwoLinks all
LacksMerge d seen all ends.Range = LacksRecord d seen all
LacksMerge d seen all ends.ReadFault = ⊥
LacksMerge d seen all ends.Limit = ⊥
LacksMerge d seen all ends.Memory = Unit {0}

-- all lines of the script are added, and of all packets then this is so
pub record OfAllAdded (d : Declaration) (old new : Devices) (Says : List (List Seen) → List Timed → Type 0) (script : List ℕ) : Type 0 where
  pub state : State
  pub adds : AddsScript d old new state script
  pub all : List Timed
  pub are : AreAllOf state.traces all
  pub says : Says (seen_by d state.traces) all

-- the merge of all packets of the script
abbrev pub MergesTo : Declaration → Devices → Devices → List Timed → Type 0
MergesTo d old new ordered = OfScript old.input.left (OfAllAdded d old new (λ seen all. IsMergeOf d seen all ordered))

-- why there is none
abbrev pub MergesNot : Declaration → Devices → Devices → Unmerged → Type 0
MergesNot d old new (ends.Refused said) = GathersNone d old new (ends.Refused said)
MergesNot d old new ends.Size = GathersNone d old new ends.Size
MergesNot d old new ends.Inconsistent = OfScript old.input.left (OfAllAdded d old new (λ seen all. LacksMerge d seen all ends.Inconsistent))
MergesNot d old new ends.Links = OfScript old.input.left (OfAllAdded d old new (λ seen all. LacksMerge d seen all ends.Links))
MergesNot d old new ends.Range = OfScript old.input.left (OfAllAdded d old new (λ seen all. LacksMerge d seen all ends.Range))
MergesNot d old new ends.ReadFault = GathersNone d old new ends.ReadFault
MergesNot d old new ends.Limit = GathersNone d old new ends.Limit
MergesNot d old new ends.Memory = Unit {0}

-- what a fault of the arrangement is here
abbrev pub unarranged : ArrangeError → Unmerged
unarranged errors.Links = ends.Links
unarranged errors.Range = ends.Range
unarranged errors.Memory = ends.Memory

-- these packets are not arranged for such a fault
abbrev pub IsUnarranged : List Timed → Unmerged → Type 0
IsUnarranged ts why = (e : ArrangeError) × IsFault ts e × (why ≡ unarranged e)
