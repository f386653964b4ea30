-- The dates of what was added: the times of the earliest execution, so much later that its first event has its own date.
use Rattle.std.specs.Prelude.{◌≡◌, ◌⊎◌, ℕ, ◌*◌, List, [], slice_get, Option, Some, None, ℤ, pos, ◌+ℤ◌}
use Rattle.problem_model.specs.declared.items.Node.TheVariants as nodes
use Rattle.problem_model.specs.Problem.{ProblemLists}
use Rattle.problem_model.specs.Bounds.{Times, IsReading}
use Rattle.problem_model.specs.Solutions.{IsEarliestExecution}
use Rattle.decl.specs.Declaration.{Declaration}
use Rattle.intervals.specs.declared.ends.End.{End}
use Rattle.intervals.specs.declared.ends.End.TheVariants.{At, Unbounded}
use Rattle.intervals.specs.Executions.{time_by, IsLeastEnd}
use Rattle.report.specs.declared.merge.MergeKey.{MergeKey}
use Rattle.report.specs.Merging.{ComesFirst}
use Rattle.traces.specs.Seen.{Seen}
use Rattle.traces.specs.Traces.{Placed, events_of}
use Rattle.traces.specs.Messages.{problem_of_seen}
use Rattle.queries.specs.Replies.{HasReading}

-- what the event at a place is merged by
abbrev pub key_at : Times → ℕ → Placed → MergeKey
key_at x k e = record { value = x (nodes.Event k); place = e.id.label; n = e.id.number }

-- the event at the place comes first in the merge
pub record IsFirstEvent (x : Times) (events : List Placed) (k : ℕ) (e : Placed) : Type 0 where
  pub there : slice_get events k ≡ Some e
  pub first : (j : ℕ) (other : Placed) → slice_get events j ≡ Some other → (j ≡ k) ⊎ ComesFirst (key_at x k e) (key_at x j other)

-- ---- the date of an event
-- the least end, or where there is none the stamp, in units
abbrev pub end_or : ℕ → End → ℤ
end_or stamp (At units) = units
end_or stamp Unbounded = pos (stamp * 1000000000)

-- the date, in units, of the event at the place, which has this stamp: with a source whose clock has a reading, the least end of its
-- time by that clock, where there is one; else the stamp. Each reading of a source's clock gives the same time
abbrev pub IsDateOf : ProblemLists → Option ℕ → ℕ → ℕ → ℤ → Type 0
IsDateOf p None k stamp date = date ≡ pos (stamp * 1000000000)
IsDateOf p (Some clock) k stamp date =
    ((s : ℕ) × (least : End) × IsReading p clock s × IsLeastEnd p (time_by clock s (nodes.Event k)) least × (date ≡ end_or stamp least))
    ⊎ ((HasReading p clock → ⊥) × (date ≡ pos (stamp * 1000000000)))

-- ---- all dates
-- dates are the times of the earliest execution and so much more: then the first event has its own date
pub record AreDatedFrom (d : Declaration) (seen : List (List Seen)) (shift : ℤ) : Type 0 where
  pub times : Times
  pub earliest : IsEarliestExecution (problem_of_seen d seen) times
  pub place : ℕ
  pub event : Placed
  pub first : IsFirstEvent times (events_of seen) place event
  pub date : ℤ
  pub is : IsDateOf (problem_of_seen d seen) d.source place event.seen.stamp date
  pub by : times (nodes.Event place) +ℤ shift ≡ date

-- this, or no more where there is no event
abbrev pub AreDatedBy : Declaration → List (List Seen) → ℤ → Type 0
AreDatedBy d seen shift = AreDatedFrom d seen shift ⊎ ((events_of seen ≡ []) × (shift ≡ pos 0))
