-- Events that wait for others.
use Rattle.std.specs.Prelude.{◌≡◌, ℕ, ◌<◌, ℤ, List, length, All, Bool, false, slice_get, Option, Some, None}
use Rattle.std.specs.List.{sum_by}
use Rattle.frontier.specs.Keys.{IsFreeNode}
use Rattle.problem_solver.specs.declared.queue.Succession.{Succession}
use Rattle.problem_solver.specs.Offsets.{count_unset}

-- what comes next behind another is one of so many events
abbrev pub AreSuccessions : ℕ → List Succession → Type 0
AreSuccessions events pairs = All (λ pair. pair.after < events) pairs

-- the places of so many events
abbrev pub AreEventPlaces : ℕ → List ℕ → Type 0
AreEventPlaces events order = All (λ event. event < events) order

-- an event that is ready counts one
abbrev pub one_ready : Option ℤ → ℕ
one_ready None = 0
one_ready (Some time) = 1

-- how many events are ready
abbrev pub are_ready : List (Option ℤ) → ℕ
are_ready ready = sum_by one_ready ready

-- how many have not been queued
abbrev pub not_queued : List Bool → ℕ
not_queued queued = count_unset queued

-- each event has a time and a count, and room; one that has not been queued is not ready
pub record IsQueue (times : ℕ) (ready : List (Option ℤ)) (queued : List Bool) (waiting : List ℕ) : Type 0 where
  pub times_each : times ≡ length queued
  pub waiting_each : length waiting ≡ length queued
  pub room : length ready ≡ length queued
  pub free : (event : ℕ) → slice_get queued event ≡ Some false → IsFreeNode ready event
