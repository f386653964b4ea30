-- Which events stay in a problem that is made smaller.
use Rattle.std.specs.Prelude.{◌≡◌, ◌⊎◌, ℕ, ◌≤◌, Bool, List, length, slice_get, Some, All, Contains}
use Rattle.problem_model.specs.declared.items.Event.{Event}
use Rattle.problem_model.specs.declared.items.Follow.{Follow}
use Rattle.problem_model.specs.declared.items.Message.{Message}
use Rattle.problem_model.specs.Problem.{ProblemLists}
use Rattle.problem_model.specs.Bounds.{EventAt, IsReading}
use Rattle.thinning.specs.Thinning.{IsMessageEnd}
use Rattle.thinning.specs.Thinned.{IsMarked, marked}

-- each mark that was true is
abbrev pub AreKeptMarks : List Bool → List Bool → Type 0
AreKeptMarks old new = (e : ℕ) → IsMarked old e → IsMarked new e

-- that of one place is true also, and no other one
pub record IsMarkedAlso (place : ℕ) (old new : List Bool) : Type 0 where
  pub here : IsMarked new place
  pub kept : AreKeptMarks old new
  pub only : (e : ℕ) → IsMarked new e → IsMarked old e ⊎ (e ≡ place)

-- an event whose mark is true reads this stamp on this clock
abbrev pub IsMarkedReading : ProblemLists → List Bool → ℕ → ℕ → Type 0
IsMarkedReading p marks clock stamp = (e : ℕ) × (v : Event) × EventAt p e v × IsMarked marks e × (v.clock ≡ clock) × (v.stamp ≡ stamp)

-- a mark for each event, true at each place that is asked about, and at an event with the last reading of each clock that another one
-- follows, and at one with the first reading of each clock that follows another
pub record AreAsked (p : ProblemLists) (places : List ℕ) (marks : List Bool) : Type 0 where
  pub each : length marks ≡ length p.events
  pub asked : All (IsMarked marks) places
  pub last : (f : Follow) (s : ℕ) → Contains p.follows f → IsReading p f.earlier s → (t : ℕ) × IsMarkedReading p marks f.earlier t × (s ≤ t)
  pub first : (f : Follow) (t : ℕ) → Contains p.follows f → IsReading p f.later t → (s : ℕ) × IsMarkedReading p marks f.later s × (s ≤ t)

-- a mark for each event, true where it was asked for and at both ends of each message that is kept, and nowhere else
pub record Stay (p : ProblemLists) (marks keeps stays : List Bool) : Type 0 where
  pub each : length stays ≡ length p.events
  pub asked : (e : ℕ) → IsMarked marks e → IsMarked stays e
  pub ends : (m : Message) (e : ℕ) → Contains (marked p.messages keeps) m → IsMessageEnd e m → IsMarked stays e
  pub only : (e : ℕ) → IsMarked stays e → IsMarked marks e ⊎ ((m : Message) × Contains (marked p.messages keeps) m × IsMessageEnd e m)

-- the ends of each message whose own mark is true get theirs, and no others
pub record AreEndsMarked (messages : List Message) (keeps old new : List Bool) : Type 0 where
  pub kept : AreKeptMarks old new
  pub ends : (j : ℕ) (m : Message) (e : ℕ) → slice_get messages j ≡ Some m → IsMarked keeps j → IsMessageEnd e m → IsMarked new e
  pub only : (e : ℕ) → IsMarked new e → IsMarked old e ⊎ ((j : ℕ) × (m : Message) × (slice_get messages j ≡ Some m) × IsMarked keeps j × IsMessageEnd e m)
