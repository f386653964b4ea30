-- Events with the first and the last reading of each clock.
use Rattle.std.specs.Prelude.{◌≡◌, ◌⊎◌, ℕ, ◌<◌, ◌≤◌, Bool, List, Option, Some, None, slice_get}
use Rattle.problem_model.specs.declared.items.Event.{Event}
use Rattle.problem_model.specs.declared.items.Follow.{Follow}
use Rattle.thinning.specs.declared.edges.ClockEdges.{ClockEdges}
use Rattle.thinning.specs.Thinned.{IsMarked}

-- the result is that one of two events whose stamp is less
abbrev pub IsEarlierOf : List Event → ℕ → ℕ → ℕ → Type 0
IsEarlierOf events a b k = (v w : Event) → slice_get events a ≡ Some v → slice_get events b ≡ Some w → ((k ≡ a) × (v.stamp ≤ w.stamp)) ⊎ ((k ≡ b) × (w.stamp ≤ v.stamp))

-- the result is that one of two events whose stamp is greater
abbrev pub IsLaterOf : List Event → ℕ → ℕ → ℕ → Type 0
IsLaterOf events a b k = (v w : Event) → slice_get events a ≡ Some v → slice_get events b ≡ Some w → ((k ≡ a) × (w.stamp ≤ v.stamp)) ⊎ ((k ≡ b) × (v.stamp ≤ w.stamp))

-- of the first k events that are of the clock, the one at this place has the least stamp
abbrev pub IsFirstOf : List Event → ℕ → ℕ → ℕ → Type 0
IsFirstOf events k clock e = (v : Event) × (slice_get events e ≡ Some v) × (v.clock ≡ clock)
    × ((j : ℕ) (w : Event) → j < k → slice_get events j ≡ Some w → w.clock ≡ clock → v.stamp ≤ w.stamp)

-- or the greatest
abbrev pub IsLastOf : List Event → ℕ → ℕ → ℕ → Type 0
IsLastOf events k clock e = (v : Event) × (slice_get events e ≡ Some v) × (v.clock ≡ clock)
    × ((j : ℕ) (w : Event) → j < k → slice_get events j ≡ Some w → w.clock ≡ clock → w.stamp ≤ v.stamp)

-- of the first k events, those with the first and the last reading of the clock, or none is of it
abbrev pub AreEdges : List Event → ℕ → ℕ → Option ClockEdges → Type 0
AreEdges events k clock None = (j : ℕ) (w : Event) → j < k → slice_get events j ≡ Some w → w.clock ≡ clock → ⊥
AreEdges events k clock (Some edges) = IsFirstOf events k clock edges.first × IsLastOf events k clock edges.last

-- so it is for each clock
abbrev pub AreEdgesOfClocks : List Event → ℕ → List (Option ClockEdges) → Type 0
AreEdgesOfClocks events k edges = (clock : ℕ) (o : Option ClockEdges) → slice_get edges clock ≡ Some o → AreEdges events k clock o

-- their places are below n
abbrev pub AreEdgesWithin : List (Option ClockEdges) → ℕ → Type 0
AreEdgesWithin edges n = (k : ℕ) (e : ClockEdges) → slice_get edges k ≡ Some (Some e) → (e.first < n) × (e.last < n)

-- the last reading of the earlier clock and the first one of the later clock have their marks
abbrev pub HasEdgesMarked : List Bool → List (Option ClockEdges) → Follow → Type 0
HasEdgesMarked marks edges f = ((e : ClockEdges) → slice_get edges f.earlier ≡ Some (Some e) → IsMarked marks e.last)
    × ((e : ClockEdges) → slice_get edges f.later ≡ Some (Some e) → IsMarked marks e.first)
