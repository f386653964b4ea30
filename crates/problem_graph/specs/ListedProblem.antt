-- The problem that a listing lists, which may hold its events in another way.
use Rattle.std.specs.Prelude.{◌≡◌, ℕ, List, map, slice_get, Some}
use Rattle.problem_model.specs.declared.items.Clock.{Clock}
use Rattle.problem_model.specs.declared.items.Event.{Event}
use Rattle.problem_model.specs.declared.items.Bound.{Bound}
use Rattle.problem_model.specs.declared.items.Bound.TheVariants.{SpanMost, SpanLeast, Late, Early, Follow, DelayMost, DelayLeast}
use Rattle.problem_model.specs.Problem.{ProblemLists}
use Rattle.problem_model.specs.Nodes.{Reading}
use Rattle.problem.specs.Listing.{Listed, name_at}

-- the problem's clocks have the listed names in their order, and at each place stands the listed event, by its name, or
-- the listed reading
pub record IsListedBy (l : Listed) (p : ProblemLists) (readings : List Reading) : Type 0 where
  pub clocks : l.clock_names ≡ map (λ (c : Clock). c.name) p.clocks
  pub events : map (λ (e : ℕ × ℕ). name_at l.event_names e.0) l.events ≡ map (λ (e : Event). e.name) p.events
  pub stamps : map {A = ℕ × ℕ × ℕ} {B = Reading} (λ r. (r.0, r.1)) l.readings ≡ readings

-- the event of this number is listed at this place
abbrev pub StandsAt : Listed → ℕ → ℕ → Type 0
StandsAt l number place = (node : ℕ) × (slice_get l.events place ≡ Some (number, node))

-- the first bound, with events by number, is the second one of the problem, with events by place
abbrev pub IsCarried : Listed → Bound → Bound → Type 0
IsCarried l (SpanMost clock s t) b = b ≡ SpanMost clock s t
IsCarried l (SpanLeast clock s t) b = b ≡ SpanLeast clock s t
IsCarried l (Late e) b = (place : ℕ) × StandsAt l e place × (b ≡ Late place)
IsCarried l (Early e) b = (place : ℕ) × StandsAt l e place × (b ≡ Early place)
IsCarried l (Follow c s d t) b = b ≡ Follow c s d t
IsCarried l (DelayMost send receive) b = (j : ℕ) × (k : ℕ) × StandsAt l send j × StandsAt l receive k × (b ≡ DelayMost j k)
IsCarried l (DelayLeast send receive) b = (j : ℕ) × (k : ℕ) × StandsAt l send j × StandsAt l receive k × (b ≡ DelayLeast j k)
