-- A problem listed in its own order.
use Rattle.std.specs.Prelude.{ℕ, ◌+◌, List, [], ◌∷◌, ◌++◌, map, length, slice_index_or, ℤ, pos}
use Rattle.std.specs.declared.cmp.Ordering.{Ordering}
use Rattle.std.specs.Ordering.{nat_cmp, ordering_then}
use Rattle.std.specs.declared.cmp.Ordering.TheVariants.{Less, Equal, Greater}
use Rattle.problem_model.specs.declared.items.Event.{Event}
use Rattle.problem_model.specs.Problem.{ProblemLists}
use Rattle.problem_model.specs.Nodes.{Reading}
use Rattle.problem.specs.Growing.{reading_of}

-- the order of two readings: by the clock's place, then by stamp
abbrev pub reading_order : Reading → Reading → Ordering
reading_order a b = ordering_then (nat_cmp a.0 b.0) (nat_cmp a.1 b.1)

-- r before x, or not again, or among what stands behind x
abbrev pub put_by : Ordering → Reading → Reading → List Reading → List Reading → List Reading
put_by Less r x xs more = r ∷ x ∷ xs
put_by Equal r x xs more = x ∷ xs
put_by Greater r x xs more = x ∷ more

-- the readings with r at its place, once
abbrev pub put : Reading → List Reading → List Reading
put r [] = r ∷ []
put r (x ∷ xs) = put_by (reading_order r x) r x xs (put r xs)

-- the readings of the events, each once, in their order: the one list that `AreReadings` allows, as a function
abbrev pub all_readings : List Event → List Reading
all_readings [] = []
all_readings (e ∷ events) = put (reading_of e) (all_readings events)

-- the events by place: the number of each is its place and its node
abbrev pub event_places : ℕ → List Event → List (ℕ × ℕ)
event_places k [] = []
event_places k (e ∷ events) = (k, k) ∷ event_places (k + 1) events

-- the readings by place: clock, stamp and node, which counts from k on
abbrev pub reading_places : ℕ → List Reading → List (ℕ × ℕ × ℕ)
reading_places k [] = []
reading_places k (r ∷ readings) = (r.0, r.1, k) ∷ reading_places (k + 1) readings

-- what a listing lists: the names of clocks and of events by their numbers; the events by place, each with its number
-- and node; the readings by place, each with clock, stamp and node
pub record Listed : Type 0 where
  pub clock_names : List (List ℕ)
  pub event_names : List (List ℕ)
  pub events : List (ℕ × ℕ)
  pub readings : List (ℕ × ℕ × ℕ)

-- a problem listed in its own order
abbrev pub listing_of : ProblemLists → Listed
listing_of p = record {
  clock_names = map (λ c. c.name) p.clocks;
  event_names = map (λ e. e.name) p.events;
  events = event_places 0 p.events;
  readings = reading_places (length p.events) (all_readings p.events);
}

-- the name with a number
abbrev pub name_at : List (List ℕ) → ℕ → List ℕ
name_at names k = slice_index_or names k []

-- the number of each node, by place
abbrev pub listed_nodes : Listed → List ℕ
listed_nodes l = map (λ e. e.1) l.events ++ map (λ r. r.2) l.readings

-- the real time with a number
abbrev pub listed_time : List ℤ → ℕ → ℤ
listed_time xs k = slice_index_or xs k (pos 0)
