-- What a listing lists, and the words and lines that are written by it.
use Rattle.std.specs.Prelude.{ℕ, ◌<◌, List, [], ◌∷◌, ◌++◌, map, length, slice_index_or, codes, ℤ}
use Rattle.std.specs.List.{flat_map, zip}
use Rattle.atto.specs.Decimal.{decimal_of}
use Rattle.atto.specs.NsText.{ns_text}
use Rattle.line_format.specs.Words.{line_of}
use Rattle.problem_model.specs.declared.items.Bound.{Bound}
use Rattle.problem_model.specs.declared.items.Bound.TheVariants.{SpanMost, SpanLeast, Late, Early, Follow, DelayMost, DelayLeast}
use Rattle.problem_model.specs.BoundText.{named_bound}
use Rattle.problem.specs.Listing.{Listed}
pub use Rattle.problem.specs.Listing.{listed_time, name_at, listed_nodes}

-- ---- bounds
-- the words that name a bound
abbrev pub listed_bound : Listed → Bound → List (List ℕ)
listed_bound l b = named_bound (name_at l.clock_names) (name_at l.event_names) b

-- the clocks or the events of the bound have names
abbrev pub HasNames : Listed → Bound → Type 0
HasNames l (SpanMost clock s t) = clock < length l.clock_names
HasNames l (SpanLeast clock s t) = clock < length l.clock_names
HasNames l (Late e) = e < length l.event_names
HasNames l (Early e) = e < length l.event_names
HasNames l (Follow c s d t) = (c < length l.clock_names) × (d < length l.clock_names)
HasNames l (DelayMost send receive) = (send < length l.event_names) × (receive < length l.event_names)
HasNames l (DelayLeast send receive) = (send < length l.event_names) × (receive < length l.event_names)

-- the line of a step: a bound and a weight
abbrev pub listed_step : Listed → Bound × ℤ → List ℕ
listed_step l s = line_of (codes "step" ∷ listed_bound l s.0 ++ ns_text s.1 ∷ [])

-- ---- nodes
-- the words that name an event
abbrev pub listed_event : Listed → ℕ × ℕ → List (List ℕ)
listed_event l e = codes "event" ∷ name_at l.event_names e.0 ∷ []

-- the words that name a reading
abbrev pub listed_reading : Listed → ℕ × ℕ × ℕ → List (List ℕ)
listed_reading l r = codes "reading" ∷ name_at l.clock_names r.0 ∷ decimal_of r.1 ∷ []

-- the words that name each node, by place
abbrev pub listed_words : Listed → List (List (List ℕ))
listed_words l = map (listed_event l) l.events ++ map (listed_reading l) l.readings

-- the words that name the node at a place
abbrev pub words_at : Listed → ℕ → List (List ℕ)
words_at l place = slice_index_or (listed_words l) place []

-- the line of a node with its real time
abbrev pub timed_line : List (List ℕ) × ℤ → List ℕ
timed_line v = line_of (v.0 ++ ns_text v.1 ∷ [])

-- the lines of all nodes, with real times by the number of each
abbrev pub listed_values : Listed → (ℕ → ℤ) → List ℕ
listed_values l x = flat_map timed_line (zip (listed_words l) (map x (listed_nodes l)))

-- ---- certificates
-- the words of the first line
abbrev pub certificate_head : List (List ℕ)
certificate_head = codes "certificate" ∷ codes "1" ∷ []

-- the lines between the first line of a certificate and its end
abbrev pub certified : List ℕ → List ℕ
certified lines = line_of certificate_head ++ lines ++ line_of (codes "end" ∷ [])

-- the certificate of a contradiction
abbrev pub listed_cycle : Listed → List (Bound × ℤ) → List ℕ
listed_cycle l steps = certified (line_of (codes "cycle" ∷ []) ++ flat_map (listed_step l) steps)

-- the certificate of an execution, with real times by the number of each node
abbrev pub listed_run : Listed → (ℕ → ℤ) → List ℕ
listed_run l x = certified (line_of (codes "run" ∷ []) ++ listed_values l x)
