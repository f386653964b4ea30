-- An event that enters a graph.
use Rattle.std.specs.Prelude.{◌≡◌, ℕ, ◌<◌, ◌≤◌, Bool, ◌⊎◌, ◌++◌, ◌∷◌, [], List, Option, Some, None, slice_get, Contains}
use Rattle.std.specs.List.{flat_map}
use Rattle.problem_model.specs.declared.items.Event.{Event}
use Rattle.problem_model.specs.declared.items.Message.{Message}
use Rattle.problem_model.specs.declared.items.Node.{Node}
use Rattle.problem_model.specs.declared.items.Node.TheVariants as nodes
use Rattle.problem_model.specs.declared.items.Bound.{Bound}
use Rattle.problem_model.specs.declared.items.Bound.TheVariants as bounds
use Rattle.problem_model.specs.declared.items.Bound.TheVariants.{SpanMost, SpanLeast, Late, Early}
use Rattle.problem_model.specs.Problem.{ProblemLists}
use Rattle.problem_model.specs.Bounds.{ComesAfter}
use Rattle.problem_model.specs.ShortList.{message_bounds}
use Rattle.sync_graph.specs.Graph.{GraphLists}
use Rattle.problem_graph.specs.Standing.{HasNode}
use Rattle.roster.specs.Entered.{IsMessageOf, and_event}

-- the nodes of an event come, its own and that of its reading, where it is not there; arcs stay
pub record Enters (v : ℕ) (e : Event) (g h : GraphLists) : Type 0 where
  pub kept : (k : ℕ) (n : Node) → slice_get g.nodes k ≡ Some n → slice_get h.nodes k ≡ Some n
  pub only : (n : Node) → HasNode h n → HasNode g n ⊎ (n ≡ nodes.Event v) ⊎ (n ≡ nodes.Reading e.clock e.stamp)
  pub event : HasNode h (nodes.Event v)
  pub reading : HasNode h (nodes.Reading e.clock e.stamp)
  pub arcs : h.arcs ≡ g.arcs
  pub in_force : h.in_force ≡ g.in_force

-- the span of a new reading from the nearest one below it, where there is one
abbrev pub span_below : ℕ → ℕ → Option ℕ → List Bound
span_below clock stamp None = []
span_below clock stamp (Some s) = SpanMost clock s stamp ∷ SpanLeast clock s stamp ∷ []

-- the span of a new reading to the nearest one above it, where there is one
abbrev pub span_above : ℕ → ℕ → Option ℕ → List Bound
span_above clock stamp None = []
span_above clock stamp (Some t) = SpanMost clock stamp t ∷ SpanLeast clock stamp t ∷ []

-- the follow of a new reading, which comes after the given reading of an earlier clock; none where none is given
abbrev pub follow_before : ℕ → ℕ → Option (ℕ × ℕ) → List Bound
follow_before clock stamp None = []
follow_before clock stamp (Some (c, s)) = bounds.Follow c s clock stamp ∷ []

-- the follow of a new reading, which comes before the given reading of a later clock; none where none is given
abbrev pub follow_after : ℕ → ℕ → Option (ℕ × ℕ) → List Bound
follow_after clock stamp None = []
follow_after clock stamp (Some (d, t)) = bounds.Follow clock stamp d t ∷ []

-- these are the messages of an event whose other end has entered
pub record AreMessagesOf (p : ProblemLists) (entered : ℕ → Bool) (v : ℕ) (messages : List Message) : Type 0 where
  pub sent : (receive : ℕ) (m : Message) → IsMessageOf p (and_event entered v) v receive m → Contains messages m
  pub received : (send : ℕ) (m : Message) → IsMessageOf p (and_event entered v) send v m → Contains messages m

-- what comes with a reading, by the readings next to it that are given: spans and follows
abbrev pub reading_bounds : ℕ → ℕ → Option ℕ → Option ℕ → Option (ℕ × ℕ) → Option (ℕ × ℕ) → List Bound
reading_bounds clock stamp below above earlier later =
    span_below clock stamp below ++ (span_above clock stamp above ++ (follow_before clock stamp earlier ++ follow_after clock stamp later))

-- what is due when an event has entered: the bounds of its reading, of its stamp, and the delays of its messages
abbrev pub entry_bounds : ℕ → Event → Option ℕ → Option ℕ → Option (ℕ × ℕ) → Option (ℕ × ℕ) → List Message → List Bound
entry_bounds v e below above earlier later messages =
    reading_bounds e.clock e.stamp below above earlier later ++ (Late v ∷ Early v ∷ flat_map message_bounds messages)

-- the greatest stamp of the clock's nodes below this one, or none where there is none
abbrev pub IsStampBelow : GraphLists → ℕ → ℕ → Option ℕ → Type 0
IsStampBelow g clock stamp (Some s) = HasNode g (nodes.Reading clock s) × (s < stamp) × ((t : ℕ) → HasNode g (nodes.Reading clock t) → t < stamp → t ≤ s)
IsStampBelow g clock stamp None = (t : ℕ) → HasNode g (nodes.Reading clock t) → t < stamp → ⊥

-- the least stamp of the clock's nodes above this one, or none where there is none
abbrev pub IsStampAbove : GraphLists → ℕ → ℕ → Option ℕ → Type 0
IsStampAbove g clock stamp (Some s) = HasNode g (nodes.Reading clock s) × (stamp < s) × ((t : ℕ) → HasNode g (nodes.Reading clock t) → stamp < t → s ≤ t)
IsStampAbove g clock stamp None = (t : ℕ) → HasNode g (nodes.Reading clock t) → stamp < t → ⊥

-- the last stamp of the clock's nodes
abbrev pub IsLastNode : GraphLists → ℕ → ℕ → Type 0
IsLastNode g clock s = HasNode g (nodes.Reading clock s) × ((t : ℕ) → HasNode g (nodes.Reading clock t) → t ≤ s)

-- the first stamp of the clock's nodes
abbrev pub IsFirstNode : GraphLists → ℕ → ℕ → Type 0
IsFirstNode g clock s = HasNode g (nodes.Reading clock s) × ((t : ℕ) → HasNode g (nodes.Reading clock t) → s ≤ t)

-- the last reading in the graph of the nearest clock before this one with a reading there; None where no clock before has one
abbrev pub IsReadingBefore : ProblemLists → GraphLists → ℕ → Option (ℕ × ℕ) → Type 0
IsReadingBefore p g d (Some (c, s)) = ComesAfter p c d × ((b u : ℕ) → ComesAfter p b d → HasNode g (nodes.Reading b u) → (b ≡ c) ⊎ ComesAfter p b c) × IsLastNode g c s
IsReadingBefore p g d None = (b u : ℕ) → ComesAfter p b d → HasNode g (nodes.Reading b u) → ⊥

-- the first reading in the graph of the nearest clock after this one, likewise
abbrev pub IsReadingAfter : ProblemLists → GraphLists → ℕ → Option (ℕ × ℕ) → Type 0
IsReadingAfter p g c (Some (d, t)) = ComesAfter p c d × ((b u : ℕ) → ComesAfter p c b → HasNode g (nodes.Reading b u) → (b ≡ d) ⊎ ComesAfter p d b) × IsFirstNode g d t
IsReadingAfter p g c None = (b u : ℕ) → ComesAfter p c b → HasNode g (nodes.Reading b u) → ⊥

-- the earlier end of the follow that a new reading brings: none where its clock has a reading below it, and else the last reading of the
-- nearest clock before
abbrev pub IsEarlierEnd : ProblemLists → GraphLists → ℕ → Option ℕ → Option (ℕ × ℕ) → Type 0
IsEarlierEnd p g clock (Some below) earlier = earlier ≡ None
IsEarlierEnd p g clock None earlier = IsReadingBefore p g clock earlier

-- the later end: none where its clock has a reading above it, and else the first reading of the nearest clock after
abbrev pub IsLaterEnd : ProblemLists → GraphLists → ℕ → Option ℕ → Option (ℕ × ℕ) → Type 0
IsLaterEnd p g clock (Some above) later = later ≡ None
IsLaterEnd p g clock None later = IsReadingAfter p g clock later

-- the nearest readings of a reading that comes, on its clock and on those before and after it, and none where it is there already
abbrev pub AreNearest : ProblemLists → GraphLists → Event → Option ℕ → Option ℕ → Option (ℕ × ℕ) → Option (ℕ × ℕ) → Type 0
AreNearest p g e below above earlier later =
    (HasNode g (nodes.Reading e.clock e.stamp) × (below ≡ None) × (above ≡ None) × (earlier ≡ None) × (later ≡ None))
    ⊎ ((HasNode g (nodes.Reading e.clock e.stamp) → ⊥) × IsStampBelow g e.clock e.stamp below × IsStampAbove g e.clock e.stamp above
    × IsEarlierEnd p g e.clock below earlier × IsLaterEnd p g e.clock above later)
