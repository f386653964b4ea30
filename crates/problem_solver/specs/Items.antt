-- What is brought in one after another, and the bounds that each stands for.
use Rattle.std.specs.Prelude.{◌≡◌, ◌≢◌, ℕ, ◌+◌, ◌<◌, ◌≤◌, List, [], ◌∷◌, None, map, length, slice_index_or, All, Contains}
use Rattle.problem_model.specs.declared.items.Message.{Message}
use Rattle.problem_model.specs.declared.items.Bound.{Bound}
use Rattle.problem_model.specs.declared.items.Bound.TheVariants.{Late, Early}
use Rattle.problem_model.specs.Problem.{ProblemLists}
use Rattle.problem_model.specs.Nodes.{Reading}
use Rattle.problem_model.specs.ShortList.{neighbour_bounds, clocks_before, first_reading, nearest_reading, follow_bound, message_bounds}
use Rattle.problem_solver.specs.declared.items.Item.{Item}
use Rattle.problem_solver.specs.declared.items.Item.TheVariants as items
use Rattle.problem_solver.specs.declared.items.Ranked.{Ranked}

-- the reading at a place
abbrev pub reading_at : List Reading → ℕ → Reading
reading_at readings k = slice_index_or readings k (0, 0)

-- the message at a place
abbrev pub message_at : List Message → ℕ → Message
message_at messages k = slice_index_or messages k (record { send = 0; receive = 0; least = 0; most = None })

-- what is brought in at once: the span of two neighbouring readings of one clock, the follow to a clock, the stamp of
-- an event, or the delay of a message
abbrev pub IsItem : ProblemLists → List Reading → Item → Type 0
IsItem p readings (items.Span k) = (k + 1 < length readings) × ((reading_at readings k).0 ≡ (reading_at readings (k + 1)).0)
IsItem p readings (items.Follow d) = d < length p.clocks
IsItem p readings (items.Event e) = e < length p.events
IsItem p readings (items.Message m) = m < length p.messages

-- its bounds in the short list
abbrev pub bounds_of : ProblemLists → List Reading → Item → List Bound
bounds_of p readings (items.Span k) = neighbour_bounds (reading_at readings k) (reading_at readings (k + 1))
bounds_of p readings (items.Follow d) = follow_bound (nearest_reading readings (clocks_before p.follows d d)) (first_reading readings d)
bounds_of p readings (items.Event e) = Late e ∷ Early e ∷ []
bounds_of p readings (items.Message m) = message_bounds (message_at p.messages m)

-- items without their ranks
abbrev pub items_of : List Ranked → List Item
items_of ranked = map (λ r. r.item) ranked

-- items of the problem, among them the spans, the follows that have a bound, the events and the messages at the first
-- so many places, and no more than these
pub record AreItems (p : ProblemLists) (readings : List Reading) (spans follows events messages : ℕ) (all : List Item) : Type 0 where
  pub each : All (IsItem p readings) all
  pub spans_in : (k : ℕ) → k < spans → IsItem p readings (items.Span k) → Contains all (items.Span k)
  pub follows_in : (k : ℕ) → k < follows → bounds_of p readings (items.Follow k) ≢ [] → Contains all (items.Follow k)
  pub events_in : (k : ℕ) → k < events → Contains all (items.Event k)
  pub messages_in : (k : ℕ) → k < messages → Contains all (items.Message k)
  pub few : length all ≤ spans + follows + events + messages
