-- Events by their nodes.
use Rattle.std.proofs.Common.{◌≡◌, ◌<◌, ◌≤◌, ℕ, List, length, slice_get, Some, subst, arith}
use Rattle.std.specs.Prelude.{All}
use Rattle.std.proofs.lemmas.Option.{slice_get_within, get_or_from_slice_get}
use Rattle.problem.specs.Listing.{Listed, listed_nodes}
use Rattle.attain.specs.Intervals.{IsEventOn}
use Rattle.problem.proofs.ListedNodes.{event_node}

-- no event at one of the first so many places is the node
abbrev pub NoneIs : List (ℕ × ℕ) → ℕ → ℕ → Type 0
NoneIs events node count = (k : ℕ) → k < count → (event : ℕ) → slice_get events k ≡ Some (event, node) → ⊥

pub none_first : (events : List (ℕ × ℕ)) (node : ℕ) → NoneIs events node 0
none_first events node k below event at = omega (arith, below)

pub some_is : (l : Listed) (node count : ℕ) → NoneIs l.events node count → length l.events ≤ count → (event : ℕ) × IsEventOn l event node → ⊥
some_is l node count none past (event, (place, at)) = none place (let inside = slice_get_within l.events place (event, node) at in omega (arith, inside, past)) event at

all_at : (P : ℕ → Type 0) (xs : List ℕ) (k x : ℕ) → All P xs → slice_get xs k ≡ Some x → P x
all_at P xs k x all at = subst P (get_or_from_slice_get xs k x 0 at) (all k 0 (slice_get_within xs k x at))

pub event_within : (l : Listed) (node n : ℕ) → All (λ (k : ℕ). k < n) (listed_nodes l) → (event : ℕ) × IsEventOn l event node → node < n
event_within l node n all (event, (place, at)) = all_at (λ (k : ℕ). k < n) (listed_nodes l) place node all (event_node l place (event, node) at)
