-- Events by their groups are the same events otherwise.
use Rattle.std.proofs.Common.{◌≡◌, ◌≢◌, List, [], ◌∷◌, map, length, inl, inr, sym, subst}
use Rattle.std.specs.Prelude.{AllPairs, Contains}
use Rattle.std.proofs.lemmas.List.{length-map}
use Rattle.traces.specs.Traces.{Placed}
use Rattle.traces.specs.Windows.{by_group, grouped, keys_among}
use Rattle.traces.specs.Pairs.{ComesBefore}
use Rattle.traces.proofs.Lists.{pairs_map}
use Rattle.traces.proofs.Members.{head_or_tail, here, none_in, there}

-- ---- elements
-- what is among the images is the image of an element
pub image_of : {X Y : Type 0} (f : X → Y) (xs : List X) (y : Y) → Contains (map f xs) y → (x : X) × Contains xs x × (y ≡ f x)
image_of f [] y held = absurd (none_in y held)
image_of f (x ∷ xs) y held = elim (head_or_tail (f x) y (map f xs) held) [
  | inl is ↦ (x, here x xs, sym is)
  | inr more ↦ (let (z, among, is) = image_of f xs y more in (z, there x z xs among, is))
]

-- and the image of an element is among them
pub image_in : {X Y : Type 0} (f : X → Y) (xs : List X) (x : X) → Contains xs x → Contains (map f xs) (f x)
image_in f [] x held = absurd (none_in x held)
image_in f (y ∷ xs) x held = elim (head_or_tail y x xs held) [
  | inl is ↦ subst (λ z. Contains (f y ∷ map f xs) (f z)) is (here (f y) (map f xs))
  | inr more ↦ there (f y) (f x) (map f xs) (image_in f xs x more)
]

-- ---- events by their groups
-- each is one of the events
pub in_group : (events : List Placed) (g : Placed) → Contains (grouped events) g → (e : Placed) × Contains events e × (g ≡ by_group (keys_among events) e)
in_group events = image_of (by_group (keys_among events)) events

-- and each event is there
pub group_in : (events : List Placed) (e : Placed) → Contains events e → Contains (grouped events) (by_group (keys_among events) e)
group_in events = image_in (by_group (keys_among events)) events

-- there are as many
pub length_grouped : (events : List Placed) → length (grouped events) ≡ length events
length_grouped events = length-map events (by_group (keys_among events))

-- their names differ as those of the events do
pub grouped_differ : (events : List Placed) → AllPairs (λ (a b : Placed). a.id ≢ b.id) events → AllPairs (λ (a b : Placed). a.id ≢ b.id) (grouped events)
grouped_differ events differ = pairs_map (λ (a b : Placed). a.id ≢ b.id) (by_group (keys_among events)) events differ

-- and rise as they do
pub grouped_rise : (events : List Placed) → AllPairs (λ (a b : Placed). ComesBefore a.id b.id) events → AllPairs (λ (a b : Placed). ComesBefore a.id b.id) (grouped events)
grouped_rise events rise = pairs_map (λ (a b : Placed). ComesBefore a.id b.id) (by_group (keys_among events)) events rise
