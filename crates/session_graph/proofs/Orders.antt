-- Events and messages in the order in which they come.
use Rattle.std.proofs.Common.{◌≡◌, ◌⊎◌, ◌<◌, ◌≤◌, ◌+◌, ℕ, zero, suc, List, [], ◌∷◌, ◌++◌, Some, length, map, drop, slice_get, Contains, All, refl, ap, arith, inl, inr}
use Rattle.std.specs.List.{range_with_len}
use Rattle.std.proofs.lemmas.List.{length-map}
use Rattle.std.proofs.lemmas.List.Elements.{All-contains}
use Rattle.std.proofs.lemmas.Option.{slice_get_within}
use Rattle.problem_model.specs.declared.items.Message.{Message}
use Rattle.problem_model.specs.declared.items.Node.TheVariants as nodes
use Rattle.sync_graph.specs.Graph.{GraphLists}
use Rattle.problem_graph.specs.Standing.{HasNode}
use Rattle.traces.proofs.Lists.{place_in}
use Rattle.roster.proofs.Telling.{among}
use Rattle.roster.proofs.Turns.{into_map}
use Rattle.session_graph.specs.declared.plans.Due.{Due}
use Rattle.session_graph.specs.declared.plans.Turn.{Turn}
use Rattle.session_graph.specs.Plans.{turn_numbers, messages_in}

-- numbers from one on, with one more
pub range_more : (a n j : ℕ) → a + n ≡ j → range_with_len a (suc n) ≡ range_with_len a n ++ j ∷ []
range_more a zero j e = let same : a ≡ j = omega (arith, e) in rw same refl
range_more a (suc n) j e = ap (λ (ks : List ℕ). a ∷ ks) (range_more (a + 1) n j (omega (arith, e)))

-- what holds of each message holds of that of one
pub of_due : (P : Message → Type 0) (dues : List Due) (k : ℕ) (d : Due) → All P (messages_in dues) → slice_get dues k ≡ Some d → P d.message
of_due P dues k d all at = All-contains P (messages_in dues) d.message all (into_map (λ (x : Due). x.message) dues d (among dues k d at))

-- all events of the turns stand once each has entered
pub all_stand : (turns : List Turn) (n v : ℕ) (g h : GraphLists) → ((w : ℕ) → HasNode g (nodes.Event w) → HasNode h (nodes.Event w)) → n ≡ length turns
    → ((j w : ℕ) → j < n → slice_get (turn_numbers turns) j ≡ Some w → HasNode h (nodes.Event w)) → HasNode g (nodes.Event v) ⊎ Contains (turn_numbers turns) v → HasNode h (nodes.Event v)
all_stand turns n v g h stay many entered (inl old) = stay v old
all_stand turns n v g h stay many entered (inr new) =
    let i = place_in (turn_numbers turns) v new in
    let inside : i.0 < length (turn_numbers turns) = slice_get_within (turn_numbers turns) i.0 v i.1 in
    entered i.0 v (omega (arith, inside, many, length-map turns (λ (t : Turn). t.event))) i.1

pub map_behind : {X Y : Type 0} (f : X → Y) (xs : List X) (y : X) → map f (xs ++ y ∷ []) ≡ map f xs ++ f y ∷ []
map_behind f [] y = refl
map_behind f (x ∷ xs) y = ap (λ l. f x ∷ l) (map_behind f xs y)

pub drop_all : {X : Type 0} (xs : List X) (n : ℕ) → length xs ≤ n → drop n xs ≡ []
drop_all [] zero past = refl
drop_all [] (suc n) past = refl
drop_all (x ∷ xs) zero past = absurd (omega (arith, past))
drop_all (x ∷ xs) (suc n) past = drop_all xs n (omega (arith, past))
