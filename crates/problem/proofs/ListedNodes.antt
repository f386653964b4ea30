-- The nodes that a listing lists, by their places, and the numbers of those of a problem listed in its own order.
use Rattle.std.proofs.Common.{◌≡◌, ◌<◌, ◌≤◌, ◌+◌, ℕ, zero, suc, List, [], ◌∷◌, ◌++◌, length, map, slice_get, Some, All, refl, sym, ◌∙◌, ap, subst, arith}
use Rattle.std.proofs.lemmas.List.{length-map, length-append}
use Rattle.problem_model.specs.declared.items.Event.{Event}
use Rattle.problem_model.specs.Problem.{ProblemLists, IsProblem}
use Rattle.problem_model.specs.Nodes.{Reading, AreReadings, nodes_of, event_nodes, reading_nodes}
use Rattle.problem_model.specs.Limits.{most_nodes}
use Rattle.problem.specs.Listing.{Listed, listing_of, listed_nodes, event_places, reading_places, all_readings}
use Rattle.problem.proofs.AllReadings.{readings_are, few_readings}

-- ---- how many there are
pub length-event_nodes : (k : ℕ) (events : List Event) → length (event_nodes k events) ≡ length events
length-event_nodes k [] = refl
length-event_nodes k (e ∷ events) = ap suc (length-event_nodes (k + 1) events)

pub length-reading_nodes : (readings : List Reading) → length (reading_nodes readings) ≡ length readings
length-reading_nodes [] = refl
length-reading_nodes (r ∷ readings) = ap suc (length-reading_nodes readings)

pub length-nodes_of : (p : ProblemLists) (readings : List Reading) → length (nodes_of p readings) ≡ length p.events + length readings
length-nodes_of p readings = omega (arith, length-append (event_nodes 0 p.events) (reading_nodes readings), length-event_nodes 0 p.events, length-reading_nodes readings)

-- a problem has no more nodes than events and readings of them
pub few_nodes : (p : ProblemLists) (readings : List Reading) → IsProblem p → AreReadings p readings → length (nodes_of p readings) ≤ most_nodes
few_nodes p readings lawful are = omega (arith, length-nodes_of p readings, few_readings p readings are, lawful.fits.event_limit)

pub nodes_count : (l : Listed) → length (listed_nodes l) ≡ length l.events + length l.readings
nodes_count l = omega (arith, length-append (map (λ (e : ℕ × ℕ). e.1) l.events) (map (λ (r : ℕ × ℕ × ℕ). r.2) l.readings), length-map l.events (λ (e : ℕ × ℕ). e.1), length-map l.readings (λ (r : ℕ × ℕ × ℕ). r.2))

-- ---- places: the events, then the readings
pub map_at : {X Y : Type 0} (f : X → Y) (xs : List X) (k : ℕ) (x : X) → slice_get xs k ≡ Some x → slice_get (map f xs) k ≡ Some (f x)
map_at f [] k x at = absurd cc
map_at f (a ∷ xs) zero x at = let same : a ≡ x = cc in rw same refl
map_at f (a ∷ xs) (suc k) x at = map_at f xs k x at

front_at : {X : Type 0} (xs ys : List X) (k : ℕ) (x : X) → slice_get xs k ≡ Some x → slice_get (xs ++ ys) k ≡ Some x
front_at [] ys k x at = absurd cc
front_at (a ∷ xs) ys zero x at = at
front_at (a ∷ xs) ys (suc k) x at = front_at xs ys k x at

back_at : {X : Type 0} (xs ys : List X) (k j : ℕ) (x : X) → k ≡ length xs + j → slice_get ys j ≡ Some x → slice_get (xs ++ ys) k ≡ Some x
back_at [] ys k j x is at = let same : k ≡ j = omega (arith, is) in rw same at
back_at (a ∷ xs) ys zero j x is at = absurd (omega (arith, is))
back_at (a ∷ xs) ys (suc k) j x is at = back_at xs ys k j x (omega (arith, is)) at

pub event_node : (l : Listed) (k : ℕ) (e : ℕ × ℕ) → slice_get l.events k ≡ Some e → slice_get (listed_nodes l) k ≡ Some e.1
event_node l k e at = front_at (map (λ (v : ℕ × ℕ). v.1) l.events) (map (λ (r : ℕ × ℕ × ℕ). r.2) l.readings) k e.1 (map_at (λ (v : ℕ × ℕ). v.1) l.events k e at)

pub reading_node : (l : Listed) (k j : ℕ) (r : ℕ × ℕ × ℕ) → k ≡ length l.events + j → slice_get l.readings j ≡ Some r → slice_get (listed_nodes l) k ≡ Some r.2
reading_node l k j r is at =
    back_at (map (λ (v : ℕ × ℕ). v.1) l.events) (map (λ (v : ℕ × ℕ × ℕ). v.2) l.readings) k j r.2 (is ∙ ap (λ (n : ℕ). n + j) (sym (length-map l.events (λ (v : ℕ × ℕ). v.1)))) (map_at (λ (v : ℕ × ℕ × ℕ). v.2) l.readings j r at)

-- the clock and the stamp of a listed reading
abbrev pub stamp_of : ℕ × ℕ × ℕ → Reading
stamp_of r = (r.0, r.1)

-- ---- numbers of nodes
-- n numbers from k on
abbrev pub counted : ℕ → ℕ → List ℕ
counted k zero = []
counted k (suc n) = k ∷ counted (k + 1) n

pub length-counted : (k n : ℕ) → length (counted k n) ≡ n
length-counted k zero = refl
length-counted k (suc n) = ap suc (length-counted (k + 1) n)

counted_below : (k n m : ℕ) → k + n ≤ m → All (λ i. i < m) (counted k n)
counted_below k zero m le i d inside = absurd (omega (arith, inside))
counted_below k (suc n) m le zero d inside = omega (arith, le)
counted_below k (suc n) m le (suc i) d inside = counted_below (k + 1) n m (omega (arith, le)) i d (omega (arith, inside))

counted_on : (k j m n whole : ℕ) → j ≡ k + m → whole ≡ m + n → counted k m ++ counted j n ≡ counted k whole
counted_on k j zero n whole at all = let a : j ≡ k = omega (arith, at) in let b : whole ≡ n = omega (arith, all) in rw (a, b) refl
counted_on k j (suc m) n zero at all = absurd (omega (arith, all))
counted_on k j (suc m) n (suc whole) at all = ap (λ (ns : List ℕ). k ∷ ns) (counted_on (k + 1) j m n whole (omega (arith, at)) (omega (arith, all)))

event_numbers : (k : ℕ) (es : List Event) → map {A = ℕ × ℕ} {B = ℕ} (λ e. e.1) (event_places k es) ≡ counted k (length es)
event_numbers k [] = refl
event_numbers k (e ∷ es) = ap (λ (ns : List ℕ). k ∷ ns) (event_numbers (k + 1) es)

reading_numbers : (k : ℕ) (rs : List Reading) → map {A = ℕ × ℕ × ℕ} {B = ℕ} (λ r. r.2) (reading_places k rs) ≡ counted k (length rs)
reading_numbers k [] = refl
reading_numbers k (r ∷ rs) = ap (λ (ns : List ℕ). k ∷ ns) (reading_numbers (k + 1) rs)

pub numbers_are : (p : ProblemLists) (rs : List Reading) → AreReadings p rs → listed_nodes (listing_of p) ≡ counted 0 (length (nodes_of p rs))
numbers_are p rs are =
    let n = length p.events in
    let places = reading_places n (all_readings p.events) in
    ap (λ (ns : List ℕ). ns ++ map {A = ℕ × ℕ × ℕ} {B = ℕ} (λ r. r.2) places) (event_numbers 0 p.events)
    ∙ ap (λ (ns : List ℕ). counted 0 n ++ ns) (reading_numbers n (all_readings p.events))
    ∙ counted_on 0 n n (length (all_readings p.events)) (length (nodes_of p rs)) (omega arith) (omega (arith, length-nodes_of p rs, ap length (readings_are p rs are)))

pub length-numbers : (p : ProblemLists) (rs : List Reading) → AreReadings p rs → length (listed_nodes (listing_of p)) ≡ length (nodes_of p rs)
length-numbers p rs are = ap length (numbers_are p rs are) ∙ length-counted 0 (length (nodes_of p rs))

pub numbers_below : (p : ProblemLists) (rs : List Reading) → AreReadings p rs → All (λ k. k < length (nodes_of p rs)) (listed_nodes (listing_of p))
numbers_below p rs are =
    let n = length (nodes_of p rs) in
    subst (λ (ns : List ℕ). All (λ k. k < n) ns) (sym (numbers_are p rs are)) (counted_below 0 n n (omega arith))
