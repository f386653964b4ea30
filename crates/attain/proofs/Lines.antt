-- The lines of steps and of nodes, one after another.
use Rattle.std.proofs.Common.{◌≡◌, ◌<◌, ◌≤◌, ◌+◌, ℕ, zero, suc, List, [], ◌∷◌, ◌++◌, length, drop, map, slice_get, Some, Result, Ok, Err, refl, sym, ◌∙◌, ap, arith}
use Rattle.std.specs.Prelude.{ℤ, IsErr}
use Rattle.std.specs.List.{flat_map, zip}
use Rattle.std.proofs.lemmas.List.{length-map, length-append}
use Rattle.std.proofs.lemmas.Option.{slice_get-get_or}
use Rattle.problem_model.proofs.Walking.{drop_more, drop_all}
use Rattle.sync_graph.specs.declared.arc.Arc.{Arc}
use Rattle.problem.proofs.ListedNodes.{map_at, nodes_count}
use Rattle.ports.specs.Content.{SinkTold, Writes}
use Rattle.ports.specs.declared.failed.Failed.{Failed}
use Rattle.ports.proofs.Writing.{Leaves, leaves_as, leaves_less, leaves_cut, leaves_none}
use Rattle.problem.specs.Listing.{Listed, listed_nodes}
use Rattle.cert.specs.Listed.{listed_event, listed_reading, listed_step, listed_words, words_at, listed_values, timed_line}

-- the lines of the steps from arc k on
abbrev pub steps_from : Listed → List Arc → ℕ → List ℕ
steps_from l arcs k = flat_map (listed_step l) (map (λ (a : Arc). (a.name, a.weight)) (drop k arcs))

pub steps_more : (l : Listed) (arcs : List Arc) (k : ℕ) (a : Arc) → slice_get arcs k ≡ Some a → steps_from l arcs k ≡ listed_step l (a.name, a.weight) ++ steps_from l arcs (k + 1)
steps_more l arcs k a at = ap (λ (rest : List Arc). flat_map (listed_step l) (map (λ (b : Arc). (b.name, b.weight)) rest)) (drop_more arcs k a at)

pub steps_none : (l : Listed) (arcs : List Arc) (k : ℕ) → length arcs ≤ k → steps_from l arcs k ≡ []
steps_none l arcs k past = ap (λ (rest : List Arc). flat_map (listed_step l) (map (λ (b : Arc). (b.name, b.weight)) rest)) (drop_all arcs k past)

-- ---- nodes
-- the lines of the nodes from place k on
abbrev pub values_from : Listed → (ℕ → ℤ) → ℕ → List ℕ
values_from l x k = flat_map timed_line (drop k (zip (listed_words l) (map x (listed_nodes l))))

zip_at : {X Y : Type 0} (xs : List X) (ys : List Y) (k : ℕ) (x : X) (y : Y) → slice_get xs k ≡ Some x → slice_get ys k ≡ Some y → slice_get (zip xs ys) k ≡ Some (x, y)
zip_at [] ys k x y at at' = absurd cc
zip_at (a ∷ xs) [] k x y at at' = absurd cc
zip_at (a ∷ xs) (b ∷ ys) zero x y at at' = let first : a ≡ x = cc in let second : b ≡ y = cc in rw (first, second) refl
zip_at (a ∷ xs) (b ∷ ys) (suc k) x y at at' = zip_at xs ys k x y at at'

zip_short : {X Y : Type 0} (xs : List X) (ys : List Y) → length (zip xs ys) ≤ length ys
zip_short [] ys = omega arith
zip_short (x ∷ xs) [] = omega arith
zip_short (x ∷ xs) (y ∷ ys) = let rest = zip_short xs ys in omega (arith, rest)

pub words_count : (l : Listed) → length (listed_words l) ≡ length l.events + length l.readings
words_count l = omega (arith, length-append (map (listed_event l) l.events) (map (listed_reading l) l.readings), length-map l.events (listed_event l), length-map l.readings (listed_reading l))

pub values_more : (l : Listed) (x : ℕ → ℤ) (k node : ℕ) → k < length (listed_nodes l) → slice_get (listed_nodes l) k ≡ Some node
    → values_from l x k ≡ timed_line (words_at l k, x node) ++ values_from l x (k + 1)
values_more l x k node inside at =
    let within : k < length (listed_words l) = omega (arith, inside, words_count l, nodes_count l) in
    ap (flat_map timed_line) (drop_more (zip (listed_words l) (map x (listed_nodes l))) k (words_at l k, x node) (zip_at _ _ k (words_at l k) (x node) (slice_get-get_or (listed_words l) k [] within) (map_at x (listed_nodes l) k node at)))

pub values_none : (l : Listed) (x : ℕ → ℤ) (k : ℕ) → length (listed_nodes l) ≤ k → values_from l x k ≡ []
values_none l x k past =
    let short = zip_short (listed_words l) (map x (listed_nodes l)) in
    let same = length-map (listed_nodes l) x in
    ap (flat_map timed_line) (drop_all (zip (listed_words l) (map x (listed_nodes l))) k (omega (arith, past, short, same)))

-- ---- while they are written
module _ {old now : SinkTold} (l : Listed) (x : ℕ → ℤ) (k node : ℕ) (v : ℤ) (is : v ≡ x node) (inside : k < length (listed_nodes l)) (at : slice_get (listed_nodes l) k ≡ Some node)
    (leaves : Leaves old now (values_from l x k) (values_from l x 0))
  where
    next_value : Leaves old now (timed_line (words_at l k, v) ++ values_from l x (k + 1)) (values_from l x 0)
    next_value = leaves_as (values_more l x k node inside at ∙ ap (λ (t : ℤ). timed_line (words_at l k, t) ++ values_from l x (k + 1)) (sym is)) leaves

    -- the line of the node at this place is written
    pub value_written : {mid : SinkTold} (a : Unit {0}) → Writes {A = Unit {0}} {E = Failed} (timed_line (words_at l k, v)) now mid (Ok a) → Leaves old mid (values_from l x (k + 1)) (values_from l x 0)
    value_written a written = leaves_less next_value written

    -- a front of it is written, and that is all
    pub value_cut : {mid : SinkTold} (e : Failed) (r : Result (Unit {0}) Failed) → IsErr r → Writes {A = Unit {0}} {E = Failed} (timed_line (words_at l k, v)) now mid (Err e) → Writes (values_from l x 0) old mid r
    value_cut e r failed written = leaves_cut (values_from l x (k + 1)) next_value failed written

pub values_written : {old now : SinkTold} (l : Listed) (x : ℕ → ℤ) (k : ℕ) → length (listed_nodes l) ≤ k → Leaves old now (values_from l x k) (values_from l x 0)
    → Writes {A = Unit {0}} {E = Failed} (listed_values l x) old now (Ok tt)
values_written l x k past leaves = leaves_none (leaves_as (values_none l x k past) leaves)
