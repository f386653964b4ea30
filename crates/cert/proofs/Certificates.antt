-- What is left of a certificate while its lines are written.
use Rattle.std.proofs.Common.{◌≡◌, ◌<◌, ◌≤◌, ◌+◌, ℕ, zero, suc, List, [], ◌∷◌, length, map, drop, slice_get, get_or, All, Some, Result, Ok, Err, ◌^◌, to_z, of_z, refl, sym, ◌∙◌, ap, subst, arith}
use Rattle.std.specs.Prelude.{ℤ, unsigned_abs, IsErr}
use Rattle.std.specs.List.{flat_map, zip}
use Rattle.std.proofs.lemmas.List.{length-map}
use Rattle.std.proofs.lemmas.Int.{to_z-of_z, fits_signed_from_abs}
use mir.Syntax.{w128}
use Rattle.ports.specs.declared.failed.Failed.{Failed}
use Rattle.ports.specs.Content.{SinkTold, Writes}
use Rattle.ports.proofs.Writing.{writes_as, Leaves, leaves_as, leaves_less, leaves_cut, leaves_none}
use Rattle.problem_model.specs.Problem.{ProblemLists, IsProblem}
use Rattle.problem_model.specs.Nodes.{Reading, AreReadings, nodes_of}
use Rattle.problem_model.specs.ExecutionText.{node_words, value_lines}
use Rattle.problem.specs.Listing.{listing_of, all_readings}
use Rattle.problem.proofs.AllReadings.{readings_are}
use Rattle.cert.specs.declared.chain.Step.{Step}
use Rattle.cert.specs.Listed.{HasNames, listed_step, listed_words, words_at, timed_line}
use Rattle.cert.specs.CertificateText.{step_line, IsStepOf, HasOneEach}
use Rattle.cert.proofs.OwnListing.{is_named, step_is, words_are, lines_are}
use Rattle.cert.proofs.Lines.{index_found}
use Rattle.cert.proofs.Pieces.{lines_more, lines_none}

-- the readings that lines are written and read by
pub own_readings : (p : ProblemLists) (readings : List Reading) → AreReadings p readings → AreReadings p (all_readings p.events)
own_readings p readings are = subst (AreReadings p) (readings_are p readings are) are

-- ---- lines of a list
pub line_written : {X A E : Type 0} {a : A} {old now mid : SinkTold} {all : List ℕ} (line : X → List ℕ) (xs : List X) (k : ℕ) (x : X) → slice_get xs k ≡ Some x
    → Leaves old now (flat_map line (drop k xs)) all → Writes {A = A} {E = E} (line x) now mid (Ok a) → Leaves old mid (flat_map line (drop (k + 1) xs)) all
line_written line xs k x at leaves first = leaves_less (leaves_as (lines_more line xs k x at) leaves) first

pub line_cut : {X A E : Type 0} {e : E} {r : Result (Unit {0}) Failed} {old now new : SinkTold} {all : List ℕ} (line : X → List ℕ) (xs : List X) (k : ℕ) (x : X) → slice_get xs k ≡ Some x
    → Leaves old now (flat_map line (drop k xs)) all → IsErr r → Writes {A = A} {E = E} (line x) now new (Err e) → Writes all old new r
line_cut line xs k x at leaves failed front = leaves_cut (flat_map line (drop (k + 1) xs)) (leaves_as (lines_more line xs k x at) leaves) failed front

pub lines_written : {X : Type 0} {old now : SinkTold} {all : List ℕ} (line : X → List ℕ) (xs : List X) (k : ℕ) → length xs ≤ k
    → Leaves old now (flat_map line (drop k xs)) all → Writes {A = Unit {0}} {E = Failed} all old now (Ok tt)
lines_written line xs k past leaves = leaves_none (leaves_as (lines_none line xs k past) leaves)

-- ---- lines of steps
-- units as they are held, read again
pub units_back : (v z : ℤ) → v ≡ z → unsigned_abs z ≤ 2 ^ 120 → to_z w128 (of_z w128 v) ≡ z
units_back v z same small = ap (λ (w : ℤ). to_z w128 (of_z w128 w)) same ∙ to_z-of_z w128 z (fits_signed_from_abs w128 z (omega (arith, small)))

pub step_text : (p : ProblemLists) (s : Step) (weight : ℤ) → weight ≡ s.weight → unsigned_abs s.weight ≤ 2 ^ 120
    → listed_step (listing_of p) (s.bound, to_z w128 (of_z w128 weight)) ≡ step_line p s
step_text p s weight same small = ap (λ (w : ℤ). listed_step (listing_of p) (s.bound, w)) (units_back weight s.weight same small) ∙ step_is p s

pub step_named : (p : ProblemLists) (steps : List Step) (k : ℕ) (s : Step) → IsProblem p → All (IsStepOf p) steps → k < length steps → s ≡ get_or steps k s → HasNames (listing_of p) s.bound
step_named p steps k s lawful all inside is =
    let of_p : IsStepOf p s = subst (IsStepOf p) (sym is) (all k s inside) in
    is_named p s.bound of_p.0 of_p.1 lawful

-- ---- lines of an execution
-- the words that name each node, with its real time
abbrev pub timed : ProblemLists → List ℤ → List (List (List ℕ) × ℤ)
timed p values = zip (listed_words (listing_of p)) values

own_words : (p : ProblemLists) (readings : List Reading) → AreReadings p readings → listed_words (listing_of p) ≡ map (node_words p) (nodes_of p (all_readings p.events))
own_words p readings are = words_are p readings are ∙ ap (λ (rs : List Reading). map (node_words p) (nodes_of p rs)) (readings_are p readings are)

pub timed_lines : (p : ProblemLists) (values : List ℤ) → HasOneEach p values → flat_map timed_line (timed p values) ≡ value_lines p (nodes_of p (all_readings p.events)) values
timed_lines p values (readings, are, same) =
    ap (λ (ws : List (List (List ℕ))). flat_map timed_line (zip ws values)) (own_words p readings are) ∙ lines_are p (nodes_of p (all_readings p.events)) values

pub one_each : (p : ProblemLists) (values : List ℤ) → HasOneEach p values → length values ≡ length (listed_words (listing_of p))
one_each p values (readings, are, same) = same ∙ sym (ap length (words_are p readings are) ∙ length-map (nodes_of p readings) (node_words p))

-- what stands at a place below the length
pub there_is : {X : Type 0} (xs : List X) (k : ℕ) → k < length xs → (x : X) × (slice_get xs k ≡ Some x)
there_is [] k inside = absurd (omega (arith, inside))
there_is (x ∷ xs) zero inside = (x, refl)
there_is (x ∷ xs) (suc k) inside = there_is xs k (omega (arith, inside))

pair_at : {A B : Type 0} (xs : List A) (ys : List B) (k : ℕ) (x : A) (y : B) → slice_get xs k ≡ Some x → slice_get ys k ≡ Some y → slice_get {X = A × B} (zip xs ys) k ≡ Some (x, y)
pair_at [] ys k x y at at' = absurd cc
pair_at (a ∷ xs) [] k x y at at' = absurd cc
pair_at (a ∷ xs) (b ∷ ys) zero x y at at' =
    let first : a ≡ x = cc in
    let second : b ≡ y = cc in
    rw (first, second) refl
pair_at (a ∷ xs) (b ∷ ys) (suc k) x y at at' = pair_at xs ys k x y at at'

zip_length : {A B : Type 0} (xs : List A) (ys : List B) → length (zip xs ys) ≤ length ys
zip_length [] ys = omega arith
zip_length (x ∷ xs) [] = omega arith
zip_length (x ∷ xs) (y ∷ ys) = let rest = zip_length xs ys in omega (arith, rest)

words_there : (p : ProblemLists) (values : List ℤ) → HasOneEach p values → (k : ℕ) → k < length values → (ws : List (List ℕ)) × (slice_get (listed_words (listing_of p)) k ≡ Some ws)
words_there p values lawful k inside = there_is (listed_words (listing_of p)) k (let same = one_each p values lawful in omega (arith, inside, same))

line_there : (p : ProblemLists) (k : ℕ) (ws : List (List ℕ)) (v v' : ℤ) → v' ≡ v → slice_get (listed_words (listing_of p)) k ≡ Some ws → timed_line (words_at (listing_of p) k, v') ≡ timed_line (ws, v)
line_there p k ws v v' same at =
    ap (λ (found : List (List ℕ)). timed_line (found, v')) (index_found (listed_words (listing_of p)) k ws [] at) ∙ ap (λ (w : ℤ). timed_line (ws, w)) same

module _ (p : ProblemLists) (values : List ℤ) (lawful : HasOneEach p values) {old now : SinkTold} {all : List ℕ} (k : ℕ) where
  pub value_written : {A E : Type 0} {a : A} {mid : SinkTold} (v v' : ℤ) → v' ≡ v → k < length values → slice_get values k ≡ Some v → Leaves old now (flat_map timed_line (drop k (timed p values))) all
      → Writes {A = A} {E = E} (timed_line (words_at (listing_of p) k, v')) now mid (Ok a)
      → Leaves old mid (flat_map timed_line (drop (k + 1) (timed p values))) all
  value_written v v' same inside at leaves line =
      let ws = words_there p values lawful k inside in
      line_written timed_line (timed p values) k (ws.0, v) (pair_at (listed_words (listing_of p)) values k ws.0 v ws.1 at) leaves (writes_as (line_there p k ws.0 v v' same ws.1) line)

  pub value_cut : {A E : Type 0} {e : E} {r : Result (Unit {0}) Failed} {new : SinkTold} (v v' : ℤ) → v' ≡ v → k < length values → slice_get values k ≡ Some v → Leaves old now (flat_map timed_line (drop k (timed p values))) all
      → IsErr r → Writes {A = A} {E = E} (timed_line (words_at (listing_of p) k, v')) now new (Err e)
      → Writes all old new r
  value_cut v v' same inside at leaves failed line =
      let ws = words_there p values lawful k inside in
      line_cut timed_line (timed p values) k (ws.0, v) (pair_at (listed_words (listing_of p)) values k ws.0 v ws.1 at) leaves failed (writes_as (line_there p k ws.0 v v' same ws.1) line)

  pub values_written : length values ≤ k → Leaves old now (flat_map timed_line (drop k (timed p values))) all → Writes {A = Unit {0}} {E = Failed} all old now (Ok tt)
  values_written past leaves =
      lines_written timed_line (timed p values) k (let short = zip_length (listed_words (listing_of p)) values in omega (arith, short, past)) leaves
