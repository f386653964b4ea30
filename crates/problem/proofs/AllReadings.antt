-- The readings of a problem are one list.
use Rattle.std.proofs.Common.{◌≡◌, ◌<◌, ◌≤◌, ◌+◌, ℕ, suc, zero, List, [], ◌∷◌, length, map, slice_get, get_or, Ordering, Less, Equal, Greater, Some, refl, sym, ◌∙◌, ap, subst, arith}
use Rattle.std.proofs.lemmas.List.{length-map}
use Rattle.std.proofs.lemmas.List.Elements.{Contains-get_or}
use Rattle.problem_model.specs.declared.items.Event.{Event}
use Rattle.problem_model.specs.Problem.{ProblemLists, IsProblem}
use Rattle.problem_model.specs.Nodes.{Reading, AreReadings}
use Rattle.problem.specs.Growing.{reading_of}
use Rattle.problem.specs.Listing.{reading_order, put_by, put, all_readings, event_places, reading_places}
use Rattle.problem_model.proofs.OneList.{readings_one}
use Rattle.problem.proofs.OwnReadings.{own_readings}

-- ---- the readings of a problem are one list
pub readings_are : (p : ProblemLists) (rs : List Reading) → AreReadings p rs → rs ≡ all_readings p.events
readings_are p rs are = readings_one p rs (all_readings p.events) are (own_readings p)

-- ---- how many they are, and their places
shorter_by : (o : Ordering) (r x : Reading) (xs more : List Reading) → length more ≤ length xs + 1 → length (put_by o r x xs more) ≤ length (x ∷ xs) + 1
shorter_by Less r x xs more le = omega arith
shorter_by Equal r x xs more le = omega arith
shorter_by Greater r x xs more le = omega (arith, le)

put_length : (r : Reading) (xs : List Reading) → length (put r xs) ≤ length xs + 1
put_length r [] = omega arith
put_length r (x ∷ xs) = shorter_by (reading_order r x) r x xs (put r xs) (put_length r xs)

pub all_length : (es : List Event) → length (all_readings es) ≤ length es
all_length [] = omega arith
all_length (e ∷ es) = let put_is = put_length (reading_of e) (all_readings es) in let rest = all_length es in omega (arith, put_is, rest)

pub length-event_places : (k : ℕ) (es : List Event) → length (event_places k es) ≡ length es
length-event_places k [] = refl
length-event_places k (e ∷ es) = ap suc (length-event_places (k + 1) es)

pub length-reading_places : (k : ℕ) (rs : List Reading) → length (reading_places k rs) ≡ length rs
length-reading_places k [] = refl
length-reading_places k (r ∷ rs) = ap suc (length-reading_places (k + 1) rs)

pub event_places-at : (k n m : ℕ) (es : List Event) → n < length es → m ≡ k + n → slice_get {X = ℕ × ℕ} (event_places k es) n ≡ Some (m, m)
event_places-at k n m [] inside is = absurd (omega (arith, inside))
event_places-at k zero m (e ∷ es) inside is = let same : k ≡ m = omega (arith, is) in rw same refl
event_places-at k (suc n) m (e ∷ es) inside is = event_places-at (k + 1) n m es (omega (arith, inside)) (omega (arith, is))

pub reading_places-at : (k n m : ℕ) (rs : List Reading) (d : Reading) → n < length rs → m ≡ k + n → slice_get {X = ℕ × ℕ × ℕ} (reading_places k rs) n ≡ Some ((get_or rs n d).0, (get_or rs n d).1, m)
reading_places-at k n m [] d inside is = absurd (omega (arith, inside))
reading_places-at k zero m (r ∷ rs) d inside is = let same : k ≡ m = omega (arith, is) in rw same refl
reading_places-at k (suc n) m (r ∷ rs) d inside is = reading_places-at (k + 1) n m rs d (omega (arith, inside)) (omega (arith, is))

pub name_at : {A : Type 0} (name : A → List ℕ) (xs : List A) (k : ℕ) (d : A) → k < length xs → slice_get (map name xs) k ≡ Some (name (get_or xs k d))
name_at name [] k d inside = absurd (omega (arith, inside))
name_at name (x ∷ xs) zero d inside = refl
name_at name (x ∷ xs) (suc k) d inside = name_at name xs k d (omega (arith, inside))

-- ---- for the problem itself
module _ (p : ProblemLists) (rs : List Reading) (are : AreReadings p rs) where
  pub length-listed : length rs ≡ length (reading_places (length p.events) (all_readings p.events))
  length-listed = ap length (readings_are p rs are) ∙ sym (length-reading_places (length p.events) (all_readings p.events))

  pub few_readings : length rs ≤ length p.events
  few_readings = subst (λ (l : ℕ). l ≤ length p.events) (sym (ap length (readings_are p rs are))) (all_length p.events)

  pub listed-at : (n : ℕ) (d : Reading) → n < length rs → slice_get {X = ℕ × ℕ × ℕ} (reading_places (length p.events) (all_readings p.events)) n ≡ Some ((get_or rs n d).0, (get_or rs n d).1, length p.events + n)
  listed-at n d inside =
      subst (λ (l : List Reading). slice_get {X = ℕ × ℕ × ℕ} (reading_places (length p.events) l) n ≡ Some ((get_or rs n d).0, (get_or rs n d).1, length p.events + n)) (readings_are p rs are)
      (reading_places-at (length p.events) n (length p.events + n) rs d inside refl)

  pub listed_as : (n m : ℕ) (d : Reading) → n < length rs → d ≡ get_or rs n d → m ≡ length p.events + n → slice_get {X = ℕ × ℕ × ℕ} (reading_places (length p.events) (all_readings p.events)) n ≡ Some (d.0, d.1, m)
  listed_as n m d inside at is = listed-at n d inside ∙ ap (λ (r : Reading). Some (r.0, r.1, length p.events + n)) (sym at) ∙ ap (λ (k : ℕ). Some (d.0, d.1, k)) (sym is)

  pub clock_named : IsProblem p → (n : ℕ) (d : Reading) → n < length rs → d ≡ get_or rs n d → d.0 < length (map (λ c. c.name) p.clocks)
  clock_named lawful n d inside at =
      let r = get_or rs n d in
      let reads = are.each r.0 r.1 (Contains-get_or rs n d inside) in
      let known = lawful.formed.event_clocks reads.1.0 reads.0 reads.1.1 in
      let of_event : (get_or p.events reads.1.0 reads.0).clock ≡ r.0 = ap (λ (e : Event). e.clock) reads.1.2 ∙ reads.2 in
      let same : d.0 ≡ r.0 = ap (λ (q : Reading). q.0) at in
      omega (arith, known, of_event, same, length-map p.clocks (λ c. c.name))
