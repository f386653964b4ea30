-- A problem has no more readings than events.
use Rattle.std.proofs.Common.{◌≡◌, ◌≢◌, ◌<◌, ◌≤◌, inl, inr, ℕ, zero, suc, List, [], ◌∷◌, length, map, Bool, true, ◌&&◌, nat_eq, refl, sym, ap, subst, arith}
use Rattle.std.specs.Prelude.{Contains}
use Rattle.std.specs.List.{slice_index_or}
use Rattle.std.specs.Cmp.{IsEquivalence}
use Rattle.std.specs.Bool.{Decides}
use Rattle.std.proofs.lemmas.List.{length-map}
use Rattle.std.proofs.lemmas.Map.Made.{is_member-Decides, IsDistinct-from_AllPairs, length-le_from_is_member}
use Rattle.problem_model.specs.declared.items.Event.{Event}
use Rattle.problem_model.specs.Problem.{ProblemLists}
use Rattle.problem_model.specs.Bounds.{IsReading}
use Rattle.problem_model.specs.Nodes.{Reading, IsEarlierReading, AreReadings}

asymmetric : (a b : Reading) → IsEarlierReading a b → IsEarlierReading b a → ⊥
asymmetric a b (inl x) (inl y) = omega (arith, x, y)
asymmetric a b (inl x) (inr y) = omega (arith, x, y.0)
asymmetric a b (inr x) (inl y) = omega (arith, x.0, y)
asymmetric a b (inr x) (inr y) = omega (arith, x.1, y.1)

abbrev same_reading : Reading → Reading → Bool
same_reading a b = nat_eq a.0 b.0 && nat_eq a.1 b.1

same_is : (a b c d : ℕ) → same_reading (a, b) (c, d) ≡ true → (let x : Reading = (a, b) in x) ≡ (c, d)
same_is a b c d e = let one : a ≡ c = grind (arith, e) in let two : b ≡ d = grind (arith, e) in rw (one, two) refl

same_self : (a b : ℕ) → same_reading (a, b) (a, b) ≡ true
same_self a b = grind arith

decides : (a b : Reading) → Decides (same_reading a b) (a ≡ b)
decides a b = (same_is a.0 a.1 b.0 b.1, λ e. subst (λ (c : Reading). same_reading a c ≡ true) e (same_self a.0 a.1))

same_symm : (a b c d : ℕ) → same_reading (a, b) (c, d) ≡ same_reading (c, d) (a, b)
same_symm a b c d = grind arith

same_laws : IsEquivalence same_reading
same_laws = record {
  refl = λ a. same_self a.0 a.1;
  symm = λ a b. same_symm a.0 a.1 b.0 b.1;
  congr = λ a b c e. ap (λ (x : Reading). same_reading x c) (same_is a.0 a.1 b.0 b.1 e);
}

different : (a b : Reading) → IsEarlierReading a b → a ≢ b
different a b before is = asymmetric a b before (subst (λ (x : Reading). IsEarlierReading b x) (sym is) (subst (λ (x : Reading). IsEarlierReading x b) is before))

map_at : {A B : Type 0} (f : A → B) (xs : List A) (x : A) (k : ℕ) → k < length xs → slice_index_or xs k x ≡ x → slice_index_or (map f xs) k (f x) ≡ f x
map_at f [] x k inside is = absurd (omega (arith, inside))
map_at f (y ∷ xs) x zero inside is = ap f is
map_at f (y ∷ xs) x (suc k) inside is = map_at f xs x k (omega (arith, inside)) is

abbrev event_readings : ProblemLists → List Reading
event_readings p = map (λ e. (e.clock, e.stamp)) p.events

event_reads : (p : ProblemLists) (q : Reading) → IsReading p q.0 q.1 → Contains (event_readings p) q
event_reads p q reads =
    let e = reads.0 in
    let at = map_at {A = Event} {B = Reading} (λ e. (e.clock, e.stamp)) p.events e reads.1.0 reads.1.1 reads.1.2 in
    let same : (let x : Reading = (e.clock, e.stamp) in x) ≡ q = rw (reads.2, reads.3) refl in
    subst (λ (x : Reading). Contains (event_readings p) x) same (reads.1.0, omega (arith, reads.1.1, length-map {A = Event} {B = Reading} p.events (λ e. (e.clock, e.stamp))), at)

pub readings_few : (p : ProblemLists) (readings : List Reading) → AreReadings p readings → length readings ≤ length p.events
readings_few p readings are =
    let all = event_readings p in
    let distinct = IsDistinct-from_AllPairs decides readings (λ i j d below inside. different _ _ (are.rising i j d below inside)) in
    let few : length readings ≤ length all = length-le_from_is_member same_laws readings all distinct
    (λ q member. let has = (is_member-Decides decides readings q).0 member in (is_member-Decides decides all q).1 (event_reads p q (are.each q.0 q.1 has))) in
    omega (arith, few, length-map {A = Event} {B = Reading} p.events (λ e. (e.clock, e.stamp)))
