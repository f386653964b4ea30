-- The names of events: each is one, and two events have two.
use Rattle.std.proofs.Common.{◌≡◌, ◌≢◌, ◌<◌, ◌≤◌, ◌^◌, ℕ, zero, suc, ◌+◌, List, [], ◌∷◌, ◌++◌, map, length, slice_get, Option, Some, None, SomeIff, IsSome, All, AllPairs, Bool, true, false, IsTrue, ◌||◌, refl, sym, ◌∙◌, subst, inl, inr, arith, length-append}
use Rattle.std.specs.List.{AllByRecursion}
use Rattle.std.specs.Int.Digits.{digits_of}
use Rattle.std.proofs.lemmas.Bool.{cases_order}
use Rattle.std.proofs.lemmas.Bool.Decides.{nat_tests}
use Rattle.std.proofs.lemmas.Int.Digits.{all_below_base_digits_of}
use Rattle.std.proofs.lemmas.List.Elements.{All-append, All-cons, All-weaker, All-from_recursion, recursion_from_All}
use Rattle.atto.specs.Decimal.{decimal_of}
use Rattle.atto.proofs.DecimalLemmas.{length-decimal_of-le}
use Rattle.atto.proofs.OneSpelling.{decimal_of_injective}
use Rattle.problem_model.specs.Name.{is_clock_byte, is_event_byte, IsClockName, IsEventName}
use Rattle.decl.specs.declared.items.Label.{Label}
use Rattle.decl.specs.Declaration.{Declaration, Precedes}
use Rattle.decl.proofs.Searching.{precedes_differ}
use Rattle.traces.specs.declared.event_id.EventId.{EventId}
use Rattle.traces.specs.Traces.{name_of}
use Rattle.traces.proofs.Lists.{got, all_at, pair_at}

-- ---- bytes
no_sharp : (c : ℕ) → IsTrue (is_clock_byte c) → c ≢ 35
no_sharp c clock e = let f : IsTrue (is_clock_byte 35) = subst (λ n. IsTrue (is_clock_byte n)) e clock in absurd (cc)

or_left : (a b : Bool) → a ≡ true → (a || b) ≡ true
or_left true b h = refl
or_left false b h = absurd (cc)

event_byte : (c : ℕ) → IsTrue (is_clock_byte c) → IsTrue (is_event_byte c)
event_byte c clock = or_left _ _ clock

digit_byte : (d : ℕ) → d < 10 → IsTrue (is_event_byte (48 + d))
digit_byte d small = grind (arith, nat_tests)

digit_bytes : (ds : List ℕ) → AllByRecursion (λ d. d < 10) ds → AllByRecursion (λ c. IsTrue (is_event_byte c)) (map (λ d. 48 + d) ds)
digit_bytes [] all = tt
digit_bytes (d ∷ ds) all = (digit_byte d all.0, digit_bytes ds all.1)

decimal_bytes : (n : ℕ) → AllByRecursion (λ c. IsTrue (is_event_byte c)) (decimal_of n)
decimal_bytes zero = (refl, tt)
decimal_bytes (suc n) = digit_bytes (digits_of 10 (suc n)) (all_below_base_digits_of 10 (suc n) (omega arith))

-- a clock name with a number of at most ten digits
pub named : (label : List ℕ) (n : ℕ) → IsClockName label → n < 10 ^ 10 → IsEventName (label ++ 35 ∷ decimal_of n)
named label n clock small =
    let digits : length (decimal_of n) ≤ 10 = length-decimal_of-le 10 n (omega arith) small in
    record {
      some = rw length-append (omega (arith, clock.some));
      short = rw length-append (omega (arith, clock.short, digits));
      bytes = All-append (λ c. IsTrue (is_event_byte c)) label (35 ∷ decimal_of n)
          (All-weaker (λ c. IsTrue (is_clock_byte c)) (λ c. IsTrue (is_event_byte c)) event_byte label clock.bytes)
          (All-cons (λ c. IsTrue (is_event_byte c)) 35 (decimal_of n) refl (All-from_recursion (λ c. IsTrue (is_event_byte c)) (decimal_of n) (decimal_bytes n)));
    }

-- ---- two names
-- texts are the same before the first `#` and behind it
cut : (xs ys us vs : List ℕ) → AllByRecursion (λ c. IsTrue (is_clock_byte c)) xs → AllByRecursion (λ c. IsTrue (is_clock_byte c)) ys
    → xs ++ 35 ∷ us ≡ ys ++ 35 ∷ vs → (xs ≡ ys) × (us ≡ vs)
cut [] [] us vs p q e = (refl, cc)
cut [] (y ∷ ys) us vs p q e = absurd (no_sharp y q.0 (cc))
cut (x ∷ xs) [] us vs p q e = absurd (no_sharp x p.0 (cc))
cut (x ∷ xs) (y ∷ ys) us vs p q e =
    let head : x ≡ y = cc in
    let rest : (xs ≡ ys) × (us ≡ vs) = cut xs ys us vs p.1 q.1 (cc) in
    (rw (head, rest.0) refl, rest.1)

same_parts : (l m n o : ℕ) → l ≡ m → n ≡ o → (let a : EventId = record { label = l; number = n } in a) ≡ (let b : EventId = record { label = m; number = o } in b)
same_parts l m n o e f = rw (e, f) refl

pub id_same : (a b : EventId) → a.label ≡ b.label → a.number ≡ b.number → a ≡ b
id_same a b e f = same_parts a.label b.label a.number b.number e f

-- a list whose names rise has each name once
pub one_place : {X : Type 0} (name : X → List ℕ) (xs : List X) (i j : ℕ) (x y : X) → AllPairs (λ a b. Precedes (name a) (name b)) xs
    → slice_get xs i ≡ Some x → slice_get xs j ≡ Some y → name x ≡ name y → i ≡ j
one_place name xs i j x y rise at there same = elim (cases_order i j) [
  | inl equal ↦ equal
  | inr (inl less) ↦ absurd (precedes_differ (name x) (name y) (pair_at (λ a b. Precedes (name a) (name b)) xs i j x y rise less at there) same)
  | inr (inr more) ↦ absurd (precedes_differ (name y) (name x) (pair_at (λ a b. Precedes (name a) (name b)) xs j i y x rise more there at) (sym same))
]

pub name_at : (d : Declaration) (id : EventId) (l : Label) → slice_get d.labels id.label ≡ Some l → name_of d id ≡ l.name ++ 35 ∷ decimal_of id.number
name_at d id l at = rw at refl

-- two events have two names
pub names_differ : (d : Declaration) (a b : EventId) → All (λ l. IsClockName l.name) d.labels → AllPairs (λ a b. Precedes a.name b.name) d.labels
    → a.label < length d.labels → b.label < length d.labels → a ≢ b → name_of d a ≢ name_of d b
names_differ d a b clocks rise la lb two same =
    let x : (l : Label) × (slice_get d.labels a.label ≡ Some l) = got d.labels a.label la in
    let y : (l : Label) × (slice_get d.labels b.label ≡ Some l) = got d.labels b.label lb in
    let parts : (x.0.name ≡ y.0.name) × (decimal_of a.number ≡ decimal_of b.number) = cut x.0.name y.0.name _ _
    (recursion_from_All (λ c. IsTrue (is_clock_byte c)) x.0.name (all_at (λ l. IsClockName l.name) d.labels a.label x.0 clocks x.1).bytes)
    (recursion_from_All (λ c. IsTrue (is_clock_byte c)) y.0.name (all_at (λ l. IsClockName l.name) d.labels b.label y.0 clocks y.1).bytes)
    (sym (name_at d a x.0 x.1) ∙ same ∙ name_at d b y.0 y.1) in
    two (id_same a b (one_place (λ l. l.name) d.labels a.label b.label x.0 y.0 rise x.1 y.1 parts.0) (decimal_of_injective a.number b.number parts.1))

-- ---- a test that holds
pub some_of : {T : Type 0} (o : Option T) (P : Type 0) (v : T) → SomeIff o P v → P → IsSome o
some_of None P v iff p = absurd (iff p)
some_of (Some x) P v iff p = refl
