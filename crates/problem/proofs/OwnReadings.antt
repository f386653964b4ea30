-- The readings of the events of a problem, each once and in their order, are those of the problem.
use Rattle.std.proofs.Common.{◌≡◌, ◌⊎◌, suc, zero, List, [], ◌∷◌, Ordering, Less, Equal, Greater, AllPairs, Contains, inl, inr, refl, sym, ap, subst, arith}
use Rattle.std.specs.List.{AllByRecursion}
use Rattle.std.proofs.lemmas.List.Elements.{All-from_recursion}
use Rattle.std.proofs.lemmas.List.Kept.{AllPairs-cons}
use Rattle.problem_model.specs.declared.items.Event.{Event}
use Rattle.problem_model.specs.Problem.{ProblemLists}
use Rattle.problem_model.specs.Nodes.{Reading, IsEarlierReading, AreReadings}
use Rattle.problem_model.proofs.Chains.{Among, among, Rises}
use Rattle.problem_model.proofs.OneList.{contained}
use Rattle.problem.specs.Growing.{reading_of}
use Rattle.problem.specs.Listing.{reading_order, put_by, put, all_readings}
use Rattle.problem.proofs.ReadingOrder.{before_of_less, before_of_equal, before_of_greater, before_trans}

-- ---- a reading that is put keeps the order
all_later : (r x : Reading) (xs : List Reading) → IsEarlierReading r x → AllByRecursion (IsEarlierReading x) xs → AllByRecursion (IsEarlierReading r) xs
all_later r x [] before all = tt
all_later r x (y ∷ xs) before all = (before_trans r x y before all.0, all_later r x xs before all.1)

above_by : (o : Ordering) (y r x : Reading) (xs more : List Reading) → IsEarlierReading y r → AllByRecursion (IsEarlierReading y) (x ∷ xs) → AllByRecursion (IsEarlierReading y) more → AllByRecursion (IsEarlierReading y) (put_by o r x xs more)
above_by Less y r x xs more before all rest = (before, all)
above_by Equal y r x xs more before all rest = all
above_by Greater y r x xs more before all rest = (all.0, rest)

put_above : (y r : Reading) (xs : List Reading) → IsEarlierReading y r → AllByRecursion (IsEarlierReading y) xs → AllByRecursion (IsEarlierReading y) (put r xs)
put_above y r [] before all = (before, tt)
put_above y r (x ∷ xs) before all = above_by (reading_order r x) y r x xs (put r xs) before all (put_above y r xs before all.1)

rises_by : (o : Ordering) (r x : Reading) (xs : List Reading) → reading_order r x ≡ o → Rises (x ∷ xs) → Rises (put r xs) → Rises (put_by o r x xs (put r xs))
rises_by Less r x xs is rises rest = let before = before_of_less r x is in ((before, all_later r x xs before rises.0), rises)
rises_by Equal r x xs is rises rest = rises
rises_by Greater r x xs is rises rest = (put_above x r xs (before_of_greater r x is) rises.0, rest)

put_rises : (r : Reading) (xs : List Reading) → Rises xs → Rises (put r xs)
put_rises r [] rises = (tt, tt)
put_rises r (x ∷ xs) rises = rises_by (reading_order r x) r x xs refl rises (put_rises r xs rises.1)

all_rise : (es : List Event) → Rises (all_readings es)
all_rise [] = tt
all_rise (e ∷ es) = put_rises (reading_of e) (all_readings es) (all_rise es)

pairs_rise : (xs : List Reading) → Rises xs → AllPairs IsEarlierReading xs
pairs_rise [] rises = λ i j d below inside. absurd (omega (arith, inside))
pairs_rise (x ∷ xs) rises = AllPairs-cons IsEarlierReading x xs (All-from_recursion (IsEarlierReading x) xs rises.0) (pairs_rise xs rises.1)

-- ---- what stands in the list
kept_by : (o : Ordering) (r x q : Reading) (xs more : List Reading) → Among (x ∷ xs) q → (Among xs q → Among more q) → Among (put_by o r x xs more) q
kept_by Less r x q xs more is rest = inr is
kept_by Equal r x q xs more is rest = is
kept_by Greater r x q xs more (inl is) rest = inl is
kept_by Greater r x q xs more (inr is) rest = inr (rest is)

put_kept : (r q : Reading) (xs : List Reading) → Among xs q → Among (put r xs) q
put_kept r q [] is = absurd is
put_kept r q (x ∷ xs) is = kept_by (reading_order r x) r x q xs (put r xs) is (put_kept r q xs)

new_by : (o : Ordering) (r x : Reading) (xs more : List Reading) → reading_order r x ≡ o → Among more r → Among (put_by o r x xs more) r
new_by Less r x xs more is rest = inl refl
new_by Equal r x xs more is rest = inl (sym (before_of_equal r x is))
new_by Greater r x xs more is rest = inr rest

put_new : (r : Reading) (xs : List Reading) → Among (put r xs) r
put_new r [] = inl refl
put_new r (x ∷ xs) = new_by (reading_order r x) r x xs (put r xs) refl (put_new r xs)

only_by : (o : Ordering) (r x q : Reading) (xs more : List Reading) → (Among more q → (r ≡ q) ⊎ Among xs q) → Among (put_by o r x xs more) q → (r ≡ q) ⊎ Among (x ∷ xs) q
only_by Less r x q xs more rest is = is
only_by Equal r x q xs more rest is = inr is
only_by Greater r x q xs more rest (inl is) = inr (inl is)
only_by Greater r x q xs more rest (inr is) = elim (rest is) [ inl same ↦ inl same | inr behind ↦ inr (inr behind) ]

put_only : (r q : Reading) (xs : List Reading) → Among (put r xs) q → (r ≡ q) ⊎ Among xs q
put_only r q [] is = is
put_only r q (x ∷ xs) is = only_by (reading_order r x) r x q xs (put r xs) (put_only r q xs) is

all_in : (es : List Event) (e : Event) → Contains es e → Among (all_readings es) (reading_of e)
all_in [] e c = absurd (let inside = c.1 in omega (arith, inside))
all_in (x ∷ es) e (zero, inside, is) = subst (Among (put (reading_of x) (all_readings es))) (ap reading_of is) (put_new (reading_of x) (all_readings es))
all_in (x ∷ es) e (suc k, inside, is) = put_kept (reading_of x) (reading_of e) (all_readings es) (all_in es e (k, omega (arith, inside), is))

all_only : (es : List Event) (q : Reading) → Among (all_readings es) q → (e : Event) × Contains es e × (reading_of e ≡ q)
all_only [] q is = absurd is
all_only (x ∷ es) q is = elim (put_only (reading_of x) q (all_readings es) is) [
  | inl same ↦ (x, (0, omega arith, refl), same)
  | inr behind ↦ let some = all_only es q behind in (some.0, (suc some.1.0, (let less = some.1.1 in omega (arith, less)), some.1.2), some.2)
]

-- the readings of its events, each once and in their order, are those of the problem
pub own_readings : (p : ProblemLists) → AreReadings p (all_readings p.events)
own_readings p = record {
  each = λ clock stamp is.
      let some = all_only p.events (clock, stamp) (among (all_readings p.events) (clock, stamp) is) in
      (some.0, some.1, ap (λ (r : Reading). r.0) some.2, ap (λ (r : Reading). r.1) some.2);
  every = λ clock stamp reads.
      let same : reading_of reads.0 ≡ (clock, stamp) = rw (reads.2, reads.3) refl in
      contained (all_readings p.events) (clock, stamp) (subst (Among (all_readings p.events)) same (all_in p.events reads.0 reads.1));
  rising = pairs_rise (all_readings p.events) (all_rise p.events);
}
