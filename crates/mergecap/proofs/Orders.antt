-- Packets that are sorted by their keys are arranged.
use Rattle.std.proofs.Common.{◌≡◌, ◌<◌, ◌&&◌, ℕ, Bool, true, false, List, [], ◌∷◌, length, map, get_or, Result, Ok, Err, OnOk, ◌<ℤ◌, AllPairs, eqb, refl, sym, ◌∙◌, ap, subst, arith, inl, inr, true≢false}
use Rattle.std.specs.List.Sorted.{IsPermutation, IsSortedByKey}
use Rattle.std.specs.declared.cmp.Ordering.{Ordering}
use Rattle.std.specs.declared.cmp.Ordering.TheVariants.{Less, Equal, Greater}
use Rattle.std.specs.Ordering.{MatchOrdering, int_cmp, nat_cmp, ordering_then, is_lt}
use Rattle.std.specs.Cmp.{IsTotalOrder}
use Rattle.std.proofs.lemmas.Bool.Decides.{Decides-eqb, nat_tests}
use Rattle.std.proofs.lemmas.Cmp.{ranked, int_ranked, int_cmp_total, nat_cmp_total, on_total, then_total}
use Rattle.std.proofs.lemmas.List.{get_or-map, length-map}
use Rattle.std.proofs.lemmas.List.Sorted.{ranks_by, sorted_far, IsPermutation-map}
use Rattle.std.proofs.lemmas.Map.Keys.{IsDistinct-IsPermutation, IsDistinct-from_apart, apart_from_distinct}
use Rattle.report.specs.declared.merge.MergeKey.{MergeKey}
use Rattle.report.specs.Merging.{ComesFirst, AreApart}
use Rattle.mergecap.specs.MergedCapture.{IsArranged, Timed, merge_keys}

-- ---- the order of two keys
abbrev pub key_cmp : MergeKey → MergeKey → Ordering
key_cmp a b = ordering_then (int_cmp a.value b.value) (ordering_then (nat_cmp a.place b.place) (nat_cmp a.n b.n))

key_cmp_total : IsTotalOrder key_cmp
key_cmp_total = then_total (on_total (λ (k : MergeKey). k.value) int_cmp_total) (then_total (on_total (λ (k : MergeKey). k.place) nat_cmp_total) (on_total (λ (k : MergeKey). k.n) nat_cmp_total))

-- the first of the three in which b is above a tells
first_of : (a b : MergeKey) (v p n : Ordering) → MatchOrdering v (b.value <ℤ a.value) (b.value ≡ a.value) (a.value <ℤ b.value) → MatchOrdering p (b.place < a.place) (b.place ≡ a.place) (a.place < b.place)
    → MatchOrdering n (b.n < a.n) (b.n ≡ a.n) (a.n < b.n) → (a.place ≡ b.place → a.n ≡ b.n → ⊥) → is_lt (ordering_then v (ordering_then p n)) ≡ false → ComesFirst a b
first_of a b Less p n value place number apart e = absurd (true≢false e)
first_of a b Greater p n value place number apart e = inl value
first_of a b Equal Less n value place number apart e = absurd (true≢false e)
first_of a b Equal Greater n value place number apart e = inr (sym value, inl place)
first_of a b Equal Equal Less value place number apart e = absurd (true≢false e)
first_of a b Equal Equal Greater value place number apart e = inr (sym value, inr (sym place, number))
first_of a b Equal Equal Equal value place number apart e = absurd (apart (sym place) (sym number))

comes_first : (a b : MergeKey) → (a.place ≡ b.place → a.n ≡ b.n → ⊥) → is_lt (key_cmp b a) ≡ false → ComesFirst a b
comes_first a b = first_of a b (int_cmp b.value a.value) (nat_cmp b.place a.place) (nat_cmp b.n a.n) (int_ranked b.value a.value _ refl) (ranked b.place a.place _ refl) (ranked b.n a.n _ refl)

-- ---- keys that differ, in another order
-- the same place and the same number
abbrev is_same : MergeKey → MergeKey → Bool
is_same a b = eqb a.place b.place && eqb a.n b.n

eqb_flips : (x y : ℕ) → eqb x y ≡ eqb y x
eqb_flips x y = grind (arith, nat_tests)

both_same : (p p' q q' : Bool) → p ≡ p' → q ≡ q' → (p && q) ≡ (p' && q')
both_same p p' q q' x y = rw (x, y) refl

is_same_flips : (a b : MergeKey) → is_same a b ≡ is_same b a
is_same_flips a b = both_same (eqb a.place b.place) (eqb b.place a.place) (eqb a.n b.n) (eqb b.n a.n) (eqb_flips a.place b.place) (eqb_flips a.n b.n)

not_both : (a b : MergeKey) (p q : Bool) → eqb a.place b.place ≡ p → eqb a.n b.n ≡ q → (a.place ≡ b.place → a.n ≡ b.n → ⊥) → (p && q) ≡ false
not_both a b false q place number apart = refl
not_both a b true false place number apart = refl
not_both a b true true place number apart = absurd (apart ((Decides-eqb a.place b.place).0 place) ((Decides-eqb a.n b.n).0 number))

differ_so : (a b : MergeKey) → is_same a b ≡ false → a.place ≡ b.place → a.n ≡ b.n → ⊥
differ_so a b e place number =
    true≢false (sym (both_same (eqb a.place b.place) true (eqb a.n b.n) true ((Decides-eqb a.place b.place).1 place) ((Decides-eqb a.n b.n).1 number)) ∙ e)

pub apart_still : (old new : List MergeKey) → IsPermutation old new → AreApart old → AreApart new
apart_still old new moved apart i j d below inside =
    let told = IsDistinct-from_apart is_same old (λ k l e lower within. not_both (get_or old k e) (get_or old l e) _ _ refl refl (apart k l e lower within)) in
    let still = IsDistinct-IsPermutation is_same is_same_flips old new moved told in
    differ_so (get_or new i d) (get_or new j d) (apart_from_distinct is_same new i j d still below inside)

-- ---- what a sort gives
module _ {X : Type 0} (f : X → Timed) where
  key_at : (xs : List X) (i : ℕ) (x : X) (d : Timed) → i < length xs → (get_or (map f xs) i d).key ≡ (f (get_or xs i x)).key
  key_at xs i x d inside = ap (λ (t : Timed). t.key) (get_or-map f xs i x d inside)

  sorted_keys : (xs : List X) (x : X) → IsSortedByKey (λ y. (f y).key) key_cmp xs → AreApart (merge_keys (map f xs)) → AllPairs (λ (a b : Timed). ComesFirst a.key b.key) (map f xs)
  sorted_keys xs x up apart i j d below inside =
      let long : length (map f xs) ≡ length xs = length-map xs f in
      let last : j < length xs = omega (arith, inside, long) in
      let first : i < length xs = omega (arith, below, last) in
      let here = key_at xs i x d first in
      let there = key_at xs j x d last in
      let keys : length (merge_keys (map f xs)) ≡ length (map f xs) = length-map (map f xs) (λ (t : Timed). t.key) in
      let differ = apart i j d.key below (omega (arith, keys, inside)) in
      let own = get_or-map (λ (t : Timed). t.key) (map f xs) i d d.key (omega (arith, below, inside)) in
      let other = get_or-map (λ (t : Timed). t.key) (map f xs) j d d.key inside in
      let less : is_lt (key_cmp (f (get_or xs j x)).key (f (get_or xs i x)).key) ≡ false = sorted_far _ (ranks_by key_cmp_total (λ (y : X). (f y).key)) xs up i j x (omega (arith, below)) last in
      comes_first (get_or (map f xs) i d).key (get_or (map f xs) j d).key
      (λ place number. differ (ap (λ (k : MergeKey). k.place) own ∙ place ∙ sym (ap (λ (k : MergeKey). k.place) other)) (ap (λ (k : MergeKey). k.n) own ∙ number ∙ sym (ap (λ (k : MergeKey). k.n) other)))
      (subst (λ (k : MergeKey). is_lt (key_cmp k (get_or (map f xs) i d).key) ≡ false) (sym there) (subst (λ (k : MergeKey). is_lt (key_cmp (f (get_or xs j x)).key k) ≡ false) (sym here) less))

  in_order : (xs : List X) → IsSortedByKey (λ y. (f y).key) key_cmp xs → AreApart (merge_keys (map f xs)) → AllPairs (λ (a b : Timed). ComesFirst a.key b.key) (map f xs)
  in_order [] up apart = λ i j d below inside. absurd (omega (arith, inside))
  in_order (x ∷ xs) up apart = sorted_keys (x ∷ xs) x up apart

  pub arranged : (old new : List X) → AreApart (merge_keys (map f old)) → IsPermutation old new → IsSortedByKey (λ y. (f y).key) key_cmp new → IsArranged (map f old) (map f new)
  arranged old new apart moved up =
      let same : IsPermutation (map f old) (map f new) = IsPermutation-map f old new moved in
      let keys : IsPermutation (merge_keys (map f old)) (merge_keys (map f new)) = IsPermutation-map (λ (t : Timed). t.key) (map f old) (map f new) same in
      record { same = same; sorted = in_order new up (apart_still (merge_keys (map f old)) (merge_keys (map f new)) keys apart) }

  -- the same where the sort may fail, by whatever says that it is sorted
  pub arranged_or : {A E S : Type 0} (old new : List X) (r : Result A E) → AreApart (merge_keys (map f old)) → IsPermutation old new → OnOk r S → (S → IsSortedByKey (λ y. (f y).key) key_cmp new) → OnOk r (IsArranged (map f old) (map f new))
  arranged_or old new (Ok a) apart moved sorted up = arranged old new apart moved (up sorted)
  arranged_or old new (Err e) apart moved sorted up = tt
