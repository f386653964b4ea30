-- Positions that are sorted by their keys are a merge's order.
use Rattle.std.proofs.Common.{◌≡◌, ◌≢◌, ◌<◌, ◌+◌, ℕ, zero, suc, false, List, [], ◌∷◌, ◌++◌, length, get_or, slice_get, Option, Some, ◌<ℤ◌, AllPairs, eqb, refl, sym, ◌∙◌, ap, subst, arith, inl, inr, true≢false}
use Rattle.std.specs.List.{range_with_len}
use Rattle.std.specs.List.Sorted.{IsPermutation, IsSortedByKey}
use Rattle.std.specs.declared.cmp.Ordering.{Ordering}
use Rattle.std.specs.declared.cmp.Ordering.TheVariants.{Less, Equal, Greater}
use Rattle.std.specs.Ordering.{MatchOrdering, int_cmp, nat_cmp, ordering_then, is_lt}
use Rattle.std.specs.Option.{option_cmp}
use Rattle.std.specs.Cmp.{IsTotalOrder}
use Rattle.std.specs.Cmp.Lexicographic.{options_total}
use Rattle.std.proofs.lemmas.Bool.{cases_lt}
use Rattle.std.proofs.lemmas.Bool.Decides.{Decides-eqb, nat_tests}
use Rattle.std.proofs.lemmas.Cmp.{ranked, int_ranked, int_cmp_total, nat_cmp_total, on_total, then_total}
use Rattle.std.proofs.lemmas.List.FromFn.{length-range_with_len, get_or-range_with_len}
use Rattle.std.proofs.lemmas.List.Sorted.{ranks_by, sorted_far}
use Rattle.std.proofs.lemmas.Map.Keys.{IsDistinct-IsPermutation}
use Rattle.std.proofs.lemmas.Map.Made.{AllPairs-from_IsDistinct, IsDistinct-from_AllPairs}
use Rattle.std.proofs.lemmas.Option.{get_or_from_slice_get, slice_get_within}
use Rattle.report.specs.declared.merge.MergeKey.{MergeKey}
use Rattle.report.specs.Merging.{ComesFirst, AreApart, IsMergeOrder}

-- ---- the order of two keys
abbrev pub key_cmp : MergeKey → MergeKey → Ordering
key_cmp a b = ordering_then (int_cmp a.value b.value) (ordering_then (nat_cmp a.place b.place) (nat_cmp a.n b.n))

key_cmp_total : IsTotalOrder key_cmp
key_cmp_total = then_total (on_total (λ (k : MergeKey). k.value) int_cmp_total) (then_total (on_total (λ (k : MergeKey). k.place) nat_cmp_total) (on_total (λ (k : MergeKey). k.n) nat_cmp_total))

-- the first of the three in which b is above a tells
first_of : (a b : MergeKey) (v p n : Ordering) → MatchOrdering v (b.value <ℤ a.value) (b.value ≡ a.value) (a.value <ℤ b.value) → MatchOrdering p (b.place < a.place) (b.place ≡ a.place) (a.place < b.place)
    → MatchOrdering n (b.n < a.n) (b.n ≡ a.n) (a.n < b.n) → (a.place ≡ b.place → a.n ≡ b.n → ⊥) → is_lt (ordering_then v (ordering_then p n)) ≡ false → ComesFirst a b
first_of a b Less p n value place number apart e = absurd (true≢false e)
first_of a b Greater p n value place number apart e = inl value
first_of a b Equal Less n value place number apart e = absurd (true≢false e)
first_of a b Equal Greater n value place number apart e = inr (sym value, inl place)
first_of a b Equal Equal Less value place number apart e = absurd (true≢false e)
first_of a b Equal Equal Greater value place number apart e = inr (sym value, inr (sym place, number))
first_of a b Equal Equal Equal value place number apart e = absurd (apart (sym place) (sym number))

comes_first : (a b : MergeKey) → (a.place ≡ b.place → a.n ≡ b.n → ⊥) → is_lt (key_cmp b a) ≡ false → ComesFirst a b
comes_first a b = first_of a b (int_cmp b.value a.value) (nat_cmp b.place a.place) (nat_cmp b.n a.n) (int_ranked b.value a.value _ refl) (ranked b.place a.place _ refl) (ranked b.n a.n _ refl)

-- ---- positions
pub range_more : (a n j : ℕ) → a + n ≡ j → range_with_len a (suc n) ≡ range_with_len a n ++ j ∷ []
range_more a zero j e = let same : a ≡ j = omega (arith, e) in rw same refl
range_more a (suc n) j e = ap (λ (ks : List ℕ). a ∷ ks) (range_more (a + 1) n j (omega (arith, e)))

range_apart : (n : ℕ) → AllPairs (λ x y. x ≢ y) (range_with_len 0 n)
range_apart n i j d below inside same =
    let long : length (range_with_len 0 n) ≡ n = length-range_with_len 0 n in
    let here : get_or (range_with_len 0 n) i d ≡ 0 + i = get_or-range_with_len 0 n i d (omega (arith, below, inside, long)) in
    let there : get_or (range_with_len 0 n) j d ≡ 0 + j = get_or-range_with_len 0 n j d (omega (arith, inside, long)) in
    let met : 0 + i ≡ 0 + j = sym here ∙ same ∙ there in
    absurd (omega (arith, below, met))

eqb_flips : (x y : ℕ) → eqb x y ≡ eqb y x
eqb_flips x y = grind (arith, nat_tests)

positions_apart : (n : ℕ) (order : List ℕ) → IsPermutation (range_with_len 0 n) order → AllPairs (λ x y. x ≢ y) order
positions_apart n order moved =
    AllPairs-from_IsDistinct Decides-eqb order
    (IsDistinct-IsPermutation eqb eqb_flips (range_with_len 0 n) order moved (IsDistinct-from_AllPairs Decides-eqb (range_with_len 0 n) (range_apart n)))

-- ---- the keys at two positions
module _ (keys : List MergeKey) (differ : AreApart keys) where
  apart_in_order : (x y : ℕ) (a b : MergeKey) → x < y → slice_get keys x ≡ Some a → slice_get keys y ≡ Some b → a.place ≡ b.place → a.n ≡ b.n → ⊥
  apart_in_order x y a b below at_x at_y place number =
      let here : get_or keys x a ≡ a = get_or_from_slice_get keys x a a at_x in
      let there : get_or keys y a ≡ b = get_or_from_slice_get keys y b a at_y in
      differ x y a below (slice_get_within keys y b at_y)
      (ap (λ (k : MergeKey). k.place) here ∙ place ∙ sym (ap (λ (k : MergeKey). k.place) there))
      (ap (λ (k : MergeKey). k.n) here ∙ number ∙ sym (ap (λ (k : MergeKey). k.n) there))

  apart_at : (x y : ℕ) (a b : MergeKey) → x ≢ y → slice_get keys x ≡ Some a → slice_get keys y ≡ Some b → a.place ≡ b.place → a.n ≡ b.n → ⊥
  apart_at x y a b other at_x at_y place number =
      elim (cases_lt x y) [
        | inl below ↦ apart_in_order x y a b below at_x at_y place number
        | inr above ↦ apart_in_order y x b a (omega (arith, above, other)) at_y at_x (sym place) (sym number)
      ]

  known : (p q : Option MergeKey) (a b : MergeKey) → p ≡ Some a → q ≡ Some b → is_lt (option_cmp key_cmp q p) ≡ false → is_lt (key_cmp b a) ≡ false
  known p q a b is_p is_q e =
      subst (λ (o : Option MergeKey). is_lt (option_cmp key_cmp o (Some a)) ≡ false) is_q
      (subst (λ (o : Option MergeKey). is_lt (option_cmp key_cmp q o) ≡ false) is_p e)

  pub sorted_order : (order : List ℕ) → IsPermutation (range_with_len 0 (length keys)) order → IsSortedByKey (slice_get keys) (option_cmp key_cmp) order → IsMergeOrder keys order
  sorted_order order moved up = record {
    all = moved;
    sorted = λ i j d below inside a b at_x at_y.
        comes_first a b (apart_at (get_or order i d) (get_or order j d) a b (positions_apart (length keys) order moved i j d below inside) at_x at_y)
        (known (slice_get keys (get_or order i d)) (slice_get keys (get_or order j d)) a b at_x at_y
        (sorted_far _ (ranks_by (options_total key_cmp_total) (slice_get keys)) order up i j d (omega (arith, below)) inside));
  }
