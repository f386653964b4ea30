-- A binary search finds a tap that is there, and its place is its number.
use Rattle.std.proofs.Common.{◌≡◌, ◌<◌, ◌≤◌, ◌⊎◌, ℕ, zero, suc, List, [], ◌∷◌, length, get_or, slice_get, Some, true, false, ◌==◌, ◌&&◌, subst, refl, ap, ◌∙◌, arith, inl, inr}
use Rattle.std.specs.Prelude.{AllPairs, Contains}
use Rattle.std.specs.declared.cmp.Ordering.TheVariants.{Less, Equal, Greater}
use Rattle.std.specs.Ordering.{nat_cmp, ordering_then, ordering_index}
use Rattle.std.specs.List.Sorted.{IsNonDecreasingBy, IsPartitionPoint}
use Rattle.std.proofs.lemmas.Bool.{cases_lt}
use Rattle.std.proofs.lemmas.Bool.Decides.{nat_tests}
use Rattle.merged_blocks.specs.declared.taps.Tap.{Tap}
use Rattle.merged_blocks.specs.Taps.{StandsBefore, is_same, number_of}
use Rattle.merged_blocks.proofs.TapOrder.{tap_order, tap_same}

-- ---- a tap that is there
later_index : (a b r : Tap) → StandsBefore a b → ordering_index (tap_order a r) ≤ ordering_index (tap_order b r)
later_index a b r (inl less) = grind (arith, less)
later_index a b r (inr later) = let same = later.0 in let less = later.1 in grind (arith, same, less)

self_equal : (r : Tap) → tap_order r r ≡ Equal
self_equal r = grind arith

not_less : (r : Tap) → tap_order r r ≡ Less → ⊥
not_less r e = let same = self_equal r in absurd cc

not_greater : (r : Tap) → tap_order r r ≡ Greater → ⊥
not_greater r e = let same = self_equal r in absurd cc

rising_index : (taps : List Tap) (r : Tap) → AllPairs StandsBefore taps → IsNonDecreasingBy (λ y. ordering_index (tap_order y r)) taps
rising_index taps r rising i j d le inside =
    elim (cases_lt i j) [
      | inl below ↦ later_index (get_or taps i d) (get_or taps j d) r (rising i j d below inside)
      | inr le' ↦ let same : i ≡ j = omega (arith, le, le') in subst (λ (k : ℕ). ordering_index (tap_order (get_or taps i d) r) ≤ ordering_index (tap_order (get_or taps k d) r)) same (omega arith)
    ]

pub not_missed : (taps : List Tap) (r : Tap) (place : ℕ) → AllPairs StandsBefore taps → Contains taps r →
    (IsNonDecreasingBy (λ y. ordering_index (tap_order y r)) taps → IsPartitionPoint (λ y. tap_order y r ≡ Less) (λ y. tap_order y r ≡ Greater) taps place) → ⊥
not_missed taps r place rising (k, inside, is) parted =
    let point = parted (rising_index taps r rising) in
    elim (cases_lt k place) [
      | inl below ↦ not_less r (subst (λ (v : Tap). tap_order v r ≡ Less) is (point.0 k r (omega arith) below))
      | inr le ↦ not_greater r (subst (λ (v : Tap). tap_order v r ≡ Greater) is (point.1 k r le inside))
    ]

-- ---- its number
equal_both : (a b c d : ℕ) → ordering_then (nat_cmp a c) (nat_cmp b d) ≡ Equal → (a ≡ c) × (b ≡ d)
equal_both a b c d e = (grind (arith, nat_tests, e), grind (arith, nat_tests, e))

pub equal_same : (a b : Tap) → tap_order a b ≡ Equal → a ≡ b
equal_same a b e = let same = equal_both a.place a.link b.place b.link e in tap_same a b same.0 same.1

same_true : (a b : ℕ) → (a == a) && (b == b) ≡ true
same_true a b = grind (arith, nat_tests)

same_false : (a b c d : ℕ) → (a < c) ⊎ ((a ≡ c) × (b < d)) → (a == c) && (b == d) ≡ false
same_false a b c d (inl below) = grind (arith, nat_tests, below)
same_false a b c d (inr later) = let same = later.0 in let less = later.1 in grind (arith, nat_tests, same, less)

rest_sorted : (a : Tap) (taps : List Tap) → AllPairs StandsBefore (a ∷ taps) → AllPairs StandsBefore taps
rest_sorted a taps sorted i j d lt inside = sorted (suc i) (suc j) d (omega (arith, lt)) (omega (arith, inside))

pub number_is : (taps : List Tap) (tap : Tap) (k : ℕ) (d : Tap) → AllPairs StandsBefore taps → k < length taps → get_or taps k d ≡ tap → number_of taps tap ≡ k
number_is [] tap k d sorted inside is = absurd (omega (arith, inside))
number_is (a ∷ taps) tap zero d sorted inside is =
    let own : is_same a tap ≡ true = subst (λ (t : Tap). is_same a t ≡ true) is (same_true a.place a.link) in
    rw own refl
number_is (a ∷ taps) tap (suc k) d sorted inside is =
    let before : StandsBefore a tap = subst (StandsBefore a) is (sorted 0 (suc k) d (omega arith) inside) in
    let other : is_same a tap ≡ false = same_false a.place a.link tap.place tap.link before in
    let more : number_of taps tap ≡ k = number_is taps tap k d (rest_sorted a taps sorted) (omega (arith, inside)) is in
    rw (other, more) (omega arith)

at_place : (taps : List Tap) (tap : Tap) (k : ℕ) (d : Tap) → k < length taps → get_or taps k d ≡ tap → slice_get taps k ≡ Some tap
at_place [] tap k d inside is = absurd (omega (arith, inside))
at_place (a ∷ taps) tap zero d inside is = ap Some is
at_place (a ∷ taps) tap (suc k) d inside is = at_place taps tap k d (omega (arith, inside)) is

-- at the number of a tap that is there stands this tap
pub number_there : (taps : List Tap) (tap : Tap) → AllPairs StandsBefore taps → Contains taps tap → (number_of taps tap < length taps) × (slice_get taps (number_of taps tap) ≡ Some tap)
number_there taps tap sorted (k, inside, is) =
    let same : number_of taps tap ≡ k = number_is taps tap k tap sorted inside is in
    (omega (arith, same, inside), ap (λ (n : ℕ). slice_get taps n) same ∙ at_place taps tap k tap inside is)
