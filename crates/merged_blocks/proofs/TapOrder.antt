-- The taps of packets: how they are made, and that they are one list.
use Rattle.std.proofs.Common.{◌≡◌, ◌<◌, ◌⊎◌, ℕ, suc, zero, List, [], ◌∷◌, map, Bool, true, ◌&&◌, nat_eq, Ordering, Less, Equal, Greater, Contains, inl, inr, refl, sym, ◌∙◌, ap, subst, arith}
use Rattle.std.specs.List.{dedup}
use Rattle.std.specs.List.Sorted.{IsSorted, IsPermutation}
use Rattle.std.specs.List.Retain.{IsFiltered, DiffersFromLast}
use Rattle.std.specs.Ordering.{nat_cmp, ordering_then, eq_by_cmp, is_eq}
use Rattle.std.specs.Cmp.{IsTotalOrder, IsEquivalence, both_tied}
use Rattle.std.proofs.lemmas.Cmp.{ranked, then_total, on_total, nat_cmp_total, nat_eq_equiv, on_equiv, and_equiv}
use Rattle.std.proofs.lemmas.Bool.{cases_lt}
use Rattle.std.proofs.lemmas.Bool.Decides.{nat_tests}
use Rattle.std.proofs.lemmas.List.Sorted.{Contains-permutation, IsPermutation-sym}
use Rattle.std.proofs.lemmas.List.Filters.{dedup_is}
use Rattle.std.proofs.lemmas.List.Kept.{Contains-dedup, Contains-from_dedup, IsStrictlySortedBy-dedup}
use Rattle.std.proofs.lemmas.Map.Keys.{Less-from_sorted}
use Rattle.mergecap.specs.declared.stored.Stored.{Stored}
use Rattle.mergecap.specs.MergedCapture.{Timed}
use Rattle.mergecap.specs.Packets.{timed, all_timed}
use Rattle.merged_blocks.specs.declared.taps.Tap.{Tap}
use Rattle.merged_blocks.specs.Taps.{AreTapsOf, StandsBefore, tap_of}

-- ---- the order of the code
abbrev pub tap_order : Tap → Tap → Ordering
tap_order a b = ordering_then (nat_cmp a.place b.place) (nat_cmp a.link b.link)

abbrev pub tap_eq : Tap → Tap → Bool
tap_eq a b = nat_eq a.place b.place && nat_eq a.link b.link

less_before : (a b c d : ℕ) → ordering_then (nat_cmp a c) (nat_cmp b d) ≡ Less → (a < c) ⊎ ((a ≡ c) × (b < d))
less_before a b c d e =
    elim (cases_lt a c) [
      | inl below ↦ inl below
      | inr above ↦
          elim (cases_lt c a) [
            | inl over ↦ absurd (let greater : nat_cmp a c ≡ Greater = grind (arith, nat_tests) in let h = rw greater at e in cc)
            | inr under ↦
                let same : a ≡ c = omega (arith, above, under) in
                let equal : nat_cmp a c ≡ Equal = grind (arith, nat_tests) in
                let less : nat_cmp b d ≡ Less = rw equal at e in
                inr (same, ranked b d Less (sym less))
          ]
    ]

before_of_less : (a b : Tap) → tap_order a b ≡ Less → StandsBefore a b
before_of_less a b e = less_before a.place a.link b.place b.link e

pub tap_same : (a b : Tap) → a.place ≡ b.place → a.link ≡ b.link → a ≡ b
tap_same a b places links =
    ap (λ (p : ℕ). let t : Tap = record { place = p; link = a.link } in t) places ∙ ap (λ (l : ℕ). let t : Tap = record { place = b.place; link = l } in t) links

-- ---- all taps at once
pub each_of : (ss : List Stored) → map (λ (s : Stored). tap_of (timed s)) ss ≡ map tap_of (all_timed ss)
each_of [] = refl
each_of (s ∷ ss) = ap (λ (taps : List Tap). tap_of (timed s) ∷ taps) (each_of ss)

from_map : (ts : List Timed) (tap : Tap) → Contains (map tap_of ts) tap → (t : Timed) × Contains ts t × (tap_of t ≡ tap)
from_map [] tap c = absurd (let inside = c.1 in omega (arith, inside))
from_map (t ∷ ts) tap (zero, inside, is) = (t, (0, omega arith, refl), is)
from_map (t ∷ ts) tap (suc k, inside, is) = let s = from_map ts tap (k, omega (arith, inside), is) in (s.0, (suc s.1.0, (let lt = s.1.1 in omega (arith, lt)), s.1.2), s.2)

into_map : (ts : List Timed) (t : Timed) → Contains ts t → Contains (map tap_of ts) (tap_of t)
into_map [] t c = absurd (let inside = c.1 in omega (arith, inside))
into_map (x ∷ ts) t (zero, inside, is) = (0, omega arith, ap tap_of is)
into_map (x ∷ ts) t (suc k, inside, is) = let s = into_map ts t (k, omega (arith, inside), is) in (suc s.0, (let lt = s.1 in omega (arith, lt)), s.2)

cmp_total : IsTotalOrder tap_order
cmp_total = then_total (on_total (λ (t : Tap). t.place) nat_cmp_total) (on_total (λ (t : Tap). t.link) nat_cmp_total)

eq_equiv : IsEquivalence tap_eq
eq_equiv = and_equiv (on_equiv (λ (t : Tap). t.place) nat_eq_equiv) (on_equiv (λ (t : Tap). t.link) nat_eq_equiv)

numbers_same : (a b c d : ℕ) → nat_eq a c && nat_eq b d ≡ true → (a ≡ c) × (b ≡ d)
numbers_same a b c d e = (grind (arith, nat_tests, e), grind (arith, nat_tests, e))

eq_same : (x y : Tap) → tap_eq x y ≡ true → x ≡ y
eq_same x y e = let same = numbers_same x.place x.link y.place y.link e in tap_same x y same.0 same.1

eq_tied : (a b : ℕ) → nat_eq a b ≡ is_eq (nat_cmp a b)
eq_tied a b = grind (arith, nat_tests)

ties : (x y : Tap) → tap_eq x y ≡ eq_by_cmp tap_order x y
ties x y = both_tied (nat_eq x.place y.place) (nat_eq x.link y.link) (nat_cmp x.place y.place) (nat_cmp x.link y.link) (eq_tied x.place y.place) (eq_tied x.link y.link)

pub taps_made : (ss : List Stored) (xs ys zs : List Tap) → xs ≡ map (λ (s : Stored). tap_of (timed s)) ss → IsPermutation xs ys → IsSorted tap_order ys → IsFiltered (DiffersFromLast tap_eq) [] ys zs → AreTapsOf (all_timed ss) zs
taps_made ss xs ys zs all shuffled sorted filtered =
    let is : zs ≡ dedup tap_eq ys = dedup_is tap_eq ys zs filtered in
    let each : xs ≡ map tap_of (all_timed ss) = all ∙ each_of ss in
    rw is (record {
      each = λ tap c.
          let in_ys = Contains-from_dedup tap_eq ys tap c in
          let in_xs = Contains-permutation ys xs tap (IsPermutation-sym xs ys shuffled) in_ys in
          from_map (all_timed ss) tap (subst (λ (taps : List Tap). Contains taps tap) each in_xs);
      every = λ t c.
          let in_xs = subst (λ (taps : List Tap). Contains taps (tap_of t)) (sym each) (into_map (all_timed ss) t c) in
          Contains-dedup eq_equiv eq_same ys (tap_of t) (Contains-permutation xs ys (tap_of t) shuffled in_xs);
      sorted = λ i j d lt inside. before_of_less _ _ (Less-from_sorted tap_order (dedup tap_eq ys) i j d (IsStrictlySortedBy-dedup cmp_total ties ys sorted) lt inside);
    })
