-- A binary search finds a reading that is there.
use Rattle.std.proofs.Common.{◌≡◌, ◌≤◌, ℕ, List, get_or, subst, arith, inl, inr}
use Rattle.std.specs.Prelude.{AllPairs, Contains}
use Rattle.std.specs.declared.cmp.Ordering.{Ordering}
use Rattle.std.specs.declared.cmp.Ordering.TheVariants.{Less, Equal, Greater}
use Rattle.std.specs.Ordering.{nat_cmp, ordering_then, ordering_index}
use Rattle.std.specs.List.Sorted.{IsNonDecreasingBy, IsPartitionPoint}
use Rattle.std.proofs.lemmas.Bool.{cases_lt}
use Rattle.problem_model.specs.Nodes.{Reading, IsEarlierReading}

abbrev pub reading_cmp : Reading → Reading → Ordering
reading_cmp a b = ordering_then (nat_cmp a.0 b.0) (nat_cmp a.1 b.1)

later_index : (a b r : Reading) → IsEarlierReading a b → ordering_index (reading_cmp a r) ≤ ordering_index (reading_cmp b r)
later_index a b r (inl less) = grind (arith, less)
later_index a b r (inr later) = let same = later.0 in let less = later.1 in grind (arith, same, less)

self_equal : (r : Reading) → reading_cmp r r ≡ Equal
self_equal r = grind arith

not_less : (r : Reading) → reading_cmp r r ≡ Less → ⊥
not_less r e = let same = self_equal r in absurd cc

not_greater : (r : Reading) → reading_cmp r r ≡ Greater → ⊥
not_greater r e = let same = self_equal r in absurd cc

rising_index : (readings : List Reading) (r : Reading) → AllPairs IsEarlierReading readings → IsNonDecreasingBy (λ y. ordering_index (reading_cmp y r)) readings
rising_index readings r rising i j d le inside =
    elim (cases_lt i j) [
      | inl below ↦ later_index (get_or readings i d) (get_or readings j d) r (rising i j d below inside)
      | inr le' ↦ let same : i ≡ j = omega (arith, le, le') in subst (λ (k : ℕ). ordering_index (reading_cmp (get_or readings i d) r) ≤ ordering_index (reading_cmp (get_or readings k d) r)) same (omega arith)
    ]

pub not_missed : (readings : List Reading) (r : Reading) (place : ℕ) → AllPairs IsEarlierReading readings → Contains readings r →
    (IsNonDecreasingBy (λ y. ordering_index (reading_cmp y r)) readings → IsPartitionPoint (λ y. reading_cmp y r ≡ Less) (λ y. reading_cmp y r ≡ Greater) readings place) → ⊥
not_missed readings r place rising (k, inside, is) parted =
    let point = parted (rising_index readings r rising) in
    elim (cases_lt k place) [
      | inl below ↦ not_less r (subst (λ (v : Reading). reading_cmp v r ≡ Less) is (point.0 k r (omega arith) below))
      | inr le ↦ not_greater r (subst (λ (v : Reading). reading_cmp v r ≡ Greater) is (point.1 k r le inside))
    ]
