-- A binary search tells whether a number is among numbers that rise.
use Rattle.std.proofs.Common.{◌≡◌, ◌<◌, ◌≤◌, ℕ, List, length, get_or, Result, Ok, Err, refl, ◌∙◌, subst, arith, inl, inr}
use Rattle.std.specs.Prelude.{AllPairs, Contains, IsTrue, ◌↔◌}
use Rattle.std.specs.Ordering.{nat_cmp}
use Rattle.std.specs.Result.{is_ok}
use Rattle.std.specs.List.Sorted.{IsBinarySearchResult}
use Rattle.std.proofs.lemmas.Bool.{cases_lt}
use Rattle.std.proofs.lemmas.List.Sorted.{searched}
use Rattle.std.proofs.lemmas.Option.{slice_get-get_or, get_or_from_slice_get}

other_default : (xs : List ℕ) (k d e : ℕ) → k < length xs → get_or xs k d ≡ get_or xs k e
other_default xs k d e inside = get_or_from_slice_get xs k (get_or xs k e) d (slice_get-get_or xs k e inside)

in_order : (xs : List ℕ) → AllPairs (λ j k. j < k) xs → (i j : ℕ) → i ≤ j → j < length xs → get_or xs i 0 ≤ get_or xs j 0
in_order xs rising i j le inside = elim (cases_lt i j) [
  | inl below ↦ (let less : get_or xs i 0 < get_or xs j 0 = rising i j 0 below inside in omega (arith, less))
  | inr le' ↦ (let same : i ≡ j = omega (arith, le, le') in subst (λ (k : ℕ). get_or xs i 0 ≤ get_or xs k 0) same (omega arith))
]

pub found_is : (xs : List ℕ) (x : ℕ) (r : Result ℕ ℕ) → AllPairs (λ j k. j < k) xs → IsBinarySearchResult (λ y. nat_cmp y x) xs r → IsTrue (is_ok r) ↔ Contains xs x
found_is xs x (Ok i) rising found =
    let at = searched xs x (Ok i) found (in_order xs rising) in
    (λ yes. (i, at.0, other_default xs i x 0 at.0 ∙ at.1), λ there. refl)
found_is xs x (Err i) rising found =
    let past = searched xs x (Err i) found (in_order xs rising) in
    (λ yes. absurd cc, λ there. absurd (missed past there))
  where
    missed : (i ≤ length xs) × ((k : ℕ) → k < i → get_or xs k 0 < x) × ((k : ℕ) → i ≤ k → k < length xs → x < get_or xs k 0) → Contains xs x → ⊥
    missed past (k, inside, is) =
        let here : get_or xs k 0 ≡ x = other_default xs k 0 x inside ∙ is in
        elim (cases_lt k i) [
          | inl below ↦ (let less = past.1 k below in omega (arith, less, here))
          | inr le ↦ (let more = past.2 k le inside in omega (arith, more, here))
        ]
