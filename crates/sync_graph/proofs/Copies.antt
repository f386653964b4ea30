-- The nodes of a graph, taken over one by one.
use Rattle.std.proofs.Common.{◌≡◌, ℕ, zero, suc, ◌+◌, ◌<◌, List, [], ◌∷◌, ◌++◌, take, slice_get, Some, sym, ap, ◌∙◌, arith}
use Rattle.std.specs.Prelude.{◌≢◌, AllPairs}
use Rattle.std.proofs.lemmas.Option.{slice_get_within, get_or_from_slice_get}

-- an element among the first ones stands there among all
of_front : {X : Type 0} (xs : List X) (k j : ℕ) (x : X) → slice_get (take k xs) j ≡ Some x → (j < k) × (slice_get xs j ≡ Some x)
of_front xs zero j x at = absurd cc
of_front [] (suc k) j x at = absurd cc
of_front (y ∷ xs) (suc k) zero x at = (omega arith, at)
of_front (y ∷ xs) (suc k) (suc j) x at = let r : (j < k) × (slice_get xs j ≡ Some x) = of_front xs k j x at in (omega (arith, r.0), r.1)

same_some : {X : Type 0} (a b : X) → Some a ≡ Some b → a ≡ b
same_some a b e = cc

-- one more of the first elements
front_next : {X : Type 0} (xs : List X) (k : ℕ) (x : X) → slice_get xs k ≡ Some x → take (suc k) xs ≡ take k xs ++ x ∷ []
front_next [] k x at = absurd cc
front_next (y ∷ xs) zero x at = ap (λ v. v ∷ []) (same_some y x at)
front_next (y ∷ xs) (suc k) x at = ap (λ v. y ∷ v) (front_next xs k x at)

pub front_more : {X : Type 0} (xs : List X) (k : ℕ) (x : X) → slice_get xs k ≡ Some x → take (k + 1) xs ≡ take k xs ++ x ∷ []
front_more xs k x at = let e : k + 1 ≡ suc k = omega arith in ap (λ n. take n xs) e ∙ front_next xs k x at

-- where elements differ, none is among those before it
pub not_before : {X : Type 0} (xs : List X) (k : ℕ) (x : X) → AllPairs (λ m n. m ≢ n) xs → slice_get xs k ≡ Some x → (j : ℕ) → slice_get (take k xs) j ≡ Some x → ⊥
not_before xs k x differ at j there =
    let r = of_front xs k j x there in
    differ j k x r.0 (slice_get_within xs k x at) (get_or_from_slice_get xs j x x r.1 ∙ sym (get_or_from_slice_get xs k x x at))
