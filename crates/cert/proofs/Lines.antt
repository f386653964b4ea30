-- What stands at a place of two lists in a row.
use Rattle.std.proofs.Common.{◌≡◌, ◌+◌, List, [], ◌∷◌, ◌++◌, ℕ, zero, suc, length, map, slice_get, Some, ◌∙◌, ap, arith}
use Rattle.std.specs.List.{slice_index_or}
pub use Rattle.problem.proofs.Naming.{name_found}

-- what is looked up is what stands at that place
pub index_found : {A : Type 0} (xs : List A) (k : ℕ) (x d : A) → slice_get xs k ≡ Some x → slice_index_or xs k d ≡ x
index_found [] k x d at = absurd cc
index_found (y ∷ xs) zero x d at = cc
index_found (y ∷ xs) (suc k) x d at = index_found xs k x d at

-- a list of what becomes of items, and more behind it
pub found_in_front : {A B : Type 0} (f : A → B) (xs : List A) (more : List B) (k : ℕ) (x : A) (d : B) → slice_get xs k ≡ Some x → slice_index_or (map f xs ++ more) k d ≡ f x
found_in_front f [] more k x d at = absurd cc
found_in_front f (y ∷ xs) more zero x d at = let same : y ≡ x = cc in ap f same
found_in_front f (y ∷ xs) more (suc k) x d at = found_in_front f xs more k x d at

pub found_behind : {A B C : Type 0} (f : A → B) (g : C → B) (xs : List A) (ys : List C) (k m : ℕ) (y : C) (d : B) → k ≡ length xs + m → slice_get ys m ≡ Some y
    → slice_index_or (map f xs ++ map g ys) k d ≡ g y
found_behind f g [] ys k m y d is at =
    let same : k ≡ m = omega (arith, is) in
    let there : slice_get (map g ys) m ≡ Some (g y) = mapped g ys m y at in
    ap (λ (n : ℕ). slice_index_or (map g ys) n d) same ∙ index_found (map g ys) m (g y) d there
  where
    mapped : {A B : Type 0} (g : A → B) (ys : List A) (m : ℕ) (y : A) → slice_get ys m ≡ Some y → slice_get (map g ys) m ≡ Some (g y)
    mapped g [] m y at = absurd cc
    mapped g (x ∷ ys) zero y at = let same : x ≡ y = cc in ap (λ (z : _). Some (g z)) same
    mapped g (x ∷ ys) (suc m) y at = mapped g ys m y at
found_behind f g (x ∷ xs) ys zero m y d is at = absurd (omega (arith, is))
found_behind f g (x ∷ xs) ys (suc k) m y d is at = found_behind f g xs ys k m y d (omega (arith, is)) at
