-- Elements of lists, and how many there are.
use Rattle.std.proofs.Common.{◌≡◌, ◌≢◌, ◌⊎◌, inl, inr, ℕ, zero, suc, ◌+◌, ◌*◌, ◌<◌, ◌≤◌, List, [], ◌∷◌, ◌++◌, length, replicate, slice_get, slice_set, Some, true, nat_le, refl, sym, ◌∙◌, ap, arith, length-append}
use Rattle.std.proofs.lemmas.List.Folds.{sum_by-replicate}
use Rattle.traces.specs.Seen.{Seen}
use Rattle.traces.specs.Traces.{event_count}

pub some_same : {A : Type 0} (x y : A) → Some x ≡ Some y → x ≡ y
some_same x y e = cc

pub there_some : {A : Type 0} (xs : List A) (k : ℕ) → k < length xs → (x : A) × (slice_get xs k ≡ Some x)
there_some [] k inside = absurd (omega (arith, inside))
there_some (x ∷ xs) zero inside = (x, refl)
there_some (x ∷ xs) (suc k) inside = there_some xs k (omega (arith, inside))

-- two lists of as many elements, of which those at each place are one, are one
pub lists_same : {A : Type 0} (xs ys : List A) → length xs ≡ length ys → ((k : ℕ) (x y : A) → slice_get xs k ≡ Some x → slice_get ys k ≡ Some y → x ≡ y) → xs ≡ ys
lists_same [] [] long each = refl
lists_same [] (y ∷ ys) long each = absurd (omega (arith, long))
lists_same (x ∷ xs) [] long each = absurd (omega (arith, long))
lists_same {A} (x ∷ xs) (y ∷ ys) long each =
    let tail : xs ≡ ys = lists_same xs ys (omega (arith, long)) (λ k. each (suc k)) in
    ap (λ (z : A). z ∷ xs) (each 0 x y refl refl) ∙ ap (λ (zs : List A). y ∷ zs) tail

-- the place is the one that was set, or what stands there stood there
pub set_or_same : {A : Type 0} (xs : List A) (k j : ℕ) (x y : A) → slice_get (slice_set xs k x) j ≡ Some y → ((j ≡ k) × (y ≡ x)) ⊎ ((j ≢ k) × (slice_get xs j ≡ Some y))
set_or_same [] k j x y e = absurd cc
set_or_same (z ∷ xs) zero zero x y e = inl (refl, sym (some_same x y e))
set_or_same (z ∷ xs) zero (suc j) x y e = inr (λ same. omega (arith, same), e)
set_or_same (z ∷ xs) (suc k) zero x y e = inr (λ same. omega (arith, same), e)
set_or_same (z ∷ xs) (suc k) (suc j) x y e = next (set_or_same xs k j x y e)
  where
    next : ((j ≡ k) × (y ≡ x)) ⊎ ((j ≢ k) × (slice_get xs j ≡ Some y)) → ((suc j ≡ suc k) × (y ≡ x)) ⊎ ((suc j ≢ suc k) × (slice_get xs j ≡ Some y))
    next (inl p) = inl (ap suc p.0, p.1)
    next (inr p) = inr (λ same. p.0 (omega (arith, same)), p.1)

-- ---- one more
-- what stands in a list with one more stands in the list, or is the one more
pub snoc_parts : {A : Type 0} (xs : List A) (x : A) (k : ℕ) (y : A) → slice_get (xs ++ x ∷ []) k ≡ Some y → (slice_get xs k ≡ Some y) ⊎ ((k ≡ length xs) × (x ≡ y))
snoc_parts [] x zero y at = inr (refl, some_same x y at)
snoc_parts [] x (suc k) y at = absurd cc
snoc_parts (z ∷ xs) x zero y at = inl at
snoc_parts (z ∷ xs) x (suc k) y at = next (snoc_parts xs x k y at)
  where
    next : (slice_get xs k ≡ Some y) ⊎ ((k ≡ length xs) × (x ≡ y)) → (slice_get xs k ≡ Some y) ⊎ ((suc k ≡ suc (length xs)) × (x ≡ y))
    next (inl here) = inl here
    next (inr last) = inr (ap suc last.0, last.1)

pub snoc_long : {A : Type 0} (xs : List A) (x : A) → length (xs ++ x ∷ []) ≡ length xs + 1
snoc_long xs x = length-append xs (x ∷ [])

-- ---- numbers
pub le_true : (n most : ℕ) → nat_le n most ≡ true → n ≤ most
le_true n most e = grind (arith, e)

none_times : (n : ℕ) → n * 0 ≡ 0
none_times n = omega arith

pub none_counted : (n : ℕ) → event_count (replicate {A = List Seen} n []) ≡ 0
none_counted n = sum_by-replicate (λ (of_label : List Seen). length of_label) n [] ∙ none_times n
