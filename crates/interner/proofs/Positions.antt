-- The place of the first element that passes a test.
use Rattle.std.proofs.Common.{◌≡◌, ◌+◌, ◌<◌, ℕ, zero, suc, List, [], ◌∷◌, length, slice_get, Bool, true, false, cond, Some, None, refl, sym, ◌∙◌, ap, subst, arith, inl, inr, position}
use Rattle.std.specs.List.{position_from}
use Rattle.std.proofs.lemmas.Bool.{cases_Bool}
use Rattle.std.proofs.lemmas.Iterator.Adapters.{position_from-zero}
use Rattle.std.proofs.lemmas.Option.{slice_get_within}

same_some : {X : Type 0} (a b : X) → Some a ≡ Some b → a ≡ b
same_some a b e = cc

module _ {T : Type 0} (p : T → Bool) where
  -- x stands at k, passes, and is the first to do so
  abbrev pub IsFirstAt : List T → ℕ → T → Type 0
  IsFirstAt xs k x = (slice_get xs k ≡ Some x) × (p x ≡ true) × ((j : ℕ) (y : T) → j < k → slice_get xs j ≡ Some y → p y ≡ false)

  hit : (i : ℕ) (xs : List T) (k : ℕ) (y : T) → slice_get xs k ≡ Some y → p y ≡ true → ((j : ℕ) (z : T) → j < k → slice_get xs j ≡ Some z → p z ≡ false) → position_from p i xs ≡ Some (i + k)
  hit i [] k y at passes first = absurd cc
  hit i (x ∷ xs) zero y at passes first = let here : p x ≡ true = ap p (same_some x y at) ∙ passes in rw here (ap Some (omega arith))
  hit i (x ∷ xs) (suc k) y at passes first =
      let off : p x ≡ false = first 0 x (omega arith) refl in
      rw off (hit (i + 1) xs k y at passes (λ j z less there. first (suc j) z (omega (arith, less)) there) ∙ ap Some (omega arith))

  miss : (i : ℕ) (xs : List T) → ((j : ℕ) (z : T) → slice_get xs j ≡ Some z → p z ≡ false) → position_from p i xs ≡ None
  miss i [] none = refl
  miss i (x ∷ xs) none = rw (none 0 x refl) (miss (i + 1) xs (λ j z there. none (suc j) z there))

  found_from : (i : ℕ) (xs : List T) (n : ℕ) → position_from p i xs ≡ Some n → (k : ℕ) × (x : T) × (n ≡ i + k) × IsFirstAt xs k x
  found_from i [] n is = absurd cc
  found_from i (x ∷ xs) n is = elim (cases_Bool (p x)) [
    | inl t ↦ (0, x, (let here : i ≡ n = same_some i n (subst (λ b. cond b (Some i) (position_from p (i + 1) xs) ≡ Some n) t is) in omega (arith, here)), (refl, t, λ j y less there. absurd (omega (arith, less))))
    | inr f ↦ (
        let later = found_from (i + 1) xs n (subst (λ b. cond b (Some i) (position_from p (i + 1) xs) ≡ Some n) f is) in
        let off : (j : ℕ) (y : T) → j < suc later.0 → slice_get (x ∷ xs) j ≡ Some y → p y ≡ false = before x xs later.0 f later.3.2 in
        (suc later.0, later.1, omega (arith, later.2), (later.3.0, later.3.1, off)))
  ]
    where
      before : (x : T) (xs : List T) (k : ℕ) → p x ≡ false → ((j : ℕ) (y : T) → j < k → slice_get xs j ≡ Some y → p y ≡ false) → (j : ℕ) (y : T) → j < suc k → slice_get (x ∷ xs) j ≡ Some y → p y ≡ false
      before x xs k f rest zero y less there = ap p (sym (same_some x y there)) ∙ f
      before x xs k f rest (suc j) y less there = rest j y (omega (arith, less)) there

  missed_from : (i : ℕ) (xs : List T) → position_from p i xs ≡ None → (j : ℕ) (y : T) → slice_get xs j ≡ Some y → p y ≡ false
  missed_from i [] is j y there = absurd cc
  missed_from i (x ∷ xs) is zero y there = elim (cases_Bool (p x)) [
    | inl t ↦ absurd (let here : Some i ≡ None = subst (λ b. cond b (Some i) (position_from p (i + 1) xs) ≡ None) t is in let z : ⊥ = cc in z)
    | inr f ↦ ap p (sym (same_some x y there)) ∙ f
  ]
  missed_from i (x ∷ xs) is (suc j) y there = elim (cases_Bool (p x)) [
    | inl t ↦ absurd (let here : Some i ≡ None = subst (λ b. cond b (Some i) (position_from p (i + 1) xs) ≡ None) t is in let z : ⊥ = cc in z)
    | inr f ↦ missed_from (i + 1) xs (subst (λ b. cond b (Some i) (position_from p (i + 1) xs) ≡ None) f is) j y there
  ]

  -- where x is the first that passes, and stands at k, the place is k
  pub position_is : (xs : List T) (k : ℕ) (x : T) → IsFirstAt xs k x → position p xs ≡ Some k
  position_is xs k x first = position_from-zero p xs ∙ hit 0 xs k x first.0 first.1 first.2 ∙ ap Some (omega arith)

  -- where none passes, there is no place
  pub position_none : (xs : List T) → ((j : ℕ) (y : T) → slice_get xs j ≡ Some y → p y ≡ false) → position p xs ≡ None
  position_none xs none = position_from-zero p xs ∙ miss 0 xs none

  -- what stands at the place
  pub first_at : (xs : List T) (k : ℕ) → position p xs ≡ Some k → (x : T) × IsFirstAt xs k x
  first_at xs k is =
      let found = found_from 0 xs k (sym (position_from-zero p xs) ∙ is) in
      let at : found.0 ≡ k = omega (arith, found.2) in
      (found.1, subst (λ n. IsFirstAt xs n found.1) at found.3)

  -- a place is within the list
  pub place_within : (xs : List T) (k : ℕ) → position p xs ≡ Some k → k < length xs
  place_within xs k is = let found = first_at xs k is in slice_get_within xs k found.0 found.1.0

  -- where there is no place, none passes
  pub none_passes : (xs : List T) → position p xs ≡ None → (j : ℕ) (y : T) → slice_get xs j ≡ Some y → p y ≡ false
  none_passes xs is = missed_from 0 xs (sym (position_from-zero p xs) ∙ is)
