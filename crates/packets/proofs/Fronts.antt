-- Whether bytes are a front of others.
use Rattle.std.proofs.Common.{◌≡◌, ◌⊎◌, ℕ, List, [], ◌∷◌, ◌++◌, refl, inl, inr}
use Rattle.std.proofs.lemmas.Bool.{cases_eq}
use Rattle.packets.specs.Streams.{IsFrontOf}

pub is_front : (front whole : List ℕ) → IsFrontOf front whole ⊎ (IsFrontOf front whole → ⊥)
is_front [] whole = inl (whole, refl)
is_front (x ∷ front) [] = inr (λ h. absurd (cc (h.1)))
is_front (x ∷ front) (y ∷ whole) =
    elim (cases_eq x y) [
      | inl same ↦ elim (is_front front whole) [
        | inl h ↦ inl (h.0, grown x y (front ++ h.0) whole same h.1)
        | inr other ↦ inr (λ h. other (h.0, cc (h.1)))
      ]
      | inr other ↦ inr (λ h. other (cc (h.1)))
    ]
  where
    grown : (x y : ℕ) (xs ys : List ℕ) → x ≡ y → xs ≡ ys → x ∷ xs ≡ y ∷ ys
    grown x y xs ys p q = cc
