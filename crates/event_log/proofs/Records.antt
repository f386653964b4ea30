-- The fields of a record of four.
use Rattle.std.proofs.Common.{◌≡◌, ℕ, List, [], ◌∷◌, length, Option, Some, refl, arith}
use Rattle.csv.specs.Records.{field_at}
use Rattle.event_log.specs.declared.row.Kind.{Kind}
use Rattle.event_log.specs.declared.row.Row.{Row}

-- four fields in turn are all of them
pub four_are : (fields : List (List ℕ)) (a b c d : List ℕ) → length fields ≡ 4 → Some a ≡ field_at fields 0 → Some b ≡ field_at fields 1 → Some c ≡ field_at fields 2 → Some d ≡ field_at fields 3
    → fields ≡ a ∷ b ∷ c ∷ d ∷ []
unfolding field_at
four_are [] a b c d l e f g h = absurd (omega (arith, l))
four_are (x ∷ []) a b c d l e f g h = absurd (omega (arith, l))
four_are (x ∷ y ∷ []) a b c d l e f g h = absurd (omega (arith, l))
four_are (x ∷ y ∷ z ∷ []) a b c d l e f g h = absurd (omega (arith, l))
four_are (x ∷ y ∷ z ∷ w ∷ []) a b c d l e f g h = cc
four_are (x ∷ y ∷ z ∷ w ∷ v ∷ rest) a b c d l e f g h = absurd (omega (arith, l))

-- rows of one kind are equal where the rest is
pub row_same : (kind : Kind) (stamp stamp' : ℕ) (key key' : Option (List ℕ)) (text text' : List ℕ) → stamp ≡ stamp' → key ≡ key' → text ≡ text'
    → (let a : Row = record { stamp = stamp; kind = kind; key = key; text = text } in a) ≡ (let a : Row = record { stamp = stamp'; kind = kind; key = key'; text = text' } in a)
row_same kind stamp stamp' key key' text text' e f g = rw (e, f, g) refl
