-- Labels by their names: what the place says that a declaration gives.
use Rattle.std.proofs.Common.{◌≡◌, ◌≢◌, ℕ, zero, suc, ◌+◌, ◌<◌, List, [], ◌∷◌, get_or, length, position, slice_get, Bool, true, false, Option, Some, None, refl, sym, ◌∙◌, subst, arith}
use Rattle.std.specs.List.{position_from}
use Rattle.std.specs.Str.{bytes_eq}
use Rattle.std.proofs.lemmas.Iterator.Adapters.{position_from-zero}
use Rattle.std.proofs.lemmas.List.Quantifiers.{position-Some}
use Rattle.std.proofs.lemmas.Option.{none-some, same_Some, get_or_from_slice_get}
use Rattle.std.proofs.lemmas.Slice.Eq.{bytes_eq-Decides}
use Rattle.decl.specs.declared.items.Label.{Label}
use Rattle.traces.proofs.Lists.{got}

module _ (name : List ℕ) where
  abbrev HasName : Label → Bool
  HasName l = bytes_eq l.name name

  named : (l : Label) → HasName l ≡ true → l.name ≡ name
  named l e = grind (arith, bytes_eq-Decides l.name name, e)

  -- the label at the place that is found has the name
  pub label_there : (labels : List Label) (k : ℕ) → Some k ≡ position HasName labels → (l : Label) × (slice_get labels k ≡ Some l) × (l.name ≡ name)
  label_there [] k found = let none : Some k ≡ None = found in absurd cc
  label_there (x ∷ labels) k found =
      let at = position-Some HasName (x ∷ labels) k x (sym found) in
      let l = got (x ∷ labels) k at.0 in
      let is : get_or (x ∷ labels) k x ≡ l.0 = get_or_from_slice_get (x ∷ labels) k l.0 x l.1 in
      (l.0, l.1, named l.0 (subst (λ (y : Label). HasName y ≡ true) is at.1))

  nowhere : (i : ℕ) (labels : List Label) → position_from HasName i labels ≡ None → (k : ℕ) (l : Label) → slice_get labels k ≡ Some l → l.name ≢ name
  nowhere i [] none = λ k l at same. absurd (none-some l at)
  nowhere i (x ∷ labels) none = by (HasName x) refl (nowhere (i + 1) labels)
    where
      by : (b : Bool) → HasName x ≡ b → (position_from HasName (i + 1) labels ≡ None → (k : ℕ) (l : Label) → slice_get labels k ≡ Some l → l.name ≢ name)
          → (k : ℕ) (l : Label) → slice_get (x ∷ labels) k ≡ Some l → l.name ≢ name
      by true e rest k l at same = let some : Some i ≡ None = rw e at none in absurd cc
      by false e rest zero l at same =
          let here : x ≡ l = same_Some x l at in
          grind (arith, bytes_eq-Decides x.name name, e, here, same)
      by false e rest (suc k) l at same = rest (rw e at none) k l at same

  -- where no place is found no label has it
  pub label_nowhere : (labels : List Label) → None ≡ position HasName labels → (k : ℕ) (l : Label) → slice_get labels k ≡ Some l → l.name ≢ name
  label_nowhere labels found = nowhere 0 labels (sym (found ∙ position_from-zero HasName labels))
