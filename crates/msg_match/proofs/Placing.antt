-- Whether an element passes a test, and its place.
use Rattle.std.proofs.Common.{◌≡◌, ◌+◌, ℕ, List, [], ◌∷◌, Bool, true, false, Option, Some, None, position, inl, inr, refl, sym, ap, ◌∙◌}
use Rattle.std.specs.Prelude.{is_some}
use Rattle.std.specs.List.{list_any, position_from}
use Rattle.std.proofs.lemmas.Bool.{cases_Bool, false≢true}
use Rattle.std.proofs.lemmas.Iterator.Adapters.{position_from-zero}

placed_from : {T : Type 0} (p : T → Bool) (i : ℕ) (xs : List T) → is_some (position_from p i xs) ≡ list_any p xs
placed_from p i [] = refl
placed_from p i (x ∷ xs) = elim (cases_Bool (p x)) [
  | inl t ↦ rw t refl
  | inr f ↦ rw f (placed_from p (i + 1) xs)
]

-- there is a place exactly where some element passes
pub placed : {T : Type 0} (p : T → Bool) (xs : List T) → is_some (position p xs) ≡ list_any p xs
placed p xs = ap is_some (position_from-zero p xs) ∙ placed_from p 0 xs

pub none_any : {T : Type 0} (p : T → Bool) (xs : List T) → position p xs ≡ None → list_any p xs ≡ false
none_any p xs is = sym (placed p xs) ∙ ap is_some is

pub some_any : {T : Type 0} (p : T → Bool) (xs : List T) (k : ℕ) → position p xs ≡ Some k → list_any p xs ≡ true
some_any p xs k is = sym (placed p xs) ∙ ap is_some is

is_none : {T : Type 0} (o : Option T) → is_some o ≡ false → o ≡ None
is_none None none = refl
is_none (Some x) none = absurd (false≢true (sym none))

pub no_place : {T : Type 0} (p : T → Bool) (xs : List T) → list_any p xs ≡ false → position p xs ≡ None
no_place p xs none = is_none (position p xs) (placed p xs ∙ none)
