-- A key is found at its place.
use Rattle.std.proofs.Common.{◌≡◌, ◌<◌, ℕ, zero, suc, List, [], ◌∷◌, length, get_or, slice_get, Bool, true, ◌&&◌, nat_eq, Option, Some, None, refl, sym, ◌∙◌, ap, arith, inl, inr}
use Rattle.std.specs.Prelude.{IfSome, IfNone}
use Rattle.std.specs.List.{position}
use Rattle.std.specs.Str.{bytes_eq}
use Rattle.std.proofs.lemmas.Bool.{cases_Bool}
use Rattle.std.proofs.lemmas.Slice.Eq.{bytes_eq-Decides}
use Rattle.std.proofs.lemmas.List.Quantifiers.{position-Some}
use Rattle.interner.proofs.Positions.{position_none, none_passes}

-- the test tells keys apart
pub record IsExact {K : Type 0} (eq : K → K → Bool) : Type 0 where
  pub same : (a b : K) → eq a b ≡ true → a ≡ b
  pub self : (a : K) → eq a a ≡ true

pub exact_names : IsExact bytes_eq
exact_names = record {
  same = λ a b e. grind (arith, bytes_eq-Decides a b, e);
  self = λ a. grind (arith, bytes_eq-Decides a a);
}

abbrev pub pair_eq : ℕ × ℕ → ℕ × ℕ → Bool
pair_eq a b = nat_eq a.0 b.0 && nat_eq a.1 b.1

pub pair_same : (a b c d : ℕ) → pair_eq (a, b) (c, d) ≡ true → (let x : ℕ × ℕ = (a, b) in x) ≡ (c, d)
pair_same a b c d e = let first : a ≡ c = grind (arith, e) in let second : b ≡ d = grind (arith, e) in rw (first, second) refl

pair_self : (a b : ℕ) → pair_eq (a, b) (a, b) ≡ true
pair_self a b = grind arith

pub exact_pairs : IsExact pair_eq
exact_pairs = record { same = λ a b e. pair_same a.0 a.1 b.0 b.1 e; self = λ a. pair_self a.0 a.1 }

module _ {K : Type 0} (eq : K → K → Bool) (exact : IsExact eq) where
  got : (d : K) (ns : List K) (k : ℕ) → k < length ns → slice_get ns k ≡ Some (get_or ns k d)
  got d [] k inside = absurd (omega (arith, inside))
  got d (n ∷ ns) zero inside = refl
  got d (n ∷ ns) (suc k) inside = got d ns k (omega (arith, inside))

  pub place_some : (name : K) (ns : List K) (k : ℕ) → position (eq name) ns ≡ Some k → slice_get ns k ≡ Some name
  place_some name ns k e =
      let p = position-Some (eq name) ns k name e in
      got name ns k p.0 ∙ ap Some (sym (exact.same name (get_or ns k name) p.1))

  pub found : (name : K) (ns : List K) (o : Option ℕ) → o ≡ position (eq name) ns → IfSome o (λ k. slice_get ns k ≡ Some name)
  found name ns None e = tt
  found name ns (Some k) e = place_some name ns k (sym e)

  pub missed : (name : K) (ns : List K) (o : Option ℕ) → o ≡ position (eq name) ns → IfNone o ((k : ℕ) → slice_get ns k ≡ Some name → ⊥)
  missed name ns (Some k) e = tt
  missed name ns None e = λ k at. absurd (let other = none_passes (eq name) ns (sym e) k name at in let self = exact.self name in cc)

  pub absent : (name : K) (ns : List K) → ((k : ℕ) → slice_get ns k ≡ Some name → ⊥) → position (eq name) ns ≡ None
  absent name ns none = position_none (eq name) ns (λ k y at. elim (cases_Bool (eq name y)) [
    | inl same ↦ absurd (none k (at ∙ ap Some (sym (exact.same name y same))))
    | inr other ↦ other
  ])
