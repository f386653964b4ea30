-- Keys by a test that tells them exactly: a list with each key once.
use Rattle.std.proofs.Common.{◌≡◌, ℕ, ◌<◌, List, [], ◌∷◌, ◌++◌, length, get_or, Bool, true, false, not, ◌||◌, inl, inr, refl, sym, ap, ◌∙◌, subst}
use Rattle.std.specs.Prelude.{filter}
use Rattle.std.specs.List.{list_any}
use Rattle.std.proofs.lemmas.Bool.{cases_Bool, false≢true, or_parts, or_cases}
use Rattle.std.proofs.lemmas.List.{append-nil}
use Rattle.std.proofs.lemmas.List.Elements.{filter-append}
use Rattle.std.proofs.lemmas.List.Folds.{list_any_at}
use Rattle.msg_match.specs.Groups.{each_once}

-- no key is among those behind it
abbrev pub AreApart : {K : Type 0} → (K → K → Bool) → List K → Type 0
AreApart eq [] = Unit {0}
AreApart eq (k ∷ ks) = (list_any (eq k) ks ≡ false) × AreApart eq ks

-- the test tells keys exactly
pub record IsExact {K : Type 0} (eq : K → K → Bool) : Type 0 where
  pub one : (a b : K) → eq a b ≡ true → a ≡ b
  pub own : (a : K) → eq a a ≡ true

module _ {K : Type 0} (eq : K → K → Bool) (exact : IsExact eq) where
  true_back : (a b : K) → eq a b ≡ true → eq b a ≡ true
  true_back a b same = let is : a ≡ b = exact.one a b same in subst (λ (x : K). eq x a ≡ true) is (exact.own a)

  -- it does not matter which key comes first
  pub turned : (a b : K) → eq a b ≡ eq b a
  turned a b = elim (cases_Bool (eq a b)) [
    | inl same ↦ same ∙ sym (true_back a b same)
    | inr other ↦ elim (cases_Bool (eq b a)) [
      | inl same' ↦ absurd (false≢true (sym other ∙ true_back b a same'))
      | inr other' ↦ other ∙ sym other'
    ]
  ]

  -- where one key is left out, each other one is there as before
  any_without : (k h : K) (ks : List K) → eq k h ≡ false → list_any (eq k) (filter (λ (j : K). not (eq h j)) ks) ≡ list_any (eq k) ks
  any_without k h [] apart = refl
  any_without k h (j ∷ js) apart = elim (cases_Bool (eq h j)) [
    | inl same ↦ (let no' : eq k j ≡ false = subst (λ (x : K). eq k x ≡ false) (exact.one h j same) apart in rw (same, no') (any_without k h js apart))
    | inr other ↦ rw other (ap (λ (b : Bool). eq k j || b) (any_without k h js apart))
  ]

  any_filtered : (q p : K → Bool) (ks : List K) → list_any q ks ≡ false → list_any q (filter p ks) ≡ false
  any_filtered q p [] none = refl
  any_filtered q p (j ∷ js) none =
      let both = or_parts (q j) (list_any q js) none in
      elim (cases_Bool (p j)) [
        | inl yes' ↦ rw (yes', both.0) (any_filtered q p js both.1)
        | inr no' ↦ rw no' (any_filtered q p js both.1)
      ]

  any_removed : (h : K) (ks : List K) → list_any (eq h) (filter (λ (j : K). not (eq h j)) ks) ≡ false
  any_removed h [] = refl
  any_removed h (j ∷ js) = elim (cases_Bool (eq h j)) [
    | inl same ↦ rw same (any_removed h js)
    | inr other ↦ rw (other, other) (any_removed h js)
  ]

  apart_filtered : (p : K → Bool) (ks : List K) → AreApart eq ks → AreApart eq (filter p ks)
  apart_filtered p [] apart = tt
  apart_filtered p (k ∷ ks) apart = elim (cases_Bool (p k)) [
    | inl yes' ↦ rw yes' (any_filtered (eq k) p ks apart.0, apart_filtered p ks apart.1)
    | inr no' ↦ rw no' (apart_filtered p ks apart.1)
  ]

  -- each once, so no two are one
  pub once_apart : (ks : List K) → AreApart eq (each_once eq ks)
  once_apart [] = tt
  once_apart (k ∷ ks) = (any_removed k (each_once eq ks), apart_filtered (λ (j : K). not (eq k j)) (each_once eq ks) (once_apart ks))

  -- and a key is among them where it was
  pub any_once : (k : K) (ks : List K) → list_any (eq k) (each_once eq ks) ≡ list_any (eq k) ks
  any_once k [] = refl
  any_once k (h ∷ ks) = elim (cases_Bool (eq k h)) [
    | inl same ↦ rw same refl
    | inr other ↦ rw other (any_without k h (each_once eq ks) other ∙ any_once k ks)
  ]

  filter_one : (p : K → Bool) (ks : List K) (y : K) → p y ≡ true → filter p (ks ++ y ∷ []) ≡ filter p ks ++ y ∷ []
  filter_one p ks y passes = filter-append p ks (y ∷ []) ∙ rw passes refl

  filter_none : (p : K → Bool) (ks : List K) (y : K) → p y ≡ false → filter p (ks ++ y ∷ []) ≡ filter p ks
  filter_none p ks y fails = filter-append p ks (y ∷ []) ∙ rw fails (append-nil (filter p ks))

  -- a new key comes last
  pub once_new : (ks : List K) (y : K) → list_any (eq y) ks ≡ false → each_once eq (ks ++ y ∷ []) ≡ each_once eq ks ++ y ∷ []
  once_new [] y new = refl
  once_new (k ∷ ks) y new =
      let both = or_parts (eq y k) (list_any (eq y) ks) new in
      let other : eq k y ≡ false = turned k y ∙ both.0 in
      let test : K → Bool = λ j. not (eq k j) in
      ap (λ (l : List K). k ∷ filter test l) (once_new ks y both.1) ∙ ap (λ (l : List K). k ∷ l) (filter_one test (each_once eq ks) y (ap not other))

  -- and one that was there changes nothing
  pub once_known : (ks : List K) (y : K) → list_any (eq y) ks ≡ true → each_once eq (ks ++ y ∷ []) ≡ each_once eq ks
  once_known [] y known = absurd (false≢true known)
  once_known (k ∷ ks) y known =
      let test : K → Bool = λ j. not (eq k j) in
      elim (cases_Bool (list_any (eq y) ks)) [
        | inl more ↦ ap (λ (l : List K). k ∷ filter test l) (once_known ks y more)
        | inr none ↦ elim (or_cases (eq y k) (list_any (eq y) ks) known) [
          | inl here ↦ ap (λ (l : List K). k ∷ filter test l) (once_new ks y none) ∙ ap (λ (l : List K). k ∷ l) (filter_none test (each_once eq ks) y (ap not (true_back y k here)))
          | inr more ↦ absurd (false≢true (sym none ∙ more))
        ]
      ]

  -- the key at a place is among the keys
  pub known_at : (ks : List K) (p : ℕ) (d k : K) → p < length ks → get_or ks p d ≡ k → list_any (eq k) ks ≡ true
  known_at ks p d k inside at = list_any_at (eq k) ks p d inside (subst (λ (x : K). eq k x ≡ true) (sym at) (exact.own k))

  -- a key that is new stands at no place
  pub last_place : (ks : List K) (p : ℕ) (d k : K) → list_any (eq k) ks ≡ false → p < length ks → get_or ks p d ≡ k → ⊥
  last_place ks p d k new inside at = false≢true (sym new ∙ known_at ks p d k inside at)
