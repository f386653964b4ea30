-- Lists with the same elements.
use Rattle.std.proofs.Common.{◌≡◌, ◌≢◌, ◌≤◌, ℕ, List, [], ◌∷◌, length, map, get_or, Bool, true, false, cond, inl, inr, refl, sym, ap, ◌∙◌, subst, arith, ◌+◌}
use Rattle.std.specs.Prelude.{All, AllPairs, Contains, filter, sum_by}
use Rattle.std.specs.List.{remove}
use Rattle.std.specs.List.Sorted.{IsPermutation}
use Rattle.std.proofs.lemmas.List.{get_or-map, length-map}
use Rattle.std.proofs.lemmas.List.Elements.{All-contains, All-map, Contains-get_or}
use Rattle.std.proofs.lemmas.List.Kept.{AllPairs-cons}
use Rattle.std.proofs.lemmas.List.Sorted.{Contains-permutation, IsPermutation-remove, length_permutation, sum_by-IsPermutation}
use Rattle.std.proofs.lemmas.List.Sums.{sum_by-cons}
use Rattle.traces.proofs.Members.{first_of_pairs, has_passed, head_or_tail, here, kept, no_pairs, none_in, rest_of_pairs, there, was_in}

-- ---- elements
pub each_in : {X : Type 0} (P : X → Type 0) (xs : List X) → ((x : X) → Contains xs x → P x) → All P xs
each_in P xs each k d inside = each (get_or xs k d) (Contains-get_or xs k d inside)

pub in_map : {X Y : Type 0} (f : X → Y) (xs : List X) (x : X) → Contains xs x → Contains (map f xs) (f x)
in_map f xs x (k, inside, is) = (k, omega (arith, length-map xs f, inside), get_or-map f xs k x (f x) inside ∙ ap f is)

pub from_map : {X Y : Type 0} (f : X → Y) (xs : List X) (y : Y) → Contains (map f xs) y → (x : X) × Contains xs x × (f x ≡ y)
from_map f [] y held = absurd (none_in y held)
from_map f (x ∷ xs) y held = elim (head_or_tail (f x) y (map f xs) held) [
  | inl is ↦ (x, here x xs, is)
  | inr more ↦ (let (z, among, is) = from_map f xs y more in (z, there x z xs among, is))
]

-- a list of one is made of one
pub map_one : {X Y : Type 0} (f : X → Y) (xs : List X) (y : Y) → map f xs ≡ y ∷ [] → (x : X) × (xs ≡ x ∷ []) × (f x ≡ y)
map_one f [] y is = absurd cc
map_one f (x ∷ []) y is = let same : f x ≡ y = cc in (x, refl, same)
map_one f (x ∷ z ∷ xs) y is = let long = ap length is in absurd (omega (arith, long))

-- ---- different elements
-- elements stay different under a function that tells them
pub map_differs : {X Y : Type 0} (f : X → Y) (xs : List X) → AllPairs (λ (a b : X). f a ≢ f b) xs → AllPairs (λ (a b : Y). a ≢ b) (map f xs)
map_differs f [] differ = no_pairs (λ a b. a ≢ b)
map_differs f (x ∷ xs) differ =
    AllPairs-cons (λ a b. a ≢ b) (f x) (map f xs) (All-map (λ b. f x ≢ b) f xs (first_of_pairs (λ a b. f a ≢ f b) x xs differ)) (map_differs f xs (rest_of_pairs (λ a b. f a ≢ f b) x xs differ))

pub told_apart : {X Y : Type 0} (f : X → Y) (xs : List X) → AllPairs (λ (a b : X). a ≢ b) xs → ((a b : X) → Contains xs a → Contains xs b → f a ≡ f b → a ≡ b) → AllPairs (λ (a b : X). f a ≢ f b) xs
told_apart f xs differ tells i j d below inside same =
    differ i j d below inside (tells (get_or xs i d) (get_or xs j d) (Contains-get_or xs i d (omega (arith, below, inside))) (Contains-get_or xs j d inside) same)

-- different elements of a list are no more than it has
pub no_more : {X : Type 0} (xs ys : List X) → AllPairs (λ (a b : X). a ≢ b) xs → ((x : X) → Contains xs x → Contains ys x) → length xs ≤ length ys
no_more [] ys differ in' = omega arith
no_more {X} (x ∷ xs) ys differ in' =
    let R = λ (a b : X). a ≢ b in
    let (k, inside, is) = in' x (here x xs) in
    let same : IsPermutation ys (x ∷ remove ys k) = IsPermutation-remove ys k x inside (sym is) in
    let rest : length xs ≤ length (remove ys k) =
    no_more xs (remove ys k) (rest_of_pairs R x xs differ)
    (λ y held.
    elim (head_or_tail x y (remove ys k) (Contains-permutation ys (x ∷ remove ys k) y same (in' y (there x y xs held)))) [
      | inl one' ↦ absurd (All-contains (λ z. x ≢ z) xs y (first_of_pairs R x xs differ) held one')
      | inr more ↦ more
    ]) in
    omega (arith, rest, length_permutation ys (x ∷ remove ys k) same)

-- two lists of different elements that are the same have one length
pub same_many : {X : Type 0} (xs ys : List X) → AllPairs (λ (a b : X). a ≢ b) xs → AllPairs (λ (a b : X). a ≢ b) ys → ((x : X) → Contains xs x → Contains ys x) → ((x : X) → Contains ys x → Contains xs x) → length xs ≡ length ys
same_many xs ys differ differ' to from = omega (arith, no_more xs ys differ to, no_more ys xs differ' from)

-- ---- the same elements in another order
-- as many elements, and each of the ones is among the others
abbrev pub AreAlike : {X : Type 0} → List X → List X → Type 0
AreAlike {X} xs ys = (length xs ≡ length ys) × ((x : X) → Contains xs x → Contains ys x)

pub alike_one : {X : Type 0} (x : X) (ys : List X) → AreAlike (x ∷ []) ys → ys ≡ x ∷ []
alike_one x [] alike = let long = alike.0 in absurd (omega (arith, long))
alike_one x (y ∷ []) alike = elim (head_or_tail y x [] (alike.1 x (here x []))) [
  | inl is ↦ ap (λ z. z ∷ []) is
  | inr more ↦ absurd (none_in x more)
]
alike_one x (y ∷ z ∷ ys) alike = let long = alike.0 in absurd (omega (arith, long))

pub alike_map : {X Y : Type 0} (f : X → Y) (xs ys : List X) → AreAlike xs ys → AreAlike (map f xs) (map f ys)
alike_map f xs ys alike = (
  omega (arith, length-map xs f, length-map ys f, alike.0),
  λ y held. let (x, among, is) = from_map f xs y held in subst (λ z. Contains (map f ys) z) is (in_map f ys x (alike.1 x among)),
)

module _ {X : Type 0} (p : X → Bool) where
  passes : X → ℕ
  passes x = cond (p x) 1 0

  one_more : (b : Bool) (x : X) (us : List X) (n : ℕ) → length us ≡ n → length (cond b (x ∷ us) us) ≡ cond b 1 0 + n
  one_more true x us n is = omega (arith, is)
  one_more false x us n is = omega (arith, is)

  many_pass : (xs : List X) → length (filter p xs) ≡ sum_by passes xs
  unfolding passes
  many_pass [] = refl
  many_pass (x ∷ xs) = one_more (p x) x (filter p xs) (sum_by passes xs) (many_pass xs) ∙ sym (sum_by-cons passes x xs)

  -- what passes of two lists that are alike is alike
  pub alike_filter : (xs ys : List X) → IsPermutation xs ys → AreAlike (filter p xs) (filter p ys)
  alike_filter xs ys same = (
    many_pass xs ∙ sym (sum_by-IsPermutation passes xs ys same) ∙ sym (many_pass ys),
    λ x held. kept p ys x (Contains-permutation xs ys x same (was_in p xs x held)) (has_passed p xs x held),
  )
