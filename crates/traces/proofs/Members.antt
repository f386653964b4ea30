-- Elements of lists that are made of others, and their order.
use Rattle.std.proofs.Common.{◌≡◌, ◌⊎◌, zero, suc, List, [], ◌∷◌, ◌++◌, Bool, true, inl, inr, refl, sym, subst, arith}
use Rattle.std.specs.Prelude.{All, AllPairs, Contains, filter}
use Rattle.std.specs.List.{flat_map}
use Rattle.std.proofs.lemmas.Bool.{cases_Bool}
use Rattle.std.proofs.lemmas.List.Elements.{All-append, All-contains, All-contains_itself, All-filter, All-head, All-tail, Contains-append_cases, Contains-append_left, Contains-append_right, filter_passes}
use Rattle.std.proofs.lemmas.List.Kept.{AllPairs-cons}

-- ---- elements
pub here : {X : Type 0} (x : X) (xs : List X) → Contains (x ∷ xs) x
here x xs = (0, omega arith, refl)

pub there : {X : Type 0} (x y : X) (xs : List X) → Contains xs y → Contains (x ∷ xs) y
there x y xs (k, inside, is) = (suc k, omega (arith, inside), is)

pub head_or_tail : {X : Type 0} (x y : X) (xs : List X) → Contains (x ∷ xs) y → (x ≡ y) ⊎ Contains xs y
head_or_tail x y xs (zero, inside, is) = inl is
head_or_tail x y xs (suc k, inside, is) = inr (k, omega (arith, inside), is)

pub none_in : {X : Type 0} (x : X) → Contains [] x → ⊥
none_in x (k, inside, is) = omega (arith, inside)

-- an element that passes a test is in the filter
pub kept : {X : Type 0} (p : X → Bool) (xs : List X) (y : X) → Contains xs y → p y ≡ true → Contains (filter p xs) y
kept p [] y in' passes = absurd (none_in y in')
kept p (x ∷ xs) y in' passes = elim (head_or_tail x y xs in') [
  | inl is ↦ (let first : p x ≡ true = subst (λ z. p z ≡ true) (sym is) passes in rw first (subst (λ z. Contains (x ∷ filter p xs) z) is (here x (filter p xs))))
  | inr more ↦ elim (cases_Bool (p x)) [
    | inl yes' ↦ rw yes' (there x y (filter p xs) (kept p xs y more passes))
    | inr no' ↦ rw no' (kept p xs y more passes)
  ]
]

-- and one in the filter is an element that passes
pub was_in : {X : Type 0} (p : X → Bool) (xs : List X) (y : X) → Contains (filter p xs) y → Contains xs y
was_in p xs y in' = All-contains (Contains xs) (filter p xs) y (All-filter p (Contains xs) xs (All-contains_itself xs)) in'

pub has_passed : {X : Type 0} (p : X → Bool) (xs : List X) (y : X) → Contains (filter p xs) y → p y ≡ true
has_passed p xs y in' = All-contains (λ x. p x ≡ true) (filter p xs) y (filter_passes p xs) in'

-- what one element gives is among what all give
pub given_by : {X Y : Type 0} (f : X → List Y) (xs : List X) (x : X) (y : Y) → Contains xs x → Contains (f x) y → Contains (flat_map f xs) y
given_by f [] x y in' gives = absurd (none_in x in')
given_by f (z ∷ xs) x y in' gives = elim (head_or_tail z x xs in') [
  | inl is ↦ Contains-append_left (f z) (flat_map f xs) y (subst (λ w. Contains (f w) y) (sym is) gives)
  | inr more ↦ Contains-append_right (f z) (flat_map f xs) y (given_by f xs x y more gives)
]

-- what all give is given by one
pub giver : {X Y : Type 0} (f : X → List Y) (xs : List X) (y : Y) → Contains (flat_map f xs) y → (x : X) × Contains xs x × Contains (f x) y
giver f [] y in' = absurd (none_in y in')
giver f (x ∷ xs) y in' = elim (Contains-append_cases (f x) (flat_map f xs) y in') [
  | inl first ↦ (x, here x xs, first)
  | inr more ↦ (let (z, among, gives) = giver f xs y more in (z, there x z xs among, gives))
]

-- ---- order
pub first_of_pairs : {X : Type 0} (R : X → X → Type 0) (x : X) (xs : List X) → AllPairs R (x ∷ xs) → All (R x) xs
first_of_pairs R x xs pairs k d inside = pairs 0 (suc k) d (omega arith) (omega (arith, inside))

pub rest_of_pairs : {X : Type 0} (R : X → X → Type 0) (x : X) (xs : List X) → AllPairs R (x ∷ xs) → AllPairs R xs
rest_of_pairs R x xs pairs i j d below inside = pairs (suc i) (suc j) d (omega (arith, below)) (omega (arith, inside))

pub no_pairs : {X : Type 0} (R : X → X → Type 0) → AllPairs R []
no_pairs R i j d below inside = absurd (omega (arith, inside))

-- two lists in a row, where each of the first comes before each of the second
pub pairs_joined : {X : Type 0} (R : X → X → Type 0) (xs ys : List X) → AllPairs R xs → AllPairs R ys → All (λ x. All (R x) ys) xs → AllPairs R (xs ++ ys)
pairs_joined R [] ys a b across = b
pairs_joined R (x ∷ xs) ys a b across =
    AllPairs-cons R x (xs ++ ys) (All-append (R x) xs ys (first_of_pairs R x xs a) (All-head (λ z. All (R z) ys) x xs across))
    (pairs_joined R xs ys (rest_of_pairs R x xs a) b (All-tail (λ z. All (R z) ys) x xs across))
