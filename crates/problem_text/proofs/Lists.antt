-- Texts of lists that are made element by element.
use Rattle.std.proofs.Common.{◌≡◌, ℕ, suc, List, [], ◌∷◌, ◌++◌, length, map, slice_get, Some, refl, sym, ap, ◌∙◌, arith, append_assoc}
use Rattle.std.specs.Prelude.{Contains}
use Rattle.std.specs.List.{flat_map}
use Rattle.traces.proofs.Members.{here, there}

-- two lists, of which the elements at each place give the same
pub given_same : {X Y Z : Type 0} (f : X → List Z) (g : Y → List Z) (xs : List X) (ys : List Y) → length xs ≡ length ys → ((k : ℕ) (x : X) (y : Y) → slice_get xs k ≡ Some x → slice_get ys k ≡ Some y → f x ≡ g y) → flat_map f xs ≡ flat_map g ys
given_same f g [] [] long same = refl
given_same f g [] (y ∷ ys) long same = absurd (omega (arith, long))
given_same f g (x ∷ xs) [] long same = absurd (omega (arith, long))
given_same f g (x ∷ xs) (y ∷ ys) long same =
    let rest = given_same f g xs ys (omega (arith, long)) (λ k a b at at'. same (suc k) a b at at') in
    ap (λ l. l ++ flat_map f xs) (same 0 x y refl refl) ∙ ap (λ l. g y ++ l) rest

-- what each element of a list gives
pub given_alike : {X Z : Type 0} (f g : X → List Z) (xs : List X) → ((x : X) → Contains xs x → f x ≡ g x) → flat_map f xs ≡ flat_map g xs
given_alike f g [] same = refl
given_alike f g (x ∷ xs) same = ap (λ l. l ++ flat_map f xs) (same x (here x xs)) ∙ ap (λ l. g x ++ l) (given_alike f g xs (λ y among. same y (there x y xs among)))

pub given_map : {X Y Z : Type 0} (f : Y → List Z) (h : X → Y) (xs : List X) → flat_map f (map h xs) ≡ flat_map (λ x. f (h x)) xs
given_map f h [] = refl
given_map f h (x ∷ xs) = ap (λ l. f (h x) ++ l) (given_map f h xs)

given_joined : {X Z : Type 0} (f : X → List Z) (xs ys : List X) → flat_map f (xs ++ ys) ≡ flat_map f xs ++ flat_map f ys
given_joined f [] ys = refl
given_joined f (x ∷ xs) ys = ap (λ l. f x ++ l) (given_joined f xs ys) ∙ sym (append_assoc (f x) (flat_map f xs) (flat_map f ys))

pub given_twice : {X Y Z : Type 0} (f : Y → List Z) (h : X → List Y) (xs : List X) → flat_map f (flat_map h xs) ≡ flat_map (λ x. flat_map f (h x)) xs
given_twice f h [] = refl
given_twice f h (x ∷ xs) = given_joined f (h x) (flat_map h xs) ∙ ap (λ l. flat_map f (h x) ++ l) (given_twice f h xs)

-- a list without elements
pub none_of : {X : Type 0} (xs : List X) → ((x : X) → Contains xs x → ⊥) → xs ≡ []
none_of [] empty = refl
none_of (x ∷ xs) empty = absurd (empty x (here x xs))
