-- Numbers and what they stand for, each once.
use Rattle.std.proofs.Common.{◌≡◌, ◌≢◌, ◌<◌, ◌≤◌, ℕ, zero, suc, List, [], ◌∷◌, ◌++◌, length, map, get_or, slice_get, Some, Contains, All, AllPairs, refl, sym, ◌∙◌, ap, subst, arith, inl, inr, length-append}
use Rattle.std.proofs.lemmas.Bool.{cases_lt, cases_eq}
use Rattle.std.proofs.lemmas.List.Elements.{All-contains, Contains-append_cases, Contains-append_left, Contains-append_right}
use Rattle.std.proofs.lemmas.Option.{slice_get_within, slice_get-get_or, get_or_from_slice_get, same_Some}
use Rattle.traces.proofs.Members.{here, there, head_or_tail, none_in, first_of_pairs, rest_of_pairs}

-- ---- different elements of a list are no more than it has
split : {X : Type 0} (ys : List X) (x : X) → Contains ys x → (us : List X) × (vs : List X) × (ys ≡ us ++ x ∷ vs)
split [] x among = absurd (none_in x among)
split {X} (y ∷ ys) x among = elim (head_or_tail y x ys among) [
  | inl is ↦ ([], ys, ap (λ (z : X). z ∷ ys) is)
  | inr more ↦ (let s = split ys x more in (y ∷ s.0, s.1, ap (λ (zs : List X). y ∷ zs) s.2))
]

pub fits : {X : Type 0} (xs ys : List X) → AllPairs (λ (a b : X). a ≢ b) xs → ((x : X) → Contains xs x → Contains ys x) → length xs ≤ length ys
fits [] ys differ inside = omega arith
fits {X} (x ∷ xs) ys differ inside =
    let s = split ys x (inside x (here x xs)) in
    let rest : length xs ≤ length (s.0 ++ s.1) = fits xs (s.0 ++ s.1) (rest_of_pairs (λ (a b : X). a ≢ b) x xs differ) (λ y among. left_over s.0 s.1 y (other y among) (subst (λ (zs : List X). Contains zs y) s.2 (inside y (there x y xs among)))) in
    omega (arith, rest, ap length s.2, length-append s.0 (x ∷ s.1), length-append s.0 s.1)
  where
    other : (y : X) → Contains xs y → x ≢ y
    other y among = All-contains (λ (b : X). x ≢ b) xs y (first_of_pairs (λ (a b : X). a ≢ b) x xs differ) among

    left_over : (us vs : List X) (y : X) → x ≢ y → Contains (us ++ x ∷ vs) y → Contains (us ++ vs) y
    left_over us vs y not among = elim (Contains-append_cases us (x ∷ vs) y among) [
      | inl first ↦ Contains-append_left us vs y first
      | inr last ↦ elim (head_or_tail x y vs last) [ inl is ↦ absurd (not is) | inr more ↦ Contains-append_right us vs y more ]
    ]

-- ---- elements that differ have one place
pub one_place : {X : Type 0} (xs : List X) (i j : ℕ) (x : X) → AllPairs (λ (a b : X). a ≢ b) xs → slice_get xs i ≡ Some x → slice_get xs j ≡ Some x → i ≡ j
one_place {X} xs i j x differ at there' =
    let here' : get_or xs i x ≡ get_or xs j x = get_or_from_slice_get xs i x x at ∙ sym (get_or_from_slice_get xs j x x there') in
    let in_i = slice_get_within xs i x at in
    let in_j = slice_get_within xs j x there' in
    elim (cases_lt i j) [
      | inl less ↦ absurd (differ i j x less in_j here')
      | inr le ↦ elim (cases_eq i j) [ inl same ↦ same | inr other ↦ absurd (differ j i x (omega (arith, le, other)) in_i (sym here')) ]
    ]

-- ---- numbers that stand for elements
-- each number is the place of the element beside it
abbrev pub Tell : {X : Type 0} → List X → List ℕ → List X → Type 0
Tell all [] [] = Unit {0}
Tell all [] (x ∷ xs) = ⊥
Tell all (k ∷ ks) [] = ⊥
Tell all (k ∷ ks) (x ∷ xs) = (slice_get all k ≡ Some x) × Tell all ks xs

pub tell_append : {X : Type 0} (all : List X) (ks js : List ℕ) (xs ys : List X) → Tell all ks xs → Tell all js ys → Tell all (ks ++ js) (xs ++ ys)
tell_append all [] js [] ys first second = second
tell_append all [] js (x ∷ xs) ys first second = absurd first
tell_append all (k ∷ ks) js [] ys first second = absurd first
tell_append all (k ∷ ks) js (x ∷ xs) ys first second = (first.0, tell_append all ks js xs ys first.1 second)

pub tell_map : {A X : Type 0} (all : List X) (f : A → ℕ) (h : A → X) (rest : List A) → ((a : A) → Contains rest a → slice_get all (f a) ≡ Some (h a)) → Tell all (map f rest) (map h rest)
tell_map all f h [] told = tt
tell_map all f h (a ∷ rest) told = (told a (here a rest), tell_map all f h rest (λ b among. told b (there a b rest among)))

module _ {X : Type 0} (all : List X) where
  pub tell_long : (ks : List ℕ) (xs : List X) → Tell all ks xs → length ks ≡ length xs
  tell_long [] [] told = refl
  tell_long [] (x ∷ xs) told = absurd told
  tell_long (k ∷ ks) [] told = absurd told
  tell_long (k ∷ ks) (x ∷ xs) told = ap suc (tell_long ks xs told.1)

  pub tell_at : (ks : List ℕ) (xs : List X) (i k : ℕ) → Tell all ks xs → slice_get ks i ≡ Some k → (x : X) × (slice_get xs i ≡ Some x) × (slice_get all k ≡ Some x)
  tell_at [] [] i k told at = absurd (cc)
  tell_at [] (x ∷ xs) i k told at = absurd told
  tell_at (j ∷ ks) [] i k told at = absurd told
  tell_at (j ∷ ks) (x ∷ xs) zero k told at = (x, refl, subst (λ (n : ℕ). slice_get all n ≡ Some x) (same_Some j k at) told.0)
  tell_at (j ∷ ks) (x ∷ xs) (suc i) k told at = tell_at ks xs i k told.1 at

  pub tell_in : (ks : List ℕ) (xs : List X) (x : X) → Tell all ks xs → Contains xs x → Contains all x
  tell_in [] [] x told among = absurd (none_in x among)
  tell_in [] (y ∷ xs) x told among = absurd told
  tell_in (k ∷ ks) [] x told among = absurd told
  tell_in (k ∷ ks) (y ∷ xs) x told among = elim (head_or_tail y x xs among) [
    | inl is ↦ subst (Contains all) is (k, slice_get_within all k y told.0, get_or_from_slice_get all k y y told.0)
    | inr more ↦ tell_in ks xs x told.1 more
  ]

  module _ (ks : List ℕ) (xs : List X) (told : Tell all ks xs) (differ : AllPairs (λ (a b : X). a ≢ b) xs) where
    at_of : (i d : ℕ) → i < length ks → slice_get ks i ≡ Some (get_or ks i d)
    at_of i d inside = slice_get-get_or ks i d inside

    pub told_below : All (λ (k : ℕ). k < length all) ks
    told_below i d inside = let x = tell_at ks xs i (get_or ks i d) told (at_of i d inside) in slice_get_within all (get_or ks i d) x.0 x.2

    pub told_differ : AllPairs (λ (j k : ℕ). j ≢ k) ks
    told_differ i j d less inside same =
        let x = tell_at ks xs i (get_or ks i d) told (at_of i d (omega (arith, less, inside))) in
        let y = tell_at ks xs j (get_or ks j d) told (at_of j d inside) in
        let one : x.0 ≡ y.0 = same_Some x.0 y.0 (sym x.2 ∙ ap (slice_get all) same ∙ y.2) in
        let place : i ≡ j = one_place xs i j y.0 differ (x.1 ∙ ap Some one) y.1 in
        omega (arith, less, place)

    pub told_many : AllPairs (λ (a b : X). a ≢ b) all → ((x : X) → Contains all x → Contains xs x) → length ks ≡ length all
    told_many all_differ every =
        let up = fits xs all differ (λ x among. tell_in ks xs x told among) in
        let down = fits all xs all_differ every in
        omega (arith, up, down, tell_long ks xs told)
