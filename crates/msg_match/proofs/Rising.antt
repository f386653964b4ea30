-- Lists in a strict order, and lists of different elements: their elements tell them.
use Rattle.std.proofs.Common.{◌≡◌, ◌≢◌, ◌<◌, List, [], ◌∷◌, length, map, get_or, Bool, true, inl, inr, refl, sym, ◌∙◌, subst, arith}
use Rattle.std.specs.Prelude.{All, AllPairs, Contains, Decides}
use Rattle.std.specs.List.{remove}
use Rattle.std.specs.List.Sorted.{IsPermutation}
use Rattle.std.proofs.lemmas.Bool.{false≢true}
use Rattle.std.proofs.lemmas.List.{get_or-map, length-map}
use Rattle.std.proofs.lemmas.List.Elements.{All-contains}
use Rattle.std.proofs.lemmas.List.Kept.{AllPairs-cons}
use Rattle.std.proofs.lemmas.List.Sorted.{Contains-permutation, IsPermutation-cons, IsPermutation-refl, IsPermutation-remove, IsPermutation-sym, IsPermutation-trans}
use Rattle.std.proofs.lemmas.Map.Keys.{IsDistinct-IsPermutation}
use Rattle.std.proofs.lemmas.Map.Made.{AllPairs-from_IsDistinct, IsDistinct-from_AllPairs}
use Rattle.msg_match.proofs.Distinct.{AreApart, IsExact, known_at, turned}
use Rattle.traces.proofs.Members.{first_of_pairs, head_or_tail, here, no_pairs, none_in, rest_of_pairs, there}

-- ---- a strict order
module _ {X : Type 0} (R : X → X → Type 0) (circle : (a b : X) → R a b → R b a → ⊥) where
  heads_one : (a b : X) (xs ys : List X) → AllPairs R (a ∷ xs) → AllPairs R (b ∷ ys) → Contains (b ∷ ys) a → Contains (a ∷ xs) b → a ≡ b
  heads_one a b xs ys up up' held held' = elim (head_or_tail b a ys held) [
    | inl is ↦ sym is
    | inr more ↦ elim (head_or_tail a b xs held') [
      | inl is ↦ is
      | inr more' ↦ absurd (circle a b (All-contains (R a) xs b (first_of_pairs R a xs up) more') (All-contains (R b) ys a (first_of_pairs R b ys up') more))
    ]
  ]

  tail_within : (a b : X) (xs ys : List X) → AllPairs R (a ∷ xs) → a ≡ b → ((z : X) → Contains (a ∷ xs) z → Contains (b ∷ ys) z) → (z : X) → Contains xs z → Contains ys z
  tail_within a b xs ys up is all z held = elim (head_or_tail b z ys (all z (there a z xs held))) [
    | inl same ↦ (
        let self : R z z = subst (λ (w : X). R w z) (is ∙ same) (All-contains (R a) xs z (first_of_pairs R a xs up) held) in
        absurd (circle z z self self)
        )
    | inr more ↦ more
  ]

  -- two lists in the order with the same elements are one
  pub lists_one : (xs ys : List X) → AllPairs R xs → AllPairs R ys → ((z : X) → Contains xs z → Contains ys z) → ((z : X) → Contains ys z → Contains xs z) → xs ≡ ys
  lists_one [] [] up up' to from = refl
  lists_one [] (b ∷ ys) up up' to from = absurd (none_in b (from b (here b ys)))
  lists_one (a ∷ xs) [] up up' to from = absurd (none_in a (to a (here a xs)))
  lists_one (a ∷ xs) (b ∷ ys) up up' to from =
      let head : a ≡ b = heads_one a b xs ys up up' (to a (here a xs)) (from b (here b ys)) in
      let tail : xs ≡ ys = lists_one xs ys (rest_of_pairs R a xs up) (rest_of_pairs R b ys up') (tail_within a b xs ys up head to) (tail_within b a ys xs up' (sym head) from) in
      rw (head, tail) refl

-- what holds of pairs of elements, from what holds of them and of each
pub pairs_weaker : {X : Type 0} (P : X → Type 0) (R S : X → X → Type 0) (xs : List X) → All P xs → AllPairs R xs → ((a b : X) → P a → P b → R a b → S a b) → AllPairs S xs
pairs_weaker P R S xs each pairs weaker i j d below inside =
    weaker (get_or xs i d) (get_or xs j d) (each i d (omega (arith, below, inside))) (each j d inside) (pairs i j d below inside)

-- pairs of what a function makes of elements
pub pairs_map : {X Y : Type 0} (f : X → Y) (R : Y → Y → Type 0) (xs : List X) → AllPairs (λ (a b : X). R (f a) (f b)) xs → AllPairs R (map f xs)
pairs_map f R [] pairs = no_pairs R
pairs_map {X} f R (x ∷ xs) pairs =
    let S : X → X → Type 0 = λ a b. R (f a) (f b) in
    AllPairs-cons R (f x) (map f xs)
    (λ k d inside.
    let within : k < length xs = omega (arith, inside, length-map xs f) in
    subst (R (f x)) (sym (get_or-map f xs k x d within)) (first_of_pairs S x xs pairs k x within))
    (pairs_map f R xs (rest_of_pairs S x xs pairs))

-- and of the elements themselves
pub pairs_unmap : {X Y : Type 0} (f : X → Y) (R : Y → Y → Type 0) (xs : List X) → AllPairs R (map f xs) → AllPairs (λ (a b : X). R (f a) (f b)) xs
pairs_unmap f R xs pairs i j d below inside =
    let within : j < length (map f xs) = omega (arith, inside, length-map xs f) in
    subst (λ y. R y (f (get_or xs j d))) (get_or-map f xs i d (f d) (omega (arith, below, inside)))
    (subst (λ y. R (get_or (map f xs) i (f d)) y) (get_or-map f xs j d (f d) inside) (pairs i j (f d) below within))

-- ---- different elements
module _ {K : Type 0} (eq : K → K → Bool) (exact : IsExact eq) where
  tells : (a b : K) → Decides (eq a b) (a ≡ b)
  tells a b = (exact.one a b, λ is. subst (λ (c : K). eq a c ≡ true) is (exact.own a))

  -- they stay different in another order
  pub differ_still : (xs ys : List K) → IsPermutation xs ys → AllPairs (λ (a b : K). a ≢ b) xs → AllPairs (λ (a b : K). a ≢ b) ys
  differ_still xs ys moved differ = AllPairs-from_IsDistinct tells ys (IsDistinct-IsPermutation eq (turned eq exact) xs ys moved (IsDistinct-from_AllPairs tells xs differ))

  pub differ_apart : (ks : List K) → AreApart eq ks → AllPairs (λ (a b : K). a ≢ b) ks
  differ_apart [] apart = no_pairs (λ (a b : K). a ≢ b)
  differ_apart (k ∷ ks) apart =
      AllPairs-cons (λ (a b : K). a ≢ b) k ks
      (λ i d inside same. false≢true (sym apart.0 ∙ known_at eq exact ks i d k inside (sym same)))
      (differ_apart ks apart.1)

  -- two lists of different elements that have the same are one list in another order
  pub same_elements : (xs ys : List K) → AllPairs (λ (a b : K). a ≢ b) xs → AllPairs (λ (a b : K). a ≢ b) ys → ((z : K) → Contains xs z → Contains ys z) → ((z : K) → Contains ys z → Contains xs z) → IsPermutation xs ys
  same_elements [] [] differ differ' to from = IsPermutation-refl []
  same_elements [] (y ∷ ys) differ differ' to from = absurd (none_in y (from y (here y ys)))
  same_elements (x ∷ xs) ys differ differ' to from =
      let R : K → K → Type 0 = λ a b. a ≢ b in
      let (k, inside, is) = to x (here x xs) in
      let less : List K = remove ys k in
      let moved : IsPermutation ys (x ∷ less) = IsPermutation-remove ys k x inside (sym is) in
      let apart : AllPairs R (x ∷ less) = differ_still ys (x ∷ less) moved differ' in
      let rest : IsPermutation xs less =
      same_elements xs less (rest_of_pairs R x xs differ) (rest_of_pairs R x less apart)
      (λ z held.
      elim (head_or_tail x z less (Contains-permutation ys (x ∷ less) z moved (to z (there x z xs held)))) [
        | inl same ↦ absurd (All-contains (λ (w : K). x ≢ w) xs z (first_of_pairs R x xs differ) held same)
        | inr more ↦ more
      ])
      (λ z held.
      elim (head_or_tail x z xs (from z (Contains-permutation (x ∷ less) ys z (IsPermutation-sym ys (x ∷ less) moved) (there x z less held)))) [
        | inl same ↦ absurd (All-contains (λ (w : K). x ≢ w) less z (first_of_pairs R x less apart) held same)
        | inr more ↦ more
      ]) in
      IsPermutation-trans (x ∷ xs) (x ∷ less) ys (IsPermutation-cons x xs less rest) (IsPermutation-sym ys (x ∷ less) moved)
