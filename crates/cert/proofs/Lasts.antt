-- A list is empty or has a last item.
use Rattle.std.proofs.Common.{◌≡◌, ◌⊎◌, ◌<◌, inl, inr, ℕ, List, [], ◌∷◌, ◌++◌, length, get_or, All, refl, ap, subst, arith, length-append}
use Rattle.std.specs.Prelude.{AllPairs}
use Rattle.std.proofs.Math.ListN.{get_or-append}

pub record Last {A : Type 0} (xs : List A) : Type 0 where
  pub front : List A
  pub last : A
  pub is : xs ≡ front ++ last ∷ []

last_of : {A : Type 0} (x : A) (xs : List A) → Last (x ∷ xs)
last_of x [] = record { front = []; last = x; is = refl }
last_of x (y ∷ xs) = let r = last_of y xs in record { front = x ∷ r.front; last = r.last; is = ap (λ ys. x ∷ ys) r.is }

pub ended : {A : Type 0} (xs : List A) → (xs ≡ []) ⊎ Last xs
ended [] = inl refl
ended (x ∷ xs) = inr (last_of x xs)

last_at : {A : Type 0} (xs : List A) (y d : A) → get_or (xs ++ y ∷ []) (length xs) d ≡ y
last_at [] y d = refl
last_at (x ∷ xs) y d = last_at xs y d

pub all_init : {A : Type 0} (P : A → Type 0) (xs : List A) (y : A) → All P (xs ++ y ∷ []) → All P xs
all_init P xs y all = λ k d inside. subst P (get_or-append xs (y ∷ []) d k inside) (all k d (omega (arith, inside, length-append xs (y ∷ []))))

pub all_last : {A : Type 0} (P : A → Type 0) (xs : List A) (y : A) → All P (xs ++ y ∷ []) → P y
all_last P xs y all = subst P (last_at xs y y) (all (length xs) y (omega (arith, length-append xs (y ∷ []))))

pub pairs_init : {A : Type 0} (R : A → A → Type 0) (xs : List A) (y : A) → AllPairs R (xs ++ y ∷ []) → AllPairs R xs
pairs_init {A = A} R xs y all = λ i j d below inside.
    subst (λ (b : A). R (get_or xs i d) b) (get_or-append xs (y ∷ []) d j inside) (subst (λ (a : A). R a (get_or (xs ++ y ∷ []) j d)) (get_or-append xs (y ∷ []) d i (omega (arith, below, inside))) (all i j d below (omega (arith, inside, length-append xs (y ∷ [])))))

pub pairs_last : {A : Type 0} (R : A → A → Type 0) (xs : List A) (y : A) → AllPairs R (xs ++ y ∷ []) → (k : ℕ) (d : A) → k < length xs → R (get_or xs k d) y
pairs_last {A = A} R xs y all k d inside =
    subst (λ (b : A). R (get_or xs k d) b) (last_at xs y d) (subst (λ (a : A). R a (get_or (xs ++ y ∷ []) (length xs) d)) (get_or-append xs (y ∷ []) d k inside) (all k (length xs) d inside (omega (arith, length-append xs (y ∷ [])))))
