-- What is kept of a list by marks, and at which places it stood.
use Rattle.std.proofs.Common.{◌≡◌, ◌<◌, ◌≤◌, ℕ, zero, suc, List, [], ◌∷◌, Bool, true, false, length, slice_get, Some, All, AllPairs, refl, sym, ◌∙◌, ap, subst, arith, inl, inr}
use Rattle.std.proofs.lemmas.Bool.{cases_eq, cases_lt}
use Rattle.std.specs.Prelude.{Contains, get_or}
use Rattle.std.proofs.lemmas.Option.{slice_get_within, slice_get_read, get_or_from_slice_get}
use Rattle.std.proofs.lemmas.List.Elements.{All-nil, All-cons, All-head, All-tail}
use Rattle.std.proofs.lemmas.List.Kept.{AllPairs-cons}
use Rattle.thinning.specs.Thinned.{marked, marks_before}

-- ---- elements by their places
pub contained_at : {X : Type 0} (xs : List X) (k : ℕ) (x : X) → slice_get xs k ≡ Some x → Contains xs x
contained_at xs k x at = (k, slice_get_within xs k x at, get_or_from_slice_get xs k x x at)

pub place_in : {X : Type 0} (xs : List X) (x : X) → Contains xs x → (k : ℕ) × (slice_get xs k ≡ Some x)
place_in xs x (k, inside, is) = (k, slice_get_read xs (length xs) k x refl inside (sym is))

pub one_there : {X : Type 0} (xs : List X) (k : ℕ) → k < length xs → (x : X) × (slice_get xs k ≡ Some x)
one_there [] k below = absurd (omega (arith, below))
one_there (x ∷ xs) zero below = (x, refl)
one_there (x ∷ xs) (suc k) below = one_there xs k (omega (arith, below))

-- ---- where a kept one stood
-- the place of the mark with this many true ones before it
abbrev pub place_of : List Bool → ℕ → ℕ
place_of [] k = k
place_of (false ∷ marks) k = suc (place_of marks k)
place_of (true ∷ marks) zero = zero
place_of (true ∷ marks) (suc k) = suc (place_of marks k)

pub places_differ : (marks : List Bool) (d e : ℕ) → place_of marks d ≡ place_of marks e → d ≡ e
places_differ [] d e is = is
places_differ (false ∷ marks) d e is = places_differ marks d e cc
places_differ (true ∷ marks) zero zero is = refl
places_differ (true ∷ marks) zero (suc e) is = absurd (omega (arith, is))
places_differ (true ∷ marks) (suc d) zero is = absurd (omega (arith, is))
places_differ (true ∷ marks) (suc d) (suc e) is = ap suc (places_differ marks d e cc)

-- a kept one stood at its place, and its mark is true
pub kept_at : {X : Type 0} (xs : List X) (marks : List Bool) (k : ℕ) (x : X) → slice_get (marked xs marks) k ≡ Some x → (slice_get xs (place_of marks k) ≡ Some x) × (slice_get marks (place_of marks k) ≡ Some true)
kept_at [] marks k x at = absurd cc
kept_at (y ∷ xs) [] k x at = absurd cc
kept_at (y ∷ xs) (false ∷ marks) k x at = kept_at xs marks k x at
kept_at (y ∷ xs) (true ∷ marks) zero x at = (at, refl)
kept_at (y ∷ xs) (true ∷ marks) (suc k) x at = kept_at xs marks k x at

-- one whose mark is true is kept, behind as many as there are marks before
pub stays_at : {X : Type 0} (xs : List X) (marks : List Bool) (e : ℕ) (x : X) → slice_get xs e ≡ Some x → slice_get marks e ≡ Some true → slice_get (marked xs marks) (marks_before marks e) ≡ Some x
stays_at [] marks e x at mark = absurd cc
stays_at (y ∷ xs) [] e x at mark = absurd cc
stays_at (y ∷ xs) (false ∷ marks) zero x at mark = absurd cc
stays_at (y ∷ xs) (true ∷ marks) zero x at mark = at
stays_at (y ∷ xs) (false ∷ marks) (suc e) x at mark = stays_at xs marks e x at mark
stays_at (y ∷ xs) (true ∷ marks) (suc e) x at mark = stays_at xs marks e x at mark

-- and it stood where it stood
pub stood_at : (marks : List Bool) (e : ℕ) → slice_get marks e ≡ Some true → place_of marks (marks_before marks e) ≡ e
stood_at [] e mark = absurd cc
stood_at (false ∷ marks) zero mark = absurd cc
stood_at (true ∷ marks) zero mark = refl
stood_at (false ∷ marks) (suc e) mark = ap suc (stood_at marks e mark)
stood_at (true ∷ marks) (suc e) mark = ap suc (stood_at marks e mark)

pub before_differ : (marks : List Bool) (d e : ℕ) → slice_get marks d ≡ Some true → slice_get marks e ≡ Some true → marks_before marks d ≡ marks_before marks e → d ≡ e
before_differ marks d e first second same = sym (stood_at marks d first) ∙ ap (place_of marks) same ∙ stood_at marks e second

-- ---- what is so of all is so of those that are kept
pub marked_within : {X : Type 0} (xs : List X) (marks : List Bool) → length (marked xs marks) ≤ length xs
marked_within [] marks = omega arith
marked_within (x ∷ xs) [] = omega arith
marked_within (x ∷ xs) (false ∷ marks) = omega (arith, marked_within xs marks)
marked_within (x ∷ xs) (true ∷ marks) = omega (arith, marked_within xs marks)

pub all_marked : {X : Type 0} (P : X → Type 0) (xs : List X) (marks : List Bool) → All P xs → All P (marked xs marks)
all_marked P [] marks all = all
all_marked P (x ∷ xs) [] all = All-nil P
all_marked P (x ∷ xs) (false ∷ marks) all = all_marked P xs marks (All-tail P x xs all)
all_marked P (x ∷ xs) (true ∷ marks) all = All-cons P x (marked xs marks) (All-head P x xs all) (all_marked P xs marks (All-tail P x xs all))

pub pairs_marked : {X : Type 0} (R : X → X → Type 0) (xs : List X) (marks : List Bool) → AllPairs R xs → AllPairs R (marked xs marks)
pairs_marked R [] marks pairs = pairs
pairs_marked R (x ∷ xs) [] pairs = none
  where
    none : AllPairs R []
    none i j d below inside = absurd (omega (arith, inside))
pairs_marked R (x ∷ xs) (false ∷ marks) pairs = pairs_marked R xs marks (λ i j d below inside. pairs (suc i) (suc j) d (omega (arith, below)) (omega (arith, inside)))
pairs_marked R (x ∷ xs) (true ∷ marks) pairs =
    AllPairs-cons R x (marked xs marks) (all_marked (R x) xs marks (λ k d inside. pairs 0 (suc k) d (omega arith) (omega (arith, inside))))
    (pairs_marked R xs marks (λ i j d below inside. pairs (suc i) (suc j) d (omega (arith, below)) (omega (arith, inside))))

pub kept_inside : {X : Type 0} (xs : List X) (marks : List Bool) (x : X) → Contains (marked xs marks) x → Contains xs x
kept_inside xs marks x inside =
    let (k, at) = place_in (marked xs marks) x inside in
    contained_at xs (place_of marks k) x (kept_at xs marks k x at).0

pub stays_inside : {X : Type 0} (xs : List X) (marks : List Bool) (e : ℕ) (x : X) → slice_get xs e ≡ Some x → slice_get marks e ≡ Some true → Contains (marked xs marks) x
stays_inside xs marks e x at mark = contained_at (marked xs marks) (marks_before marks e) x (stays_at xs marks e x at mark)

-- ---- elements of lists that are made of others
-- where each two have different keys, one element stands at one place
pub one_place : {X : Type 0} (R : X → X → Type 0) (xs : List X) (i j : ℕ) (x : X) → AllPairs R xs → (R x x → ⊥) → slice_get xs i ≡ Some x → slice_get xs j ≡ Some x → i ≡ j
one_place R xs i j x pairs never at there = elim (cases_eq i j) [
  | inl same ↦ same
  | inr differ ↦ elim (cases_lt i j) [
    | inl below ↦ absurd (never (pair_at i j below at there))
    | inr past ↦ absurd (never (pair_at j i (omega (arith, differ, past)) there at))
  ]
]
  where
    pair_at : (a b : ℕ) → a < b → slice_get xs a ≡ Some x → slice_get xs b ≡ Some x → R x x
    pair_at a b below first second =
        subst (λ (y : _). R y x) (get_or_from_slice_get xs a x x first) (subst (λ (y : _). R (get_or xs a x) y) (get_or_from_slice_get xs b x x second) (pairs a b x below (slice_get_within xs b x second)))
