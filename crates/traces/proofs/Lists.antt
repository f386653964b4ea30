-- Elements of lists by their places.
use Rattle.std.proofs.Common.{◌≡◌, ◌<◌, ℕ, zero, suc, List, [], ◌∷◌, map, length, get_or, slice_get, Some, All, AllPairs, Contains, Bool, true, false, refl, sym, ◌∙◌, ap, subst, arith}
use Rattle.std.specs.List.{position, position_or_len}
use Rattle.std.specs.Option.{unwrap_or}
use Rattle.std.proofs.lemmas.List.{get_or-map, length-map}
use Rattle.std.proofs.Math.Dec.{ltb}
use Rattle.std.proofs.lemmas.Bool.{lt-ltb}
use Rattle.std.proofs.lemmas.Option.{slice_get-get_or, slice_get_within, get_or_from_slice_get}

-- the element at a place of the list
pub got : {X : Type 0} (xs : List X) (k : ℕ) → k < length xs → (x : X) × (slice_get xs k ≡ Some x)
got [] k within = absurd (omega arith)
got (x ∷ xs) zero within = (x, refl)
got (x ∷ xs) (suc k) within = got xs k (omega arith)

pub place_in : {X : Type 0} (xs : List X) (x : X) → Contains xs x → (k : ℕ) × (slice_get xs k ≡ Some x)
place_in xs x inside = (inside.0, slice_get-get_or xs inside.0 x inside.1 ∙ ap Some inside.2)

pub all_at : {X : Type 0} (P : X → Type 0) (xs : List X) (k : ℕ) (x : X) → All P xs → slice_get xs k ≡ Some x → P x
all_at P xs k x all at = subst P (get_or_from_slice_get xs k x x at) (all k x (slice_get_within xs k x at))

pub pair_at : {X : Type 0} (R : X → X → Type 0) (xs : List X) (i j : ℕ) (x y : X) → AllPairs R xs → i < j → slice_get xs i ≡ Some x → slice_get xs j ≡ Some y → R x y
pair_at R xs i j x y all less at there =
    subst (λ v. R v y) (get_or_from_slice_get xs i x y at) (subst (λ v. R (get_or xs i y) v) (get_or_from_slice_get xs j y y there) (all i j y less (slice_get_within xs j y there)))

-- what holds of each two elements holds of what is made of them
pub pairs_map : {X Y : Type 0} (R : Y → Y → Type 0) (f : X → Y) (xs : List X) → AllPairs (λ a b. R (f a) (f b)) xs → AllPairs R (map f xs)
pairs_map R f [] all i j d less within = absurd (omega arith)
pairs_map {X} R f (x ∷ xs) all i j d less within =
    let whole : List X = x ∷ xs in
    let last : j < length whole = omega (arith, within, length-map xs f) in
    let first : i < length whole = omega (arith, less, last) in
    subst (λ v. R v (get_or (map f whole) j d)) (sym (get_or-map f whole i x d first))
    (subst (λ v. R (f (get_or whole i x)) v) (sym (get_or-map f whole j x d last)) (all i j x less last))

-- ---- the first place that passes a test
first_at : {X : Type 0} (p : X → Bool) (xs : List X) (k : ℕ) (x : X) → slice_get xs k ≡ Some x → p x ≡ true
    → ((i : ℕ) (v : X) → i < k → slice_get xs i ≡ Some v → p v ≡ false) → position_or_len p xs ≡ k
first_at p [] k x at pass before = absurd (cc)
first_at p (v ∷ xs) zero x at pass before = let same : v ≡ x = cc in rw (same, pass) refl
first_at p (v ∷ xs) (suc k) x at pass before =
    let no : p v ≡ false = before 0 v (omega arith) refl in
    let rest : position_or_len p xs ≡ k = first_at p xs k x at pass (λ i u less there. before (suc i) u (omega (arith, less)) there) in
    rw (no, rest) (omega arith)

pub only_at : {X : Type 0} (p : X → Bool) (xs : List X) (k : ℕ) (x : X) → slice_get xs k ≡ Some x → p x ≡ true
    → ((i : ℕ) (v : X) → i < k → slice_get xs i ≡ Some v → p v ≡ false) → unwrap_or (position p xs) 0 ≡ k
only_at p xs k x at pass before =
    let within : ltb k (length xs) ≡ true = lt-ltb k (length xs) (slice_get_within xs k x at) in
    rw (first_at p xs k x at pass before, within) refl
