-- Lists of which the first elements are taken.
use Rattle.std.proofs.Common.{◌≡◌, ◌<◌, ℕ, ◌+◌, List, [], ◌∷◌, ◌++◌, map, length, take, get_or, slice_get, Some, All, AllPairs, sym, ◌∙◌, ap, subst, arith}
use Rattle.std.proofs.lemmas.List.{get_or-take, length-take, map_more}
use Rattle.std.proofs.lemmas.Option.{slice_get_within, get_or_from_slice_get}

-- each element before a place with the one there
pub pairs_before : {X : Type 0} (R : X → X → Type 0) (xs : List X) (k : ℕ) (x : X) → AllPairs R xs → slice_get xs k ≡ Some x → All (λ v. R v x) (take k xs)
pairs_before R xs k x all at i d within =
    let last : k < length xs = slice_get_within xs k x at in
    let less : i < k = omega (arith, within, length-take k xs) in
    subst (λ v. R v x) (sym (get_or-take k xs i d less)) (subst (λ v. R (get_or xs i d) v) (get_or_from_slice_get xs k x d at) (all i k d less last))

-- ---- one element more
pub map_next : {X Y : Type 0} (f : X → Y) (xs : List X) (k : ℕ) (x : X) → slice_get xs k ≡ Some x → map f (take (k + 1) xs) ≡ map f (take k xs) ++ f x ∷ []
map_next f xs k x at = map_more f xs k x (slice_get_within xs k x at) ∙ ap (λ v. map f (take k xs) ++ f v ∷ []) (get_or_from_slice_get xs k x x at)
