-- The code's own test on keys.
use Rattle.std.proofs.Common.{◌≡◌, ℕ, ◌+◌, ◌-◌, List, [], ◌∷◌, ◌++◌, length, map, take, get_or, slice_get, Bool, false, ◌||◌, Option, Some, None, refl, sym, ap, ◌∙◌, arith}
use Rattle.std.specs.Prelude.{IfSome, IfNone, option_map}
use Rattle.std.specs.List.{position, list_any}
use Rattle.std.proofs.lemmas.List.{get_or_at, get_or-map, length-map, length_push, take_all, take_more, take-map}
use Rattle.std.proofs.lemmas.List.Quantifiers.{position-Some}
use Rattle.std.proofs.lemmas.Option.{slice_get-get_or, slice_get-map}
use Rattle.traces.specs.declared.event.Key.{Key}
use Rattle.interner.specs.Numbers.{IsLast}
use Rattle.traces.specs.Seen.{EventKey, is_same_key, key_of}
use Rattle.traces.proofs.Keys.{key_eq, key_test}
use Rattle.msg_match.proofs.Grouping.{exact_keys}
use Rattle.msg_match.proofs.Placing.{no_place, none_any}

any_is : (k : Key) (ks : List Key) → list_any (key_eq k) ks ≡ list_any (is_same_key (key_of k)) (map key_of ks)
any_is k [] = refl
any_is k (j ∷ ks) =
    ap (λ (b : Bool). b || list_any (key_eq k) ks) (key_test k j) ∙ ap (λ (b : Bool). is_same_key (key_of k) (key_of j) || b) (any_is k ks)

-- a key is found at its place
pub found : (k : Key) (ks : List Key) (o : Option ℕ) → o ≡ position (key_eq k) ks → IfSome o (λ p. slice_get (map key_of ks) p ≡ Some (key_of k))
found k ks None is = tt
found k ks (Some p) is =
    let at = position-Some (key_eq k) ks p k (sym is) in
    let same : key_of k ≡ key_of (get_or ks p k) = exact_keys.one (key_of k) (key_of (get_or ks p k)) (sym (key_test k (get_or ks p k)) ∙ at.1) in
    slice_get-map key_of ks p ∙ ap (option_map key_of) (slice_get-get_or ks p k at.0) ∙ ap Some (sym same)

-- or it is not there
pub missed : (k : Key) (ks : List Key) (o : Option ℕ) → o ≡ position (key_eq k) ks → IfNone o (list_any (is_same_key (key_of k)) (map key_of ks) ≡ false)
missed k ks (Some p) is = tt
missed k ks None is = sym (any_is k ks) ∙ none_any (key_eq k) ks (sym is)

-- a key that is not there has no place
pub absent : (k : Key) (ks : List Key) → list_any (is_same_key (key_of k)) (map key_of ks) ≡ false → position (key_eq k) ks ≡ None
absent k ks new = no_place (key_eq k) ks (any_is k ks ∙ new)

-- the last key is the last of those that are seen
pub last_key : (k : Key) (ks : List Key) → IsLast (is_same_key (key_of k)) (map key_of ks) → IsLast (key_eq k) ks
last_key k ks last =
    let n = length last.0 in
    let many : length ks ≡ n + 1 = sym (length-map ks key_of) ∙ ap length last.2 ∙ length_push last.0 last.1 in
    let x = get_or ks n k in
    let split : ks ≡ take n ks ++ x ∷ [] = sym (take_all (n + 1) ks (omega (arith, many))) ∙ take_more ks n k (omega (arith, many)) in
    let there : key_of x ≡ last.1 =
    sym (get_or-map key_of ks n k (key_of k) (omega (arith, many))) ∙ ap (λ (l : List EventKey). get_or l n (key_of k)) last.2 ∙ get_or_at last.0 last.1 [] (key_of k) n refl in
    (take n ks, x, split, key_test k x ∙ ap (is_same_key (key_of k)) there ∙ last.3)

-- and without the last one the others stay
pub short_keys : (ks short : List Key) → short ≡ take (length ks - 1) ks → map key_of short ≡ take (length (map key_of ks) - 1) (map key_of ks)
short_keys ks short is = ap (map key_of) is ∙ sym (take-map key_of (length ks - 1) ks) ∙ ap (λ (n : ℕ). take (n - 1) (map key_of ks)) (sym (length-map ks key_of))
