-- The follows of a declaration, place by place.
use Rattle.std.proofs.Common.{◌≡◌, ℕ, ◌+◌, List, [], ◌∷◌, ◌++◌, option_to_list, sym, ◌∙◌, ap, arith, map-id, append-nil}
use Rattle.std.specs.List.{flat_map, range_with_len}
use Rattle.std.proofs.lemmas.List.Concat.{flat_map-append}
use Rattle.std.proofs.lemmas.List.FromFn.{map-range_with_len_more}
use Rattle.problem_model.specs.declared.items.Follow.{Follow}
use Rattle.decl.specs.Declaration.{Declaration, follow_from}

-- the follows from the places before one
abbrev pub follows_before : Declaration → ℕ → List Follow
follows_before d n = flat_map (λ k. option_to_list (follow_from d k)) (range_with_len 0 n)

places_more : (n : ℕ) → range_with_len 0 (n + 1) ≡ range_with_len 0 n ++ n ∷ []
places_more n = sym (map-id (range_with_len 0 (n + 1))) ∙ map-range_with_len_more (λ k. k) 0 n n (omega arith) ∙ ap (λ ks. ks ++ n ∷ []) (map-id (range_with_len 0 n))

pub before_more : (d : Declaration) (n : ℕ) → follows_before d (n + 1) ≡ follows_before d n ++ option_to_list (follow_from d n)
before_more d n =
    let from : ℕ → List Follow = λ k. option_to_list (follow_from d k) in
    ap (flat_map from) (places_more n) ∙ flat_map-append from (range_with_len 0 n) (n ∷ []) ∙ ap (λ fs. follows_before d n ++ fs) (append-nil (from n))
