-- A list within a list is changed, and changed back.
use Rattle.std.proofs.Common.{◌≡◌, ℕ, zero, suc, ◌-◌, ◌<◌, List, [], ◌∷◌, ◌++◌, length, set, get_or, take, refl, ap, ◌∙◌, arith, length-append}
use Rattle.std.proofs.Math.Seq.{take-append_seam}
use Rattle.std.proofs.lemmas.List.{get_or-set_same, set-get_or}

take_end : {X : Type 0} (xs : List X) (x : X) → take (length (xs ++ x ∷ []) - 1) (xs ++ x ∷ []) ≡ xs
take_end xs x = let e : length (xs ++ x ∷ []) - 1 ≡ length xs = omega (arith, length-append xs (x ∷ [])) in ap (λ n. take n (xs ++ x ∷ [])) e ∙ take-append_seam xs (x ∷ [])

-- a pushed entry is taken back
pub taken_back : (lists now : List (List ℕ)) (node k : ℕ) → node < length lists → now ≡ set lists node (get_or lists node [] ++ k ∷ []) → set now node (take (length (get_or now node []) - 1) (get_or now node [])) ≡ lists
taken_back lists now node k l e =
    let at : get_or now node [] ≡ get_or lists node [] ++ k ∷ [] = ap (λ v. get_or v node []) e ∙ get_or-set_same lists node (get_or lists node [] ++ k ∷ []) [] l in
    let back : take (length (get_or now node []) - 1) (get_or now node []) ≡ get_or lists node [] = ap (λ v. take (length v - 1) v) at ∙ take_end (get_or lists node []) k in
    ap (λ v. set now node v) back ∙ ap (λ v. set v node (get_or lists node [])) e ∙ twice lists node (get_or lists node [] ++ k ∷ []) (get_or lists node []) ∙ set-get_or lists node []
  where
    twice : {X : Type 0} (xs : List X) (i : ℕ) (a b : X) → set (set xs i a) i b ≡ set xs i b
    twice [] i a b = refl
    twice (x ∷ xs) zero a b = refl
    twice (x ∷ xs) (suc i) a b = ap (λ v. x ∷ v) (twice xs i a b)
