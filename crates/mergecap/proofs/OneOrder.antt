-- Packets are arranged in one way.
use Rattle.std.proofs.Common.{◌≡◌, ◌⊎◌, zero, suc, List, [], ◌∷◌, All, AllPairs, Contains, refl, sym, ◌∙◌, subst, arith, inl, inr}
use Rattle.std.specs.List.Sorted.{IsPermutation}
use Rattle.std.proofs.lemmas.List.Elements.{All-contains}
use Rattle.std.proofs.lemmas.List.Sorted.{Contains-permutation, IsPermutation-sym, IsPermutation-trans}
use Rattle.report.specs.Merging.{ComesFirst}
use Rattle.report.proofs.OneFirst.{both_first}
use Rattle.mergecap.specs.MergedCapture.{IsArranged, Timed}

-- ---- lists in order
abbrev Before : Timed → Timed → Type 0
Before a b = ComesFirst a.key b.key

abbrev InOrder : List Timed → Type 0
InOrder ts = AllPairs (λ (a b : Timed). ComesFirst a.key b.key) ts

rest_in_order : (t : Timed) (ts : List Timed) → InOrder (t ∷ ts) → InOrder ts
rest_in_order t ts pairs i j d below inside = pairs (suc i) (suc j) d (omega (arith, below)) (omega (arith, inside))

behind_head : (t : Timed) (ts : List Timed) → InOrder (t ∷ ts) → All (Before t) ts
behind_head t ts pairs k d inside = pairs 0 (suc k) d (omega arith) (omega (arith, inside))

-- an element of a list is its head, or one of the rest
first_or_later : (t u : Timed) (ts : List Timed) → Contains (t ∷ ts) u → (t ≡ u) ⊎ Contains ts u
first_or_later t u ts (zero, inside, at) = inl at
first_or_later t u ts (suc k, inside, at) = inr (k, omega (arith, inside), at)

later : (t u : Timed) (ts : List Timed) → Contains ts u → Contains (t ∷ ts) u
later t u ts (k, inside, at) = (suc k, omega (arith, inside), at)

-- the heads of two lists in order with the same members are one
heads_one : (t u : Timed) (ts us : List Timed) → InOrder (t ∷ ts) → InOrder (u ∷ us) → (t ≡ u) ⊎ Contains ts u → (u ≡ t) ⊎ Contains us t → t ≡ u
heads_one t u ts us x y (inl same) other = same
heads_one t u ts us x y (inr there) (inl same) = sym same
heads_one t u ts us x y (inr there) (inr here) =
    absurd (both_first t.key u.key (All-contains (Before t) ts u (behind_head t ts x) there) (All-contains (Before u) us t (behind_head u us y) here))

-- what is behind the head of the one is behind that of the other
rest_among : (t u v : Timed) (ts us : List Timed) → InOrder (t ∷ ts) → t ≡ u → Contains ts v → (u ≡ v) ⊎ Contains us v → Contains us v
rest_among t u v ts us x head at (inr there) = there
rest_among t u v ts us x head at (inl same) =
    let self : ComesFirst v.key v.key = subst (λ (w : Timed). ComesFirst w.key v.key) (head ∙ same) (All-contains (Before t) ts v (behind_head t ts x) at) in
    absurd (both_first v.key v.key self self)

lists_one : (ts us : List Timed) → InOrder ts → InOrder us → ((v : Timed) → Contains ts v → Contains us v) → ((v : Timed) → Contains us v → Contains ts v) → ts ≡ us
lists_one [] [] x y f g = refl
lists_one [] (u ∷ us) x y f g = absurd (omega (arith, (g u (0, omega arith, refl)).1))
lists_one (t ∷ ts) [] x y f g = absurd (omega (arith, (f t (0, omega arith, refl)).1))
lists_one (t ∷ ts) (u ∷ us) x y f g =
    let head : t ≡ u = heads_one t u ts us x y (first_or_later t u ts (g u (0, omega arith, refl))) (first_or_later u t us (f t (0, omega arith, refl))) in
    let tail : ts ≡ us = lists_one ts us (rest_in_order t ts x) (rest_in_order u us y)
    (λ v at. rest_among t u v ts us x head at (first_or_later u v us (f v (later t v ts at))))
    (λ v at. rest_among u t v us ts y (sym head) at (first_or_later t v ts (g v (later u v us at)))) in
    rw (head, tail) refl

pub arranged_one : (ts a b : List Timed) → IsArranged ts a → IsArranged ts b → a ≡ b
arranged_one ts a b x y =
    let moved : IsPermutation a b = IsPermutation-trans a ts b (IsPermutation-sym ts a x.same) y.same in
    lists_one a b x.sorted y.sorted (λ v at. Contains-permutation a b v moved at) (λ v at. Contains-permutation b a v (IsPermutation-sym a b moved) at)
