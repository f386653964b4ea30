-- Packets have one list of taps.
use Rattle.std.proofs.Common.{◌≡◌, ◌⊎◌, zero, suc, List, [], ◌∷◌, All, AllPairs, Contains, refl, sym, ◌∙◌, subst, arith, inl, inr}
use Rattle.std.proofs.lemmas.List.Elements.{All-contains}
use Rattle.mergecap.specs.MergedCapture.{Timed}
use Rattle.merged_blocks.specs.declared.taps.Tap.{Tap}
use Rattle.merged_blocks.specs.Taps.{AreTapsOf, StandsBefore}

not_both : (a b : Tap) → StandsBefore a b → StandsBefore b a → ⊥
not_both a b (inl x) (inl y) = omega (arith, x, y)
not_both a b (inl x) (inr y) = let same = y.0 in omega (arith, x, same)
not_both a b (inr x) (inl y) = let same = x.0 in omega (arith, y, same)
not_both a b (inr x) (inr y) = let less = x.1 in let more = y.1 in omega (arith, less, more)

rest_in_order : (t : Tap) (ts : List Tap) → AllPairs StandsBefore (t ∷ ts) → AllPairs StandsBefore ts
rest_in_order t ts pairs i j d below inside = pairs (suc i) (suc j) d (omega (arith, below)) (omega (arith, inside))

behind_head : (t : Tap) (ts : List Tap) → AllPairs StandsBefore (t ∷ ts) → All (StandsBefore t) ts
behind_head t ts pairs k d inside = pairs 0 (suc k) d (omega arith) (omega (arith, inside))

-- an element of a list is its head, or one of the rest
first_or_later : (t u : Tap) (ts : List Tap) → Contains (t ∷ ts) u → (t ≡ u) ⊎ Contains ts u
first_or_later t u ts (zero, inside, at) = inl at
first_or_later t u ts (suc k, inside, at) = inr (k, omega (arith, inside), at)

later : (t u : Tap) (ts : List Tap) → Contains ts u → Contains (t ∷ ts) u
later t u ts (k, inside, at) = (suc k, omega (arith, inside), at)

heads_one : (t u : Tap) (ts us : List Tap) → AllPairs StandsBefore (t ∷ ts) → AllPairs StandsBefore (u ∷ us) → (t ≡ u) ⊎ Contains ts u → (u ≡ t) ⊎ Contains us t → t ≡ u
heads_one t u ts us x y (inl same) other = same
heads_one t u ts us x y (inr there) (inl same) = sym same
heads_one t u ts us x y (inr there) (inr here) =
    absurd (not_both t u (All-contains (StandsBefore t) ts u (behind_head t ts x) there) (All-contains (StandsBefore u) us t (behind_head u us y) here))

-- what is behind the head of the one is behind that of the other
rest_among : (t u v : Tap) (ts us : List Tap) → AllPairs StandsBefore (t ∷ ts) → t ≡ u → Contains ts v → (u ≡ v) ⊎ Contains us v → Contains us v
rest_among t u v ts us x head at (inr there) = there
rest_among t u v ts us x head at (inl same) =
    let self : StandsBefore v v = subst (λ (w : Tap). StandsBefore w v) (head ∙ same) (All-contains (StandsBefore t) ts v (behind_head t ts x) at) in
    absurd (not_both v v self self)

lists_one : (ts us : List Tap) → AllPairs StandsBefore ts → AllPairs StandsBefore us → ((v : Tap) → Contains ts v → Contains us v) → ((v : Tap) → Contains us v → Contains ts v) → ts ≡ us
lists_one [] [] x y f g = refl
lists_one [] (u ∷ us) x y f g = absurd (omega (arith, (g u (0, omega arith, refl)).1))
lists_one (t ∷ ts) [] x y f g = absurd (omega (arith, (f t (0, omega arith, refl)).1))
lists_one (t ∷ ts) (u ∷ us) x y f g =
    let head : t ≡ u = heads_one t u ts us x y (first_or_later t u ts (g u (0, omega arith, refl))) (first_or_later u t us (f t (0, omega arith, refl))) in
    let tail : ts ≡ us = lists_one ts us (rest_in_order t ts x) (rest_in_order u us y)
    (λ v at. rest_among t u v ts us x head at (first_or_later u v us (f v (later t v ts at))))
    (λ v at. rest_among u t v us ts y (sym head) at (first_or_later t v ts (g v (later u v us at)))) in
    rw (head, tail) refl

among : (ts : List Timed) (a b : List Tap) → AreTapsOf ts a → AreTapsOf ts b → (v : Tap) → Contains a v → Contains b v
among ts a b x y v at = let t = x.each v at in subst (Contains b) t.2 (y.every t.0 t.1)

pub taps_one : (ts : List Timed) (a b : List Tap) → AreTapsOf ts a → AreTapsOf ts b → a ≡ b
taps_one ts a b x y = lists_one a b x.sorted y.sorted (among ts a b x y) (among ts b a y x)
