-- Words of which there are three or four, and words whose first one is known.
use Rattle.std.proofs.Common.{◌≡◌, ◌<◌, ℕ, Bool, true, false, if◌then◌else◌, List, [], ◌∷◌, length, drop, slice_get, Some, codes, sym, ap, refl, ◌∙◌, arith}
use Rattle.std.specs.Str.{bytes_eq}
use Rattle.commands.specs.Asked.{Asked, asked_by, asked_few, asked_of, thin_by}
use Rattle.commands.specs.Asked.Asked.{Thin, Nothing}

pub three : (ws : List (List ℕ)) (a b c : List ℕ) → length ws ≡ 3 → slice_get ws 0 ≡ Some a → slice_get ws 1 ≡ Some b → slice_get ws 2 ≡ Some c → ws ≡ a ∷ b ∷ c ∷ []
three [] a b c count x y z = absurd (omega (arith, count))
three (u ∷ []) a b c count x y z = absurd (omega (arith, count))
three (u ∷ v ∷ []) a b c count x y z = absurd (omega (arith, count))
three (u ∷ v ∷ w ∷ []) a b c count x y z = cc
three (u ∷ v ∷ w ∷ t ∷ ws) a b c count x y z = absurd (omega (arith, count))

pub four : (ws : List (List ℕ)) (a b c d : List ℕ) → length ws ≡ 4 → slice_get ws 0 ≡ Some a → slice_get ws 1 ≡ Some b → slice_get ws 2 ≡ Some c → slice_get ws 3 ≡ Some d
    → ws ≡ a ∷ b ∷ c ∷ d ∷ []
four [] a b c d count x y z w = absurd (omega (arith, count))
four (t ∷ []) a b c d count x y z w = absurd (omega (arith, count))
four (t ∷ u ∷ []) a b c d count x y z w = absurd (omega (arith, count))
four (t ∷ u ∷ v ∷ []) a b c d count x y z w = absurd (omega (arith, count))
four (t ∷ u ∷ v ∷ s ∷ []) a b c d count x y z w = cc
four (t ∷ u ∷ v ∷ s ∷ r ∷ ws) a b c d count x y z w = absurd (omega (arith, count))

same_word : (x a : List ℕ) → Some x ≡ Some a → x ≡ a
same_word x a same = cc

pub few : (ws : List (List ℕ)) (a : List ℕ) → slice_get ws 0 ≡ Some a → bytes_eq a (codes "thin") ≡ false → asked_few ws ≡ asked_of ws
few [] a at other = absurd cc
few (x ∷ more) a at other =
    let is : bytes_eq x (codes "thin") ≡ false = ap (λ (w : List ℕ). bytes_eq w (codes "thin")) (same_word x a at) ∙ other in
    ap (λ (b : Bool). if b then thin_by more else asked_by x more) (sym is)

pub by_thin : (ws : List (List ℕ)) (a : List ℕ) → slice_get ws 0 ≡ Some a → bytes_eq a (codes "thin") ≡ true → thin_by (drop 1 ws) ≡ asked_of ws
by_thin [] a at same = absurd cc
by_thin (x ∷ more) a at same =
    let is : bytes_eq x (codes "thin") ≡ true = ap (λ (w : List ℕ). bytes_eq w (codes "thin")) (same_word x a at) ∙ same in
    ap (λ (b : Bool). if b then thin_by more else asked_by x more) (sym is)

pub no_problem : (ws : List (List ℕ)) → length ws < 2 → Nothing ≡ thin_by (drop 1 ws)
no_problem [] few = refl
no_problem (x ∷ []) few = refl
no_problem (x ∷ y ∷ ws) few = absurd (omega (arith, few))

pub with_problem : (ws : List (List ℕ)) (problem : List ℕ) → slice_get ws 1 ≡ Some problem → Thin problem (drop 2 ws) ≡ thin_by (drop 1 ws)
with_problem [] problem at = absurd cc
with_problem (x ∷ []) problem at = absurd cc
with_problem (x ∷ y ∷ ws) problem at = ap (λ (w : List ℕ). Thin w ws) (sym (same_word y problem at))

pub no_words : (ws : List (List ℕ)) → length ws ≡ 0 → Nothing ≡ asked_of ws
no_words [] none = refl
no_words (x ∷ ws) none = absurd (omega (arith, none))
