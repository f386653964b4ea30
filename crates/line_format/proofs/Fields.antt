-- The words of a line are the ones that it was made of.
use Rattle.std.proofs.Common.{◌≡◌, ℕ, zero, suc, List, [], ◌∷◌, ◌++◌, length, Option, Some, None, refl, ◌∙◌, ap, arith}
use Rattle.line_format.specs.Words.{words}
use Rattle.line_format.specs.Cut.{cut, Lacks, fields, ◌>>=◌}
use Rattle.line_format.proofs.Cutting.{cut_takes, cut_again}

bind_some : {A B : Type 0} (o : Option A) (f : A → Option B) (y : B) → (o >>= f) ≡ Some y → (x : A) × (o ≡ Some x) × (f x ≡ Some y)
bind_some None f y e = absurd cc
bind_some (Some x) f y e = (x, refl, e)

-- all words but the last lack a space
abbrev pub AllButLast : List (List ℕ) → Type 0
AllButLast [] = Unit {0}
AllButLast (w ∷ []) = Unit {0}
AllButLast (w ∷ v ∷ ws) = Lacks 32 w × AllButLast (v ∷ ws)

abbrev AreFields : ℕ → List ℕ → List (List ℕ) → Type 0
AreFields n line ws = (line ≡ words ws) × (length ws ≡ suc n)

fields_step : (n : ℕ) (line first rest : List ℕ) (more : List (List ℕ)) → line ≡ first ++ 32 ∷ rest → AreFields n rest more → AreFields (suc n) line (first ∷ more)
fields_step n line first rest [] is are = absurd (let e : 0 ≡ suc n = are.1 in cc)
fields_step n line first rest (v ∷ more) is are = (is ∙ ap (λ xs. first ++ 32 ∷ xs) are.0, ap suc are.1)

pub fields_take : (n : ℕ) (line : List ℕ) (ws : List (List ℕ)) → fields n line ≡ Some ws → (line ≡ words ws) × (length ws ≡ suc n)
unfolding fields
fields_take zero line ws e =
    let is : ws ≡ line ∷ [] = cc in rw is (refl, refl)
fields_take (suc n) line ws e =
    let a = bind_some (cut 32 line) (λ first. fields n first.1 >>= λ more. Some (first.0 ∷ more)) ws e in
    let b = bind_some (fields n a.0.1) (λ more. Some (a.0.0 ∷ more)) ws a.2 in
    let is : ws ≡ a.0.0 ∷ b.0 = let e' = b.2 in cc in
    rw is (fields_step n line a.0.0 a.0.1 b.0 (cut_takes 32 line a.0 a.1).0 (fields_take n a.0.1 b.0 b.1))

pub fields_again : (n : ℕ) (ws : List (List ℕ)) → length ws ≡ suc n → AllButLast ws → fields n (words ws) ≡ Some ws
unfolding fields
fields_again n [] len lacks = absurd cc
fields_again zero (w ∷ []) len lacks = refl
fields_again zero (w ∷ v ∷ ws) len lacks = absurd (omega (arith, len))
fields_again (suc n) (w ∷ []) len lacks = absurd (omega (arith, len))
fields_again (suc n) (w ∷ v ∷ ws) len lacks = rw (cut_again 32 w (words (v ∷ ws)) lacks.0, fields_again n (v ∷ ws) (omega (arith, len)) lacks.1) refl
