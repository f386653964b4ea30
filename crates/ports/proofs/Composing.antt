-- Lines that are composed word by word.
use Rattle.std.proofs.Common.{◌≡◌, ℕ, List, [], ◌∷◌, ◌++◌, refl, sym, ◌∙◌, ap, append_assoc}
use Rattle.line_format.specs.Words.{words}

words_push : (first : List ℕ) (ws : List (List ℕ)) (w : List ℕ) → words (first ∷ ws ++ w ∷ []) ≡ words (first ∷ ws) ++ 32 ∷ w
words_push first [] w = refl
words_push first (v ∷ ws) w = ap (λ (rest : List ℕ). first ++ 32 ∷ rest) (words_push v ws w) ∙ sym (append_assoc first (32 ∷ words (v ∷ ws)) (32 ∷ w))

-- a word more
pub words_more : (first : List ℕ) (ws : List (List ℕ)) (w line : List ℕ) → line ≡ words (first ∷ ws) → (line ++ 32 ∷ []) ++ w ≡ words (first ∷ ws ++ w ∷ [])
words_more first ws w line is = append_assoc line (32 ∷ []) w ∙ ap (λ (l : List ℕ). l ++ 32 ∷ w) is ∙ sym (words_push first ws w)

-- two words more
pub two_more : (first : List ℕ) (ws : List (List ℕ)) (v w line : List ℕ) → line ≡ words (first ∷ (ws ++ v ∷ []) ++ w ∷ []) → line ≡ words (first ∷ ws ++ v ∷ w ∷ [])
two_more first ws v w line is = is ∙ ap (λ (all : List (List ℕ)). words (first ∷ all)) (append_assoc ws (v ∷ []) (w ∷ []))
