-- Words behind words.
use Rattle.std.proofs.Common.{◌≡◌, ℕ, List, ◌++◌, ◌∷◌, ap, ◌∙◌, append_assoc}
use Rattle.line_format.specs.Words.{words}

two : (ws a b : List (List ℕ)) → ws ++ a ++ b ≡ ws ++ (a ++ b)
two ws a b = append_assoc ws a b

three : (ws a b c : List (List ℕ)) → ws ++ a ++ b ++ c ≡ ws ++ (a ++ (b ++ c))
three ws a b c = append_assoc (ws ++ a) b c ∙ two ws a (b ++ c)

four : (ws a b c d : List (List ℕ)) → ws ++ a ++ b ++ c ++ d ≡ ws ++ (a ++ (b ++ (c ++ d)))
four ws a b c d = append_assoc (ws ++ a ++ b) c d ∙ three ws a b (c ++ d)

five : (ws a b c d e : List (List ℕ)) → ws ++ a ++ b ++ c ++ d ++ e ≡ ws ++ (a ++ (b ++ (c ++ (d ++ e))))
five ws a b c d e = append_assoc (ws ++ a ++ b ++ c) d e ∙ four ws a b c (d ++ e)

six : (ws a b c d e f : List (List ℕ)) → ws ++ a ++ b ++ c ++ d ++ e ++ f ≡ ws ++ (a ++ (b ++ (c ++ (d ++ (e ++ f)))))
six ws a b c d e f = append_assoc (ws ++ a ++ b ++ c ++ d) e f ∙ five ws a b c d (e ++ f)

regrouped : (first : List ℕ) (xs ys : List (List ℕ)) (text : List ℕ) → xs ≡ ys → text ≡ words (first ∷ xs) → text ≡ words (first ∷ ys)
regrouped first xs ys text e is = is ∙ ap (λ (ws : List (List ℕ)). words (first ∷ ws)) e

-- what was appended in parts is appended as one
pub in_two : (first : List ℕ) (ws a b : List (List ℕ)) (text : List ℕ) → text ≡ words (first ∷ (ws ++ a) ++ b) → text ≡ words (first ∷ ws ++ (a ++ b))
in_two first ws a b text is = regrouped first _ _ text (two ws a b) is

pub in_three : (first : List ℕ) (ws a b c : List (List ℕ)) (text : List ℕ) → text ≡ words (first ∷ (ws ++ a ++ b) ++ c) → text ≡ words (first ∷ ws ++ (a ++ (b ++ c)))
in_three first ws a b c text is = regrouped first _ _ text (three ws a b c) is

pub in_six : (first : List ℕ) (ws a b c d e f : List (List ℕ)) (text : List ℕ) → text ≡ words (first ∷ (ws ++ a ++ b ++ c ++ d ++ e) ++ f) → text ≡ words (first ∷ ws ++ (a ++ (b ++ (c ++ (d ++ (e ++ f))))))
in_six first ws a b c d e f text is = regrouped first _ _ text (six ws a b c d e f) is
