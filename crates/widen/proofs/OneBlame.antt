-- A problem has one text that says what is to blame.
use Rattle.std.proofs.Common.{◌≡◌, ℕ, List, [], ◌∷◌, ◌++◌, Option, Some, None, refl, sym, ◌∙◌, ap, inl, inr}
use Rattle.problem_model.specs.Problem.{ProblemLists}
use Rattle.cert_check.specs.declared.what.What.{What}
use Rattle.widen.specs.Blame.{IsHealing, blame_line, Blames, IsBlameText, candidates}
use Rattle.widen.proofs.Rising.{one_least}

healing_one : (p : ProblemLists) (what : What) (a b : Option ℕ) → IsHealing p what a → IsHealing p what b → a ≡ b
healing_one p what None None x y = refl
healing_one p what None (Some f) x y = absurd (x f y.within y.heals)
healing_one p what (Some e) None x y = absurd (y e x.within x.heals)
healing_one p what (Some e) (Some f) x y = ap Some (one_least what p e f x y)

lines_one : (p : ProblemLists) (whats : List What) (a b : List ℕ) → Blames p whats a → Blames p whats b → a ≡ b
lines_one p [] a b x y = x ∙ sym y
lines_one p (what ∷ rest) a b (answer, more, healing, blames, is) (answer', more', healing', blames', is') =
    let same : answer ≡ answer' = healing_one p what answer answer' healing healing' in
    let behind : more ≡ more' = lines_one p rest more more' blames blames' in
    is ∙ ap (λ (o : Option ℕ). blame_line p what o ++ more) same ∙ ap (λ (l : List ℕ). blame_line p what answer' ++ l) behind ∙ sym is'

pub blame_one : (p : ProblemLists) (a b : List ℕ) → IsBlameText p a → IsBlameText p b → a ≡ b
blame_one p a b (inl x) (inl y) = x.2 ∙ sym y.2
blame_one p a b (inl x) (inr y) = absurd (y.0 x.0 x.1)
blame_one p a b (inr x) (inl y) = absurd (x.0 y.0 y.1)
blame_one p a b (inr x) (inr y) = lines_one p (candidates p) a b x.1 y.1
