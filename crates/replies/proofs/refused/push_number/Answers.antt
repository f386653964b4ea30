use Rattle.std.proofs.Common.{◌∷◌, [], ◌++◌, ◌∙◌, ap, ℕ, List}
use Rattle.line_format.specs.Words.{words}
use Rattle.replies.proofs.refused.push_number.Goals as goal

pub returns-clause-appended : goal.returns-clause-appended
returns-clause-appended c = λ first ws is.
    c.push_word.ensures.appended first ws is ∙ ap (λ (digits : List ℕ). words (first ∷ ws ++ digits ∷ [])) (c.as_slice.ensures.value ∙ c.digits_of.ensures.digits)
