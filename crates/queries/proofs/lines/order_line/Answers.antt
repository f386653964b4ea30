use Rattle.std.proofs.Common.{◌∷◌, [], ◌++◌, ◌∙◌, ap, ℕ, List, codes}
use Rattle.line_format.specs.Words.{line_of}
use Rattle.queries.proofs.lines.order_line.Goals as goal

pub returns : goal.returns
returns c =
    c.push.ensures.items ∙ ap (λ (l : List ℕ). l ++ 10 ∷ []) (c.push_word.ensures.appended (codes "order") [] c.first_word-line.ensures)
    ∙ ap (λ (word : List ℕ). line_of (codes "order" ∷ word ∷ [])) c.order_word.ensures.word
