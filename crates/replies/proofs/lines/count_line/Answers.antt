use Rattle.std.proofs.Common.{◌∷◌, [], ◌++◌, ◌∙◌, ap, ℕ, List, codes}
use Rattle.replies.proofs.lines.count_line.Goals as goal

pub returns : goal.returns
returns c = c.push.ensures.items ∙ ap (λ (l : List ℕ). l ++ 10 ∷ []) (c.push_decimal.ensures.appended (codes "merge") [] c.first_word-line.ensures)
