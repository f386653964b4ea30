use Rattle.std.proofs.Common.{◌≡◌, ◌∷◌, [], ◌++◌, ◌∙◌, ap, ℕ, List, codes, rules}
use Rattle.session_answers.specs.TimesTexts.{times_head}
use Rattle.session_answers.proofs.times_lines.head_line.Goals as goal

pub returns : goal.returns
returns c =
    let count : c.from.result ≡ c.args.count = search rules in
    c.push.ensures.items ∙ ap (λ (l : List ℕ). l ++ 10 ∷ []) (c.push_decimal.ensures.appended (codes "times") [] c.first_word-line.ensures)
    ∙ ap times_head count
