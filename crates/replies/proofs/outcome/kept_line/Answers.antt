use Rattle.std.proofs.Common.{◌≡◌, ◌∷◌, [], ◌++◌, ◌∙◌, ap, ℕ, List, rules}
use Rattle.std.specs.Prelude.{codes}
use Rattle.atto.specs.Decimal.{decimal_of}
use Rattle.line_format.specs.Words.{words}
use Rattle.replies.proofs.outcome.kept_line.Goals as goal

pub returns : goal.returns
returns c =
    let number : c.from.result ≡ c.args.slot = search rules in
    c.push.ensures.items ∙ ap (λ (l : List ℕ). l ++ 10 ∷ [])
    (c.push_decimal.ensures.appended (codes "kept") [] c.first_word-line.ensures ∙ ap (λ (n : ℕ). words (codes "kept" ∷ decimal_of n ∷ [])) number)
