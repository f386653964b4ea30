use Rattle.std.proofs.Common.{◌∷◌, [], ◌++◌, ◌∙◌, ap, ℕ, List}
use Rattle.std.specs.Prelude.{codes}
use Rattle.atto.specs.Decimal.{decimal_of}
use Rattle.line_format.specs.Words.{words}
use Rattle.replies.specs.Refusals.{details}
use Rattle.replies.proofs.refusal.Refusal.line.Goals as goal

pub returns : goal.returns
returns c =
    let number = c.push_decimal.ensures.appended (codes "refused") [] c.first_word-line.ensures in
    let all = c.push_details.ensures.appended (codes "refused") (decimal_of c.number.result ∷ []) number in
    c.push.ensures.items ∙ ap (λ (l : List ℕ). l ++ 10 ∷ []) (all ∙ ap (λ (n : ℕ). words (codes "refused" ∷ decimal_of n ∷ details c.args.self)) c.number.ensures)
