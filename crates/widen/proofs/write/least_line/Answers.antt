use Rattle.std.proofs.Common.{◌∷◌, [], ◌++◌, ◌∙◌, Some, ap, ℕ, List}
use Rattle.std.specs.Prelude.{codes}
use Rattle.atto.specs.Decimal.{decimal_of}
use Rattle.widen.specs.WideningText.{least_line}
use Rattle.widen.proofs.write.least_line.Goals as goal

pub returns : goal.returns
returns c =
    let number = c.push_decimal.ensures.appended (codes "least") [] c.first_word-line.ensures in
    c.push.ensures.items ∙ ap (λ (l : List ℕ). l ++ 10 ∷ []) (c.push_stated.ensures.appended (codes "least") (decimal_of c.get.result ∷ []) number)
    ∙ ap (λ (n : ℕ). least_line c.args.p.now c.args.what (Some n)) c.get.ensures.value
