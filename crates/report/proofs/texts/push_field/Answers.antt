use Rattle.std.proofs.Common.{◌++◌, ◌∷◌, [], ◌∙◌, ap, ℕ, List}
use Rattle.atto.specs.Decimal.{decimal_of}
use Rattle.ports.proofs.Composing.{two_more, words_more}
use Rattle.report.proofs.texts.push_field.Goals as goal

pub returns : goal.returns
returns c = λ first ws is.
    let name = c.in_ok-push_word.ensures first ws is in
    two_more first ws c.args.name.now (decimal_of c.args.number) _
    (c.in_ok-push_decimal.ensures ∙ ap (λ (l : List ℕ). l ++ decimal_of c.args.number) c.in_ok-push.ensures.items ∙ words_more first (ws ++ c.args.name.now ∷ []) (decimal_of c.args.number) _ name)
