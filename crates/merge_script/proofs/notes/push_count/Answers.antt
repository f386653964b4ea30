use Rattle.std.proofs.Common.{◌≡◌, ◌∷◌, [], ◌++◌, ◌∙◌, ap, ℕ, rules}
use Rattle.atto.specs.Decimal.{decimal_of}
use Rattle.line_format.specs.Words.{words}
use Rattle.ports.proofs.Composing.{two_more}
use Rattle.merge_script.proofs.notes.push_count.Goals as goal

pub returns-clause-appended : goal.returns-clause-appended
returns-clause-appended c = λ first ws is.
    let word = c.push_word.ensures.appended first ws is in
    let same : c.from.result ≡ c.args.count = search rules in
    two_more first ws c.args.word.now (decimal_of c.from.result) _ (c.push_decimal.ensures.appended first (ws ++ c.args.word.now ∷ []) word)
    ∙ ap (λ (n : ℕ). words (first ∷ ws ++ c.args.word.now ∷ decimal_of n ∷ [])) same
