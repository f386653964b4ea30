use Rattle.std.proofs.Common.{◌≡◌, ◌∷◌, [], ◌++◌, ◌∙◌, ap, ℕ, List, codes, rules}
use Rattle.atto.specs.Decimal.{decimal_of}
use Rattle.line_format.specs.Words.{words}
use Rattle.commands.proofs.lines.counts_line.Goals as goal

pub returns : goal.returns
returns c =
    let first = codes "trial" in
    let number = c.push_decimal.ensures.appended first [] c.first_word-line.ensures in
    let said = decimal_of c.from.result in
    let events = c.push_word.ensures.appended first (said ∷ []) number in
    let counted = c.push_decimal-2.ensures.appended first (said ∷ codes "events" ∷ []) events in
    let many = decimal_of c.args.events in
    let messages = c.push_word-2.ensures.appended first (said ∷ codes "events" ∷ many ∷ []) counted in
    let all = c.push_decimal-3.ensures.appended first (said ∷ codes "events" ∷ many ∷ codes "messages" ∷ []) messages in
    let same : c.from.result ≡ c.args.number = search rules in
    c.push.ensures.items
    ∙ ap (λ (l : List ℕ). l ++ 10 ∷ []) (all
    ∙ ap (λ (n : ℕ). words (first ∷ decimal_of n ∷ codes "events" ∷ many ∷ codes "messages" ∷ decimal_of c.args.messages ∷ [])) same)
