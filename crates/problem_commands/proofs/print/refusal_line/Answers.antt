use Rattle.std.proofs.Common.{◌≡◌, ◌∷◌, [], ◌++◌, ◌∙◌, ap, ℕ, List, rules}
use Rattle.line_format.specs.Words.{words}
use Rattle.atto.specs.Decimal.{decimal_of}
use Rattle.problem_commands.specs.Refusal.{printed_cause, printed_line}
use Rattle.problem_commands.proofs.print.refusal_line.Goals as goal

pub returns : goal.returns
returns c =
    let number = c.push_decimal.ensures.appended c.args.kind.now [] c.first_word-line.ensures in
    let said : c.from.result ≡ printed_cause c.args.refusal = search rules in
    let at : c.place.result ≡ printed_line c.args.refusal = search rules in
    let place = c.push_decimal-2.ensures.appended c.args.kind.now (decimal_of c.from.result ∷ []) number in
    c.push.ensures.items ∙ ap (λ (l : List ℕ). l ++ 10 ∷ []) (place ∙ ap (λ (n : ℕ). words (c.args.kind.now ∷ decimal_of n ∷ decimal_of c.place.result ∷ [])) said ∙ ap (λ (n : ℕ). words (c.args.kind.now ∷ decimal_of (printed_cause c.args.refusal) ∷ decimal_of n ∷ [])) at)
