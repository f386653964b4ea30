use Rattle.std.proofs.Common.{◌≡◌, ◌∷◌, [], ◌++◌, ◌∙◌, ap, ℕ, List, codes, rules}
use Rattle.atto.specs.Decimal.{decimal_of}
use Rattle.line_format.specs.Words.{words}
use Rattle.commands.specs.Sessions.{section_word}
use Rattle.commands.proofs.lines.declaration_line.Goals as goal

pub returns : goal.returns
returns c =
    let first = codes "declaration" in
    let number = c.push_decimal.ensures.appended first [] c.first_word-line.ensures in
    let word = c.section_word.result.now in
    let section = c.push_word.ensures.appended first (decimal_of c.from.result ∷ []) number in
    let index = c.push_decimal-2.ensures.appended first (decimal_of c.from.result ∷ word ∷ []) section in
    let said : c.from.result ≡ c.args.number = search rules in
    let at : c.from-2.result ≡ c.args.index = search rules in
    c.push.ensures.items
    ∙ ap (λ (l : List ℕ). l ++ 10 ∷ []) (index
    ∙ ap (λ (n : ℕ). words (first ∷ decimal_of n ∷ word ∷ decimal_of c.from-2.result ∷ [])) said
    ∙ ap (λ (w : List ℕ). words (first ∷ decimal_of c.args.number ∷ w ∷ decimal_of c.from-2.result ∷ [])) c.section_word.ensures.word
    ∙ ap (λ (n : ℕ). words (first ∷ decimal_of c.args.number ∷ section_word c.args.section ∷ decimal_of n ∷ [])) at)
