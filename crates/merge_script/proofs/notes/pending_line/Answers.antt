use Rattle.std.proofs.Common.{◌≡◌, ◌∷◌, [], ◌++◌, ◌∙◌, ap, ℕ, List, codes, rules}
use Rattle.atto.specs.Decimal.{decimal_of}
use Rattle.line_format.specs.Words.{words}
use Rattle.merge_script.proofs.notes.pending_line.Goals as goal

pub returns : goal.returns
returns c =
    let first : List ℕ = c.args.label.now in
    let word = c.push_word.ensures.appended first [] (c.first_word-line.ensures ∙ c.bytes.ensures.value) in
    let counted = c.push_decimal.ensures.appended first (codes "pending" ∷ []) word in
    let same : c.from.result ≡ c.args.pending = search rules in
    c.push.ensures.items ∙ ap (λ (l : List ℕ). l ++ 10 ∷ []) (counted ∙ ap (λ (n : ℕ). words (first ∷ codes "pending" ∷ decimal_of n ∷ [])) same)
