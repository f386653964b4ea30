use Rattle.std.proofs.Common.{◌++◌, ◌∷◌, [], ◌∙◌, ap, ℕ, List, length, arith}
use Rattle.line_format.specs.Words.{words}
use Rattle.problem_text.proofs.words.push_name.Goals as goal

pub push_word-requires-clause-short : goal.push_word-requires-clause-short
push_word-requires-clause-short c = omega (arith, c.bytes.ensures.named.short, ap length c.bytes.ensures.value)

pub returns-clause-appended : goal.returns-clause-appended
returns-clause-appended c = λ first ws is.
    c.push_word.ensures.appended first ws is ∙ ap (λ (w : List ℕ). words (first ∷ ws ++ w ∷ [])) c.bytes.ensures.value
