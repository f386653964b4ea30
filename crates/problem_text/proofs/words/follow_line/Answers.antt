use Rattle.std.proofs.Common.{◌∷◌, [], ◌++◌, ◌∙◌, ap, ℕ, List}
use Rattle.std.specs.Prelude.{codes}
use Rattle.atto.specs.Decimal.{decimal_of}
use Rattle.line_format.specs.Words.{line_of}
use Rattle.problem_text.proofs.words.follow_line.Goals as goal

pub returns : goal.returns
returns c =
    let first = codes "follow" in
    let earlier = c.push_name.ensures.appended first [] c.first_word-line.ensures in
    let later = c.push_name-2.ensures.appended first (c.args.earlier.now ∷ []) earlier in
    let gap = c.push_decimal.ensures.appended first (c.args.earlier.now ∷ c.args.later.now ∷ []) later in
    c.push.ensures.items ∙ ap (λ (l : List ℕ). l ++ 10 ∷ []) gap
    ∙ ap (λ (n : ℕ). line_of (first ∷ c.args.earlier.now ∷ c.args.later.now ∷ decimal_of n ∷ [])) c.get.ensures.value
