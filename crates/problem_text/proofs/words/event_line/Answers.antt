use Rattle.std.proofs.Common.{◌∷◌, [], ◌++◌, ◌∙◌, ap, ℕ, List}
use Rattle.std.specs.Prelude.{codes}
use Rattle.atto.specs.Decimal.{decimal_of}
use Rattle.line_format.specs.Words.{line_of}
use Rattle.problem_model.specs.ProblemText.{bound_words}
use Rattle.problem_text.proofs.words.event_line.Goals as goal

pub returns : goal.returns
returns c =
    let name = c.push_name.ensures.appended (codes "event") [] c.first_word-line.ensures in
    let clock = c.push_name-2.ensures.appended (codes "event") (c.args.name.now ∷ []) name in
    let stamp = c.push_decimal.ensures.appended (codes "event") (c.args.name.now ∷ c.args.clock.now ∷ []) clock in
    let bounds = c.push_bounds.ensures.appended (codes "event") (c.args.name.now ∷ c.args.clock.now ∷ decimal_of c.get.result ∷ []) stamp in
    c.push.ensures.items ∙ ap (λ (l : List ℕ). l ++ 10 ∷ []) bounds
    ∙ ap (λ (n : ℕ). line_of (codes "event" ∷ c.args.name.now ∷ c.args.clock.now ∷ decimal_of n ∷ bound_words c.args.bounds)) c.get.ensures.value
