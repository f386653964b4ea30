use Rattle.std.proofs.Common.{◌∷◌, [], ◌++◌, ◌∙◌, ap, ℕ, List}
use Rattle.std.specs.Prelude.{codes}
use Rattle.atto.specs.Decimal.{decimal_of}
use Rattle.line_format.specs.Words.{line_of}
use Rattle.problem_model.specs.ProblemText.{most_word}
use Rattle.problem_text.proofs.words.message_line.Goals as goal

pub returns : goal.returns
returns c =
    let first = codes "message" in
    let send = c.push_name.ensures.appended first [] c.first_word-line.ensures in
    let receive = c.push_name-2.ensures.appended first (c.args.send.now ∷ []) send in
    let least = c.push_decimal.ensures.appended first (c.args.send.now ∷ c.args.receive.now ∷ []) receive in
    let most = c.push_most.ensures.appended first (c.args.send.now ∷ c.args.receive.now ∷ decimal_of c.get.result ∷ []) least in
    c.push.ensures.items ∙ ap (λ (l : List ℕ). l ++ 10 ∷ []) most
    ∙ ap (λ (n : ℕ). line_of (first ∷ c.args.send.now ∷ c.args.receive.now ∷ decimal_of n ∷ most_word c.args.most ∷ [])) c.get.ensures.value
