use Rattle.std.proofs.Common.{◌∷◌, [], ◌++◌, ◌∙◌, ap, ℕ, List, codes}
use Rattle.line_format.specs.Words.{words}
use Rattle.problem_commands.specs.Verify.{reason_words}
use Rattle.problem_commands.proofs.print.no_line.Goals as goal

pub returns : goal.returns
returns c =
    let word = c.part_word.result.now in
    let part = c.push_word.ensures.appended (codes "no") [] c.first_word-line.ensures in
    let reason = c.push_reason.ensures.appended (codes "no") (word ∷ []) part in
    c.push.ensures.items
    ∙ ap (λ (l : List ℕ). l ++ 10 ∷ []) (reason ∙ ap (λ (w : List ℕ). words (codes "no" ∷ w ∷ reason_words c.args.p.now c.args.reason.now)) c.part_word.ensures.word)
