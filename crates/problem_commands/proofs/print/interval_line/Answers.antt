use Rattle.std.proofs.Common.{◌∷◌, [], ◌++◌, ◌∙◌, ap, ℕ, List, codes}
use Rattle.queries.specs.Words.{end_word}
use Rattle.problem_commands.proofs.print.interval_line.Goals as goal

pub returns : goal.returns
returns c =
    let least = end_word (codes "-inf") c.args.ends.now.least in
    let greatest = c.push_greatest.ensures.appended least [] c.least_word-line.ensures.word in
    let order = c.push_order.ensures.appended least (end_word (codes "+inf") c.args.ends.now.greatest ∷ []) greatest in
    c.push.ensures.items ∙ ap (λ (l : List ℕ). l ++ 10 ∷ []) order
