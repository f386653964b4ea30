use Rattle.std.proofs.Common.{◌∷◌, [], ◌++◌, ◌∙◌, ap, ℕ, List, codes}
use Rattle.queries.specs.Words.{end_word}
use Rattle.queries.proofs.lines.ends_line.Goals as goal

pub returns : goal.returns
returns c =
    let first = c.args.first.now in
    let least = c.push_end.ensures.appended first [] c.first_word-line.ensures in
    let greatest = c.push_end-2.ensures.appended first (end_word (codes "-inf") c.args.ends.now.least ∷ []) least in
    c.push.ensures.items ∙ ap (λ (l : List ℕ). l ++ 10 ∷ []) greatest
