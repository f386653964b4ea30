use Rattle.std.proofs.Common.{◌∷◌, [], ◌++◌, ◌∙◌, ap, ℕ, List}
use Rattle.std.specs.Prelude.{codes}
use Rattle.widen.proofs.write.never_line.Goals as goal

pub returns : goal.returns
returns c =
    let word = c.push_word.ensures.appended (codes "least") [] c.first_word-line.ensures in
    c.push.ensures.items ∙ ap (λ (l : List ℕ). l ++ 10 ∷ []) (c.push_stated.ensures.appended (codes "least") (codes "none" ∷ []) word)
