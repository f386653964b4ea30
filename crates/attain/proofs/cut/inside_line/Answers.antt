use Rattle.std.proofs.Common.{◌∷◌, [], ◌++◌, ◌∙◌, ap, ℕ, List}
use Rattle.std.specs.Prelude.{codes}
use Rattle.attain.proofs.cut.inside_line.Goals as goal

pub returns : goal.returns
returns g c = c.push.ensures.items ∙ ap (λ (l : List ℕ). l ++ 10 ∷ []) (c.push_clock.ensures.appended (codes "inside") [] c.first_word-line.ensures)
