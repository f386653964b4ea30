use Rattle.std.proofs.Common.{◌∷◌, [], ◌++◌, ◌∙◌, ap, ℕ, List}
use Rattle.ports.proofs.fixed_line.unlimited_line.Goals as goal

pub returns : goal.returns
returns c = c.push.ensures.items ∙ ap (λ (l : List ℕ). l ++ 10 ∷ []) (c.push_word.ensures.appended c.args.part.now [] c.first_word-line.ensures)
