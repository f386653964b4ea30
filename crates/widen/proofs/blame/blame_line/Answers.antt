use Rattle.std.proofs.Common.{◌++◌, ◌∷◌, [], ◌∙◌, ap, ℕ, List}
use Rattle.std.specs.Prelude.{codes}
use Rattle.widen.specs.Named.{what_words}
use Rattle.widen.proofs.blame.blame_line.Goals as goal

pub returns : goal.returns
returns c =
    let named = c.push_what.ensures.appended (codes "blame") [] c.first_word-line.ensures in
    c.push.ensures.items ∙ ap (λ (l : List ℕ). l ++ 10 ∷ []) (c.push_healing.ensures.appended (codes "blame") (what_words c.args.p.now c.args.what) named)
