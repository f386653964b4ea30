use Rattle.std.proofs.Common.{◌∷◌, [], ◌++◌, ◌∙◌, ap, ℕ, List}
use Rattle.std.specs.Prelude.{codes}
use Rattle.problem.specs.Listing.{name_at}
use Rattle.attain.proofs.interval.ends_line.Goals as goal

pub returns : goal.returns
returns g c =
    let first = c.push_event.ensures.appended (codes "ends") [] c.first_word-line.ensures in
    let second = c.push_event-2.ensures.appended (codes "ends") (name_at (g.N.Listing.listed c.args.names.now).event_names c.args.first ∷ []) first in
    c.push.ensures.items ∙ ap (λ (l : List ℕ). l ++ 10 ∷ []) second
