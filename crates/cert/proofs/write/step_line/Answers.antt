use Rattle.std.proofs.Common.{◌∷◌, [], ◌++◌, ◌∙◌, ap, ℕ, List}
use Rattle.std.specs.Prelude.{codes}
use Rattle.std.proofs.lemmas.Int.{to_z-of_z}
use mir.Syntax.{w128}
use mir.Val.{SFits}
use Rattle.cert.specs.Listed.{listed_bound}
use Rattle.cert.proofs.write.step_line.Goals as goal

pub returns : goal.returns
returns g c =
    let names = g.N.Listing.listed c.args.names.now in
    let fits : SFits w128 c.args.weight = c.ranges.weight in
    let bound = c.push_bound.ensures.appended (codes "step") [] c.first_word-line.ensures in
    let weight = simp to_z-of_z at (c.push_ns.ensures.appended (codes "step") (listed_bound names c.args.bound.now) bound) in
    c.push.ensures.items ∙ ap (λ (l : List ℕ). l ++ 10 ∷ []) weight
