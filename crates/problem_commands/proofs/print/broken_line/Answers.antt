use Rattle.std.proofs.Common.{◌∷◌, [], ◌++◌, ◌∙◌, ap, ℕ, List, codes}
use Rattle.std.proofs.lemmas.Int.{to_z-of_z}
use mir.Syntax.{w128}
use mir.Val.{SFits}
use Rattle.atto.specs.NsText.{ns_text}
use Rattle.problem.specs.Listing.{listing_of}
use Rattle.cert.specs.Listed.{listed_bound}
use Rattle.problem_commands.proofs.Words.{broken_line_is}
use Rattle.problem_commands.proofs.print.broken_line.Goals as goal

pub returns : goal.returns
returns c =
    let named = listed_bound (listing_of c.args.p.now) c.args.bound.now in
    let weight_fits : SFits w128 c.args.weight = c.ranges.weight in
    let difference_fits : SFits w128 c.args.difference = c.ranges.difference in
    let bound = c.push_bound.ensures.appended (codes "broken") [] c.first_word-line.ensures in
    let weight = simp to_z-of_z at (c.push_ns.ensures.appended (codes "broken") named bound) in
    let difference = simp to_z-of_z at (c.push_ns-2.ensures.appended (codes "broken") (named ++ ns_text c.args.weight ∷ []) weight) in
    c.push.ensures.items ∙ ap (λ (l : List ℕ). l ++ 10 ∷ []) (difference ∙ broken_line_is c.args.p.now c.args.bound.now c.args.weight c.args.difference)
