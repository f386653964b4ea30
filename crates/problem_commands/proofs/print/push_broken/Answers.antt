use Rattle.std.proofs.Common.{◌∷◌, [], ◌++◌, ◌∙◌, codes}
use Rattle.std.proofs.lemmas.Int.{to_z-of_z}
use mir.Syntax.{w128}
use mir.Val.{SFits}
use Rattle.atto.specs.NsText.{ns_text}
use Rattle.problem.specs.Listing.{listing_of}
use Rattle.cert.specs.Listed.{listed_bound}
use Rattle.problem_commands.proofs.Words.{broken_are}
use Rattle.problem_commands.proofs.print.push_broken.Goals as goal

pub returns-clause-appended : goal.returns-clause-appended
returns-clause-appended c = λ first ws is.
    let named = listed_bound (listing_of c.args.p.now) c.args.bound.now in
    let word = codes "broken" ∷ [] in
    let weight_fits : SFits w128 c.args.weight = c.ranges.weight in
    let difference_fits : SFits w128 c.args.difference = c.ranges.difference in
    let begun = c.push_word.ensures.appended first ws is in
    let bound = c.push_bound.ensures.appended first (ws ++ word) begun in
    let weight = simp to_z-of_z at (c.push_ns.ensures.appended first ((ws ++ word) ++ named) bound) in
    let difference = simp to_z-of_z at (c.push_ns-2.ensures.appended first (((ws ++ word) ++ named) ++ ns_text c.args.weight ∷ []) weight) in
    difference ∙ broken_are c.args.p.now c.args.bound.now c.args.weight c.args.difference first ws
