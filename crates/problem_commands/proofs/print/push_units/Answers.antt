use Rattle.std.proofs.Common.{◌∷◌, [], ◌++◌, ◌∙◌, ap, ℕ, List, append_assoc}
use Rattle.atto.specs.NsText.{ns_text}
use Rattle.line_format.specs.Words.{words}
use Rattle.std.proofs.lemmas.Int.{to_z-of_z}
use mir.Syntax.{w128}
use mir.Val.{SFits}
use Rattle.problem_commands.proofs.print.push_units.Goals as goal

pub returns-clause-appended : goal.returns-clause-appended
returns-clause-appended c = λ first ws is.
    let word = c.args.word.now ∷ [] in
    let begun = c.push_word.ensures.appended first ws is in
    let fits : SFits w128 c.args.units = c.ranges.units in
    let number = simp to_z-of_z at (c.push_ns.ensures.appended first (ws ++ word) begun) in
    number ∙ ap (λ (all : List (List ℕ)). words (first ∷ all)) (append_assoc ws word (ns_text c.args.units ∷ []))
