use Rattle.std.proofs.Common.{◌∷◌, [], ◌++◌, ◌∙◌, codes}
use Rattle.problem_commands.proofs.Words.{leaving_are}
use Rattle.problem_commands.proofs.print.push_leaving.Goals as goal

pub returns-clause-appended : goal.returns-clause-appended
returns-clause-appended c = λ first ws is.
    let begun = c.push_word.ensures.appended first ws is in
    c.push_bound.ensures.appended first (ws ++ codes "leaves" ∷ []) begun ∙ leaving_are c.args.p.now c.args.bound.now first ws
