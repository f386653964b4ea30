use Rattle.std.proofs.Common.{◌∷◌, [], ◌∙◌, sym, append_assoc}
use Rattle.problem.specs.Line.{head_with}
use Rattle.line_format.specs.Words.{words}
use Rattle.line_format.proofs.Cutting.{cut_word}
use Rattle.problem.proofs.read.after_head.Goals as goal

pub returns-in-Some-version_of-clause-some : goal.returns-in-Some-version_of-clause-some
returns-in-Some-version_of-clause-some c =
    let head = words (head_with c.in-Some-version_of.version) in
    cut_word 10 _ _ _ head (sym c.in-Some.ensures) c.in-Some-version_of.ensures.some ∙ sym (append_assoc head (10 ∷ []) _)
