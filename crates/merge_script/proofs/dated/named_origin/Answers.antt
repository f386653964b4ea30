use Rattle.merge_script.proofs.dated.named_origin.Goals as goal

pub returns-in-Some-clause-ok : goal.returns-in-Some-clause-ok
returns-in-Some-clause-ok c =
    let told = c.in-Some.ensures.some in
    let at = told.0 in
    (at.0, (at.1, told.1), at.1, (at.0, at.2))

pub returns-in-None-clause-err : goal.returns-in-None-clause-err
returns-in-None-clause-err c = λ all. (c.requires.consistent, (c.in-None.ensures.none, c.refused_text.ensures))
