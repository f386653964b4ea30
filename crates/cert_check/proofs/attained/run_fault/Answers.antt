use Rattle.std.proofs.Common.{rules}
use Rattle.std.proofs.lemmas.Int.{to_z-of_z}
use mir.Syntax.{w128}
use mir.Val.{SFits}
use Rattle.problem_model.proofs.OneList.{listed}
use Rattle.cert_check.proofs.Agreeing.{broken_first}
use Rattle.cert_check.proofs.attained.run_fault.Goals as goal

pub returns-in-Obeys-clause-found : goal.returns-in-Obeys-clause-found
returns-in-Obeys-clause-found c = λ part.
    let times = listed c.args.p.now c.requires.0 c.args.execution.now c.requires.1 c.requires.2 in
    (times.0, times.1, rw c.in-Obeys.is at (c.obeys.ensures.verdict times.0 times.1))

pub returns-in-Broken-clause-found : goal.returns-in-Broken-clause-found
returns-in-Broken-clause-found c = λ part.
    let times = listed c.args.p.now c.requires.0 c.args.execution.now c.requires.1 c.requires.2 in
    let weight_fits : SFits w128 c.in-Broken.weight = search rules in
    let difference_fits : SFits w128 c.in-Broken.difference = search rules in
    simp to_z-of_z (broken_first c.args.p.now part c.args.execution.now c.in-Broken.bound c.in-Broken.weight c.in-Broken.difference (times.0, times.1, rw c.in-Broken.is at (c.obeys.ensures.verdict times.0 times.1)))
