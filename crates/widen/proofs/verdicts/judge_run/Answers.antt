use Rattle.std.proofs.Common.{Some, rules}
use Rattle.std.proofs.lemmas.Int.{to_z-of_z}
use mir.Syntax.{w128}
use mir.Val.{SFits}
use Rattle.problem_model.proofs.OneList.{listed}
use Rattle.cert_check.specs.declared.answer.Part.TheVariants.{Run}
use Rattle.cert_check.specs.declared.answer.Reason.TheVariants.{Broken}
use Rattle.cert_check.specs.Widened.{widened}
use Rattle.cert_check.proofs.Agreeing.{broken_first}
use Rattle.cert_check.proofs.Answering.{run_answer}
use Rattle.cert_check.proofs.Widening.{formed}
use Rattle.widen.proofs.JudgedOnce.{lists_on}
use Rattle.widen.proofs.verdicts.judge_run.Goals as goal

pub returns-in-Obeys-clause-answer : goal.returns-in-Obeys-clause-answer
returns-in-Obeys-clause-answer c =
    let p = c.args.p.now in
    let w = c.args.what in
    let e = c.args.extra in
    let values = c.args.execution.now in
    let times = listed p c.requires.0 values c.requires.1 c.requires.2 in
    (times.0, lists_on w p e times.0 values times.1, rw c.in-Obeys.is at (c.obeys_widened.ensures.verdict times.0 times.1))

pub returns-in-Broken-clause-answer : goal.returns-in-Broken-clause-answer
returns-in-Broken-clause-answer c =
    let p = c.args.p.now in
    let w = c.args.what in
    let e = c.args.extra in
    let values = c.args.execution.now in
    let times = listed p c.requires.0 values c.requires.1 c.requires.2 in
    let weight_fits : SFits w128 c.in-Broken.weight = search rules in
    let difference_fits : SFits w128 c.in-Broken.difference = search rules in
    simp to_z-of_z (run_answer (widened w p e) (formed w p e c.events.ensures.lawful.formed) values (Some (Broken c.in-Broken.bound c.in-Broken.weight c.in-Broken.difference))
    (broken_first (widened w p e) Run values c.in-Broken.bound c.in-Broken.weight c.in-Broken.difference (times.0, lists_on w p e times.0 values times.1, rw c.in-Broken.is at (c.obeys_widened.ensures.verdict times.0 times.1))))
