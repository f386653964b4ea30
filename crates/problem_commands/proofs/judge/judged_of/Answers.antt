use Rattle.problem_commands.proofs.Widenings.{widening_refused, widening_spelled}
use Rattle.problem_commands.proofs.judge.judged_of.Goals as goal

pub returns-in-Ok-clause-ok : goal.returns-in-Ok-clause-ok
returns-in-Ok-clause-ok c =
    let found = c.in-Ok.ensures in
    (found.0, widening_spelled c.args.p.now c.args.text.now found.0 c.readings-readings.result.now c.readings-readings.ensures found.1, found.2)

pub returns-in-Err-clause-err : goal.returns-in-Err-clause-err
returns-in-Err-clause-err c = rw c.unread_cert.ensures (widening_refused c.args.p.now c.args.text.now c.in-Err.error c.in-Err.ensures c.readings-readings.result.now c.readings-readings.ensures)
