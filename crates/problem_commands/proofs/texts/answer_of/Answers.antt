use Rattle.problem_commands.proofs.Reading.{certificate_refused, certificate_spelled}
use Rattle.problem_commands.proofs.texts.answer_of.Goals as goal

pub returns-in-Ok-clause-ok : goal.returns-in-Ok-clause-ok
returns-in-Ok-clause-ok c =
    let found = c.in-Ok.ensures in
    (found.0, certificate_spelled c.args.p.now c.args.text.now found.0 c.readings-readings.result.now c.readings-readings.ensures found.1, found.2)

pub returns-in-Err-clause-err : goal.returns-in-Err-clause-err
returns-in-Err-clause-err c = rw c.unread_cert.ensures (certificate_refused c.args.p.now c.args.text.now c.in-Err.error c.in-Err.ensures c.readings-readings.result.now c.readings-readings.ensures)
