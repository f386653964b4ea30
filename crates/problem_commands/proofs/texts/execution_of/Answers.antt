use Rattle.problem_commands.proofs.Reading.{execution_refused, execution_spelled}
use Rattle.problem_commands.proofs.texts.execution_of.Goals as goal

pub returns-in-Ok-clause-ok : goal.returns-in-Ok-clause-ok
returns-in-Ok-clause-ok c = λ x lists. execution_spelled c.args.p.now c.args.text.now c.in-Ok.e x c.in-Ok.ensures lists

pub returns-in-Err-clause-err : goal.returns-in-Err-clause-err
returns-in-Err-clause-err c = rw c.unread_cert.ensures (execution_refused c.args.p.now c.args.text.now c.in-Err.error c.in-Err.ensures c.readings-readings.result.now c.readings-readings.ensures)
