use Rattle.problem_commands.specs.Texts.{RefusesExecution}
use Rattle.problem_commands.proofs.Reading.{times_in, err_in, unread_execution}
use Rattle.problem_commands.proofs.texts.execution_in.Goals as goal

pub returns-in-Ok-clause-ok : goal.returns-in-Ok-clause-ok
returns-in-Ok-clause-ok g c = times_in _ _ c.in-Ok.text.items c.args.p.now c.execution_of.result c.in-Ok.ensures.ok (rw c.deref.ensures.value at c.execution_of.ensures.ok)

pub returns-in-Ok-clause-err : goal.returns-in-Ok-clause-err
returns-in-Ok-clause-err g c = err_in (RefusesExecution c.args.p.now) c.args.path.now c.in-Ok.text.items _ _ c.execution_of.result c.in-Ok.ensures.ok (rw c.deref.ensures.value at c.execution_of.ensures.err)

pub returns-in-Err-clause-err : goal.returns-in-Err-clause-err
returns-in-Err-clause-err g c = unread_execution c.args.p.now c.readings-readings.result.now c.args.path.now _ _ c.in-Err.unread c.readings-readings.ensures c.in-Err.ensures.err
