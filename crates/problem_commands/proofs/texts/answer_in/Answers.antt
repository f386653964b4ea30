use Rattle.cert_check.specs.CheckedText.{IsCheckOf}
use Rattle.problem_commands.specs.Texts.{SpellsCert, RefusesCert}
use Rattle.problem_commands.proofs.Reading.{cert_in, err_in, unread_certificate}
use Rattle.problem_commands.proofs.texts.answer_in.Goals as goal

pub returns-in-Ok-clause-ok : goal.returns-in-Ok-clause-ok
returns-in-Ok-clause-ok g c =
    cert_in _ _ c.in-Ok.text.items (SpellsCert c.args.p.now) (IsCheckOf c.args.p.now) c.answer_of.result c.in-Ok.ensures.ok (rw c.deref.ensures.value at c.answer_of.ensures.ok)

pub returns-in-Ok-clause-err : goal.returns-in-Ok-clause-err
returns-in-Ok-clause-err g c = err_in (RefusesCert c.args.p.now) c.args.path.now c.in-Ok.text.items _ _ c.answer_of.result c.in-Ok.ensures.ok (rw c.deref.ensures.value at c.answer_of.ensures.err)

pub returns-in-Err-clause-err : goal.returns-in-Err-clause-err
returns-in-Err-clause-err g c = unread_certificate c.args.p.now c.readings-readings.result.now c.args.path.now _ _ c.in-Err.unread c.readings-readings.ensures c.in-Err.ensures.err
