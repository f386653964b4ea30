use Rattle.widen.specs.declared.widening.StatedWidening.{StatedWidening}
use Rattle.widen.specs.JudgedText.{IsJudgedAs}
use Rattle.problem_commands.specs.Widening.{SpellsWidening, RefusesWidening}
use Rattle.problem_commands.proofs.Reading.{err_in}
use Rattle.problem_commands.proofs.Widenings.{widening_in, unread_widening}
use Rattle.problem_commands.proofs.judge.judged_in.Goals as goal

pub returns-in-Ok-clause-ok : goal.returns-in-Ok-clause-ok
returns-in-Ok-clause-ok g c =
    widening_in _ _ c.in-Ok.text.items (λ (s : StatedWidening). SpellsWidening c.args.p.now s.what s.widening) (λ (s : StatedWidening). IsJudgedAs s.what c.args.p.now s.widening) c.judged_of.result c.in-Ok.ensures.ok (rw c.deref.ensures.value at c.judged_of.ensures.ok)

pub returns-in-Ok-clause-err : goal.returns-in-Ok-clause-err
returns-in-Ok-clause-err g c = err_in (RefusesWidening c.args.p.now) c.args.path.now c.in-Ok.text.items _ _ c.judged_of.result c.in-Ok.ensures.ok (rw c.deref.ensures.value at c.judged_of.ensures.err)

pub returns-in-Err-clause-err : goal.returns-in-Err-clause-err
returns-in-Err-clause-err g c = unread_widening c.args.p.now c.readings-readings.result.now c.args.path.now _ _ c.in-Err.unread c.readings-readings.ensures c.in-Err.ensures.err
