use Rattle.problem_commands.specs.Texts.{SpellsProblem, RefusesProblem}
use Rattle.problem_commands.proofs.Reading.{ok_in, err_in}
use Rattle.problem_commands.proofs.texts.problem_in.Goals as goal

pub returns-in-Ok-clause-ok : goal.returns-in-Ok-clause-ok
returns-in-Ok-clause-ok g c = ok_in _ _ c.in-Ok.text.items SpellsProblem c.problem_of.result c.in-Ok.ensures.ok (rw c.deref.ensures.value at c.problem_of.ensures.ok)

pub returns-in-Ok-clause-err : goal.returns-in-Ok-clause-err
returns-in-Ok-clause-err g c = err_in RefusesProblem c.args.path.now c.in-Ok.text.items _ _ c.problem_of.result c.in-Ok.ensures.ok (rw c.deref.ensures.value at c.problem_of.ensures.err)
