use Rattle.merge_script.proofs.arrangement.merge_script.Goals as goal

pub returns-in-Ok-clause-ok : goal.returns-in-Ok-clause-ok
returns-in-Ok-clause-ok g c = rw c.in-Ok.ensures.stands.declaration at c.merge_lines.ensures.ok

pub returns-in-Ok-clause-err : goal.returns-in-Ok-clause-err
returns-in-Ok-clause-err g c = rw c.in-Ok.ensures.stands.declaration at c.merge_lines.ensures.err

pub returns-in-Ok-clause-noted : goal.returns-in-Ok-clause-noted
returns-in-Ok-clause-noted g c = rw c.in-Ok.ensures.stands.declaration at c.merge_lines.ensures.noted
