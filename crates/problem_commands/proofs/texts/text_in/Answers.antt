use Rattle.problem_commands.proofs.Reading.{text_whole}
use Rattle.problem_commands.proofs.texts.text_in.Goals as goal

pub returns-else-file-clause-ok : goal.returns-else-file-clause-ok
returns-else-file-clause-ok g c = text_whole _ _ c.in-Ok.file.bytes.items c.in-Ok.file.more c.if-file.false c.in-Ok.ensures.read
