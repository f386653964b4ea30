use Rattle.decl.specs.Declaration.{declaration_of}
use Rattle.session.proofs.script.answer_script.Goals as goal

pub returns-in-Ok-clause-ended : goal.returns-in-Ok-clause-ended
returns-in-Ok-clause-ended g c = c.answer_lines.ensures.ended (declaration_of c.args.decl) c.in-Ok.ensures.stands
