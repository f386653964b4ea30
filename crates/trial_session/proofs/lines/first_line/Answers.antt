use Rattle.std.proofs.Common.{sym}
use Rattle.line_format.proofs.Cutting.{cut_shorter}
use Rattle.trial_session.proofs.Cutting.{cut_first, last_first}
use Rattle.trial_session.proofs.lines.first_line.Goals as goal

pub returns-in-Some-clause-first : goal.returns-in-Some-clause-first
returns-in-Some-clause-first c = cut_first c.args.bytes.now c.in-Some.line.now c.in-Some.rest.now (sym c.in-Some.ensures)

pub returns-in-Some-clause-shorter : goal.returns-in-Some-clause-shorter
returns-in-Some-clause-shorter c = cut_shorter 10 c.args.bytes.now c.in-Some.line.now c.in-Some.rest.now (sym c.in-Some.ensures)

pub returns-in-None-clause-first : goal.returns-in-None-clause-first
returns-in-None-clause-first c = last_first c.args.bytes.now (sym c.in-None.ensures) c.requires
