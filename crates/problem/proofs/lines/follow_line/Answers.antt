use Rattle.std.proofs.Common.{rules}
use Rattle.problem.specs.Line.{MayFollow}
use Rattle.problem.proofs.Taking.{follow_in_order, follow_line_ok, follow_line_err}
use Rattle.problem.proofs.lines.follow_line.Goals as goal

pub returns-in-Ok-clause-taken : goal.returns-in-Ok-clause-taken
returns-in-Ok-clause-taken c =
    let says = c.in-Some.ensures.some in
    follow_line_ok c.args.version c.args.items.now _ _ _ says (c.in-Ok.ensures.taken c.args.version says.gap (c.nano_of.ensures says.gap says.gap_is))

pub returns-in-Err-clause-taken : goal.returns-in-Err-clause-taken
returns-in-Err-clause-taken c =
    let says = c.in-Some.ensures.some in
    let may : MayFollow c.args.version c.args.items.now = search rules in
    follow_line_err c.args.version c.args.items.now _ _ _ says c.in-Err.fault may (c.in-Err.ensures.taken c.args.version says.gap (c.nano_of.ensures says.gap says.gap_is))

pub returns-in-Ok-clause-ordered : goal.returns-in-Ok-clause-ordered
returns-in-Ok-clause-ordered c =
    let may : MayFollow c.args.version c.args.items.now = search rules in
    follow_in_order c.args.version c.args.items.now _ may c.in-Ok.ensures.followed c.in-Ok.ensures.alone.0 c.in-Ok.ensures.alone.1
