use Rattle.std.proofs.Common.{rules}
use Rattle.problem.specs.Line.{HasWhatItNeeds}
use Rattle.problem.proofs.Taking.{message_line_ok, message_line_err, more_in_order}
use Rattle.problem.proofs.lines.message_line.Goals as goal

pub returns-in-Ok-clause-taken : goal.returns-in-Ok-clause-taken
returns-in-Ok-clause-taken c =
    let says = c.in-Some.ensures.some in
    message_line_ok c.args.version c.args.items.now _ _ _ says (c.in-Ok.ensures.taken c.args.version says.least says.most (c.nano_of.ensures says.least says.least_is) (c.most_of.ensures says.most says.most_is))

pub returns-in-Err-clause-taken : goal.returns-in-Err-clause-taken
returns-in-Err-clause-taken c =
    let says = c.in-Some.ensures.some in
    let has : HasWhatItNeeds c.args.version c.args.items.now = search rules in
    message_line_err c.args.version c.args.items.now _ _ _ says c.in-Err.fault has (c.in-Err.ensures.taken c.args.version says.least says.most (c.nano_of.ensures says.least says.least_is) (c.most_of.ensures says.most says.most_is))

pub returns-in-Ok-clause-ordered : goal.returns-in-Ok-clause-ordered
returns-in-Ok-clause-ordered c = λ ordered.
    let has : HasWhatItNeeds c.args.version c.args.items.now = search rules in
    more_in_order c.args.version c.args.items.now _ has c.in-Ok.ensures.follows c.in-Ok.ensures.events ordered
