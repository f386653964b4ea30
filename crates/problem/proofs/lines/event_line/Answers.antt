use Rattle.std.proofs.Common.{◌≡◌, [], rules}
use Rattle.problem.specs.Line.{HasWhatItNeeds}
use Rattle.problem.proofs.Taking.{event_line_ok, event_line_err, event_in_order}
use Rattle.problem.proofs.lines.event_line.Goals as goal

pub returns-in-Ok-clause-taken : goal.returns-in-Ok-clause-taken
returns-in-Ok-clause-taken c =
    let says = c.in-Some.ensures.some in
    event_line_ok c.args.version c.args.items.now _ _ _ says (c.in-Ok.ensures.taken c.args.version says.stamp (c.nano_of.ensures says.stamp says.stamp_is))

pub returns-in-Err-clause-taken : goal.returns-in-Err-clause-taken
returns-in-Err-clause-taken c =
    let says = c.in-Some.ensures.some in
    let has : HasWhatItNeeds c.args.version c.args.items.now = search rules in
    let no_messages : c.args.items.now.messages ≡ [] = search rules in
    event_line_err c.args.version c.args.items.now _ _ _ says c.in-Err.fault (c.requires.plain, has, no_messages) (c.in-Err.ensures.taken c.args.version says.stamp (c.nano_of.ensures says.stamp says.stamp_is))

pub returns-in-Ok-clause-ordered : goal.returns-in-Ok-clause-ordered
returns-in-Ok-clause-ordered c =
    let has : HasWhatItNeeds c.args.version c.args.items.now = search rules in
    event_in_order c.args.version c.args.items.now _ c.requires.plain has c.in-Ok.ensures.follows c.in-Ok.ensures.bounds c.requires.ordered
