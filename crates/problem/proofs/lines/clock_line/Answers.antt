use Rattle.std.proofs.Common.{◌≡◌, [], rules}
use Rattle.problem.proofs.Taking.{clock_line_ok, clock_line_err}
use Rattle.problem.proofs.lines.clock_line.Goals as goal

pub returns-in-Ok-clause-taken : goal.returns-in-Ok-clause-taken
returns-in-Ok-clause-taken c = λ version.
    let says = c.in-Some.ensures.some in
    let made = c.clock_of.ensures says.short says.long says.early says.late (says.short_is, says.long_is, says.early_is, says.late_is) in
    clock_line_ok version c.args.items.now _ _ _ says (c.in-Ok.ensures.taken version says.short says.long says.early says.late made)

pub returns-in-Err-clause-taken : goal.returns-in-Err-clause-taken
returns-in-Err-clause-taken c = λ version.
    let says = c.in-Some.ensures.some in
    let made = c.clock_of.ensures says.short says.long says.early says.late (says.short_is, says.long_is, says.early_is, says.late_is) in
    let no_follows : c.args.items.now.follows ≡ [] = search rules in
    let no_events : c.args.items.now.events ≡ [] = search rules in
    let no_messages : c.args.items.now.messages ≡ [] = search rules in
    clock_line_err version c.args.items.now _ _ _ says c.in-Err.fault (no_follows, no_events, no_messages) (c.in-Err.ensures.taken version says.short says.long says.early says.late made)
