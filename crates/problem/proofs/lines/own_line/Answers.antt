use Rattle.std.proofs.Common.{◌≡◌, [], refl, rules}
use Rattle.problem.specs.declared.version.Version.TheVariants.{Third}
use Rattle.problem.proofs.Taking.{own_line_ok, own_line_err}
use Rattle.problem.proofs.lines.own_line.Goals as goal

pub returns-in-Ok-clause-taken : goal.returns-in-Ok-clause-taken
returns-in-Ok-clause-taken c =
    let says = c.in-Some.ensures.some in
    let made = c.own_of.ensures says.stamp says.early says.late (says.stamp_is, says.early_is, says.late_is) in
    own_line_ok Third c.args.items.now _ _ _ says (c.in-Ok.ensures.taken Third says.stamp says.early says.late made)

pub returns-in-Err-clause-taken : goal.returns-in-Err-clause-taken
returns-in-Err-clause-taken c =
    let says = c.in-Some.ensures.some in
    let made = c.own_of.ensures says.stamp says.early says.late (says.stamp_is, says.early_is, says.late_is) in
    let no_messages : c.args.items.now.messages ≡ [] = search rules in
    own_line_err Third c.args.items.now _ _ _ says c.in-Err.fault (refl, no_messages) (c.in-Err.ensures.taken Third says.stamp says.early says.late made)
