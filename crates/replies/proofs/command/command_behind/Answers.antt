use Rattle.std.proofs.Common.{sym}
use Rattle.replies.proofs.Asking.{has_more, has_one}
use Rattle.replies.proofs.command.command_behind.Goals as goal

pub returns-in-Some : goal.returns-in-Some
returns-in-Some c = has_more c.args.name.now c.args.text.now c.in-Some.first.now c.in-Some.second.now _ c.requires (sym c.in-Some.ensures) c.command_of.ensures

pub returns-in-None : goal.returns-in-None
returns-in-None c = has_one c.args.name.now c.args.text.now _ (sym c.in-None.ensures) c.command_of_two.ensures
