use Rattle.replies.proofs.OneCommand.{command_one}
use Rattle.replies.proofs.laws.commands_are_one.Goals as goal

pub returns : goal.returns
returns c = command_one
