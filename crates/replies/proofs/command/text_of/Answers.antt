use Rattle.replies.proofs.Asking.{ascii}
use Rattle.replies.proofs.command.text_of.Goals as goal

pub unreachable-requires : goal.unreachable-requires
unreachable-requires c = c.in-Err.ensures.cases.0 (ascii _ c.requires)
