use Rattle.std.proofs.Common.{sym}
use Rattle.replies.proofs.Spacing.{spaced_cut, spaced_whole}
use Rattle.replies.proofs.names.first_word.Goals as goal

pub returns-in-Some : goal.returns-in-Some
returns-in-Some c = spaced_cut c.args.text.now c.in-Some.first.now c.in-Some.more.now (sym c.in-Some.ensures)

pub returns-in-None : goal.returns-in-None
returns-in-None c = spaced_whole c.args.text.now (sym c.in-None.ensures)
