use Rattle.std.proofs.Common.{◌∙◌}
use Rattle.report.proofs.Noted.{found_is}
use Rattle.report.proofs.alone.is_among.Goals as goal

pub returns : goal.returns
returns c = c.is_some.ensures ∙ found_is c.args.message c.args.messages.now c.place.result c.place.ensures.place
