use Rattle.std.proofs.Common.{◌∙◌, ◌+◌}
use Rattle.decl.proofs.SubnetTexts.{drop_whole, prefix_slashed, prefix_whole}
use Rattle.decl.proofs.subnets.prefix_in.Goals as goal

pub returns-in-Some : goal.returns-in-Some
returns-in-Some c =
    let read = rw (drop_whole (c.in-Some.slash + 1) c.args.text.now) at c.prefix_by.ensures in
    read ∙ prefix_slashed c.args.version c.args.text.now c.in-Some.slash c.in-Some.ensures

pub returns-in-None : goal.returns-in-None
returns-in-None c = c.whole_prefix.ensures ∙ prefix_whole c.args.version c.args.text.now c.in-None.ensures
