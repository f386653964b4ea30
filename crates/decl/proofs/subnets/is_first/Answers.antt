use Rattle.std.proofs.Common.{◌+◌, ◌<◌, rules}
use Rattle.decl.proofs.SubnetTexts.{first_below}
use Rattle.decl.proofs.subnets.is_first.Goals as goal

pub returns-in-None : goal.returns-in-None
returns-in-None c =
    let below : c.args.address < c.args.spread + 1 = search rules in
    first_below c.args.address (c.args.spread + 1) below
