use Rattle.std.proofs.Common.{sym, ◌∙◌}
use Rattle.decl.proofs.SubnetTexts.{bits_fit, subnet_none, subnet_there}
use Rattle.decl.proofs.subnets.read_subnet.Goals as goal

pub spread_of-spread-requires : goal.spread_of-spread-requires
spread_of-spread-requires c = bits_fit c.args.version c.args.text.now c.in-Some.first c.in-Some.bits c.in-Some.ensures

pub returns-then-not-is_first : goal.returns-then-not-is_first
returns-then-not-is_first c =
    subnet_none c.args.version c.args.beyond c.args.text.now c.in-Some.first c.in-Some.bits c.spread_of-spread.result c.in-Some.ensures c.spread_of-spread.ensures (sym c.if-not-is_first.true ∙ c.is_first.ensures)

pub returns : goal.returns
returns c =
    subnet_there c.args.version c.args.beyond c.args.text.now c.in-Some.first c.in-Some.bits c.spread_of-spread.result c.in-Some.ensures c.spread_of-spread.ensures (sym c.if-not-is_first.false ∙ c.is_first.ensures)
