use Rattle.toml.specs.View.{table_view}
use Rattle.decl.proofs.LinkTurns.{link_sound, least_wild, most_wild}
use Rattle.decl.proofs.links.read_link.Goals as goal

pub returns : goal.returns
returns c =
    link_sound c.args.hosts.now c.args.index c.args.book.now (table_view c.args.table.now) c.in-Some.from c.in-Some.to c.in_ok-check_table.ensures.0 c.in-Some.ensures
    c.in-Some-nano_at.least c.in-Some-optional_nano.most c.if-index-gt-MOST_ENTRIES.false c.in-Some-nano_at.ensures c.in-Some-optional_nano.ensures

pub returns-in_default-nano_at : goal.returns-in_default-nano_at
returns-in_default-nano_at c =
    least_wild c.args.hosts.now c.args.index c.args.book.now (table_view c.args.table.now) c.in-Some.from c.in-Some.to c.in_ok-check_table.ensures.0 c.in-Some.ensures c.in_default-nano_at.ensures

pub returns-in_default-optional_nano : goal.returns-in_default-optional_nano
returns-in_default-optional_nano c =
    most_wild c.args.hosts.now c.args.index c.args.book.now (table_view c.args.table.now) c.in-Some.from c.in-Some.to c.in_ok-check_table.ensures.0 c.in-Some.ensures c.in_default-optional_nano.ensures
