use Rattle.std.proofs.Common.{◌≡◌, length, ◌∙◌, rules}
use Rattle.toml.specs.View.{table_view}
use Rattle.decl.specs.Inside.{hosts_and_clocks}
use Rattle.decl.specs.Subnets.{subnets_in}
use Rattle.decl.proofs.LabelTurns.{cause_said, label_made, places_fit, said_few, subnets_counted}
use Rattle.decl.proofs.labels.read_label.Goals as goal

pub returns-in-Err-clause-fault : goal.returns-in-Err-clause-fault
returns-in-Err-clause-fault c =
    cause_said (hosts_and_clocks c.args.hosts.now) c.args.index c.args.name.now (table_view c.args.table.now) c.in-Err.cause c.at.result c.in-Err.ensures.err c.at.ensures

pub overflow_cast-result : goal.overflow_cast-result
overflow_cast-result c =
    let (few, small) = said_few (hosts_and_clocks c.args.hosts.now) c.args.index c.args.name.now (table_view c.args.table.now) c.in-Ok.ensures.ok.2 in
    let added = c.in_ok-cause.ensures.added c.in_default.is in
    let len : c.len.result ≡ length c.read_subnets.new.subnets.items = search rules in
    places_fit c.args.index (length c.args.subnets.now.items) (length (subnets_in (table_view c.args.table.now))) c.len.result c.requires.room few small (len ∙ subnets_counted _ _ _ added)

pub returns-clause-label : goal.returns-clause-label
returns-clause-label c =
    let own = c.in-Ok.ensures.ok in
    let added = c.in_ok-cause.ensures.added c.in_default.is in
    let len : c.len.result ≡ length c.read_subnets.new.subnets.items = search rules in
    let first : c.len-first_subnet.result ≡ length c.args.subnets.now.items = search rules in
    label_made (hosts_and_clocks c.args.hosts.now) c.args.name.now (table_view c.args.table.now) c.in-Ok.own.0 c.in-Ok.own.1 c.args.subnets.now.items c.read_subnets.new.subnets.items c.len-first_subnet.result c.len.result
    own.0 own.1 added first len
