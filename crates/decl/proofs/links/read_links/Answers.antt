use Rattle.std.proofs.Common.{◌+◌}
use Rattle.toml.specs.Data.{as_table}
use Rattle.toml.specs.View.{view}
use Rattle.decl.proofs.LinkTurns.{link_first, link_few, links_on, links_more}
use Rattle.decl.proofs.links.read_links.Goals as goal

pub returns-in-Err-clause-fault : goal.returns-in-Err-clause-fault
returns-in-Err-clause-fault c =
    let now = c.loop-item in
    link_first _ c.args.hosts.now (now.index + 1) now.book c.args.items.now now.item-index c.item-item.result c.loop-item-test.true now.invariant.walked c.in-Err.cause c.at.result
    (rw c.item-item.is at c.in-Err.ensures) c.at.ensures

pub loop-item-preserved : goal.loop-item-preserved
loop-item-preserved c =
    let now = c.loop-item in
    let read = rw c.item-item.is at c.in-Ok.ensures in
    record {
      walked = links_on _ c.args.hosts.now (now.index + 1) now.book c.args.items.now now.item-index c.item-item.result c.loop-item-test.true now.invariant.walked c.in-Ok.link c.push.new.self read.0 read.1 c.in_ok-push.ensures;
      linked = links_more _ now.book c.push.new.self c.args.hosts.now c.in-Ok.link c.args.items.now now.item-index c.item-item.result c.loop-item-test.true now.invariant.linked read.1 c.in_ok-push.ensures;
      few = link_few c.args.hosts.now (now.index + 1) now.book (as_table (view c.item-item.result)) c.in-Ok.ensures.0;
    }
