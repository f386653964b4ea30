use Rattle.row_pool.specs.Row.{cells_of}
use Rattle.attain.proofs.RowFacts.{lists_graph}
use Rattle.attain.proofs.TightTexts.{tight_text}
use Rattle.attain.proofs.ends.write_ends.Goals as goal

pub write_interval-requires-clause-listed : goal.write_interval-requires-clause-listed
write_interval-requires-clause-listed g c = lists_graph (g.N.Listing.listed c.args.names.now) c.requires.stands.0 c.requires.stands.1 c.args.rows.now.graph c.requires.stands.2

pub returns : goal.returns
returns g c =
    let l = g.N.Listing.listed c.args.names.now in
    let r = c.args.rows.now in
    let are = c.exact.ensures in
    let written = c.write_interval.ensures in (
      written.0,
      (λ problem readings first second stands at at'. tight_text l problem readings r.graph r.values r.node c.args.q (cells_of r.from) (cells_of r.to) stands are.graph
          are.earliest are.at_node.from_node are.at_node.to_node first second at at' written.0 written.1),
      written.2,
    )
