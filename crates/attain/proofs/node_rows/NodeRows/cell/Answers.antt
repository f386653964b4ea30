use Rattle.std.proofs.Common.{◌<◌, ◌∙◌, List, length, ap, sym, subst, arith}
use Rattle.row_pool.specs.declared.cell.Cell.{Cell}
use Rattle.row_pool.specs.Row.{cell_at}
use Rattle.attain.proofs.Leads.{cell_read}
use Rattle.attain.proofs.RowFacts.{row_long}
use Rattle.attain.proofs.node_rows.NodeRows.cell.Goals as goal

pub bounds-row-node : goal.bounds-row-node
bounds-row-node c =
    let r = c.args.self.now in
    let long = row_long c.args.side r c.exact.ensures in
    subst (λ (row : List Cell). c.args.node < length row) (sym c.row-row.ensures) (omega (arith, c.requires, long))

pub returns : goal.returns
returns c =
    let r = c.args.self.now in
    let long = row_long c.args.side r c.exact.ensures in
    let within : c.args.node < length c.row-row.result.now = subst (λ (row : List Cell). c.args.node < length row) (sym c.row-row.ensures) (omega (arith, c.requires, long)) in
    cell_read c.row-row.result.now c.args.node within ∙ ap (λ (row : List Cell). cell_at row c.args.node) c.row-row.ensures
