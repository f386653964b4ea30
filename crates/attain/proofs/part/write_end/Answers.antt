use Rattle.std.proofs.Common.{◌≡◌, ◌∙◌, false, refl, sym}
use Rattle.problem_model.specs.Executions.{at}
use Rattle.attain.specs.Written.{NoLimit, written_end}
use Rattle.attain.specs.RowLists.{cells_for}
use Rattle.attain.specs.Sides.{part, unlimited}
use Rattle.attain.proofs.Parts.{no_limit_is}
use Rattle.attain.proofs.part.write_end.Goals as goal

pub returns-else-is_known : goal.returns-else-is_known
returns-else-is_known g c =
    let l = g.N.Listing.listed c.args.names.now in
    let r = c.args.rows.now in
    let side = c.args.side in
    let unknown : (cells_for side r).known c.args.q ≡ false = sym c.is_known.ensures ∙ c.if-is_known.false in
    let cut = c.write_no_limit.ensures in
    let end = NoLimit cut.0 (at r.values) in
    (written_end l (part side) (unlimited side) end, (end, no_limit_is l r.graph r.values (cells_for side r) r.node c.args.q side cut.0 unknown cut.1, refl), cut.2)
