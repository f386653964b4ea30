use Rattle.std.proofs.Common.{sym, subst}
use Rattle.problem_model.specs.Parents.{IsRow}
use Rattle.problem_model.specs.Tables.{without}
use Rattle.row_pool.specs.Row.{cells_of}
use Rattle.distances.specs.Searched.{Searched, nodes, table}
use Rattle.distances.proofs.Pushed.{row_from_pushed}
use Rattle.graph_tests.proofs.distance_rows.is_repaired.Goals as goal

pub repair_row-requires-clause-before : goal.repair_row-requires-clause-before
repair_row-requires-clause-before g c =
    subst (λ (s : Searched). IsRow (nodes s) (without (table s) c.in-Some-bring_in.arc) c.in-Some.p (cells_of c.make_row.new.row)) (sym c.new-search.ensures)
    (row_from_pushed c.args.g.now c.bring_in.new.g c.in-Some-bring_in.ensures.pushed.0 c.in-Some-bring_in.arc c.in-Some.p (cells_of c.make_row.new.row)
    c.exact.ensures.flags c.in-Some-bring_in.ensures.pushed.1 c.in-Some-bring_in.ensures.number
    (subst (λ (s : Searched). IsRow (nodes s) (table s) c.in-Some.p (cells_of c.make_row.new.row)) c.new-before.ensures c.make_row.ensures.row))
