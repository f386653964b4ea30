use Rattle.std.proofs.Common.{ap, subst, ◌∙◌}
use Rattle.problem_model.specs.Parents.{IsRow}
use Rattle.row_pool.specs.Row.{cells_of}
use Rattle.distances.specs.Facing.{opposite}
use Rattle.distances.specs.Searched.{Searched, nodes, table}
use Rattle.graph_tests.proofs.distance_rows.near_are_right.Goals as goal

abbrev turned : Searched → Searched
turned s = record { graph = s.graph; values = s.values; side = opposite s.side }

pub near_is-requires-clause-rows : goal.near_is-requires-clause-rows
near_is-requires-clause-rows g c = (
  0,
  subst (λ (s : Searched). IsRow (nodes s) (table s) 0 (cells_of c.make_row.new.row)) c.new-search.ensures c.make_row.ensures.row,
  subst (λ (s : Searched). IsRow (nodes s) (table s) 0 (cells_of c.make_row-2.new.row)) (c.turned-back.ensures ∙ ap turned c.new-search.ensures) c.make_row-2.ensures.row,
)
