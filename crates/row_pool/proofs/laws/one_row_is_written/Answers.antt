use Rattle.row_pool.proofs.Pools.{written_row, own_cells, other_cells}
use Rattle.row_pool.proofs.laws.one_row_is_written.Goals as goal

pub returns-clause-row : goal.returns-clause-row
returns-clause-row c = written_row

pub returns-clause-own : goal.returns-clause-own
returns-clause-own c = own_cells

pub returns-clause-others : goal.returns-clause-others
returns-clause-others c = other_cells
