use Rattle.row_pool.proofs.Pools.{grown_taken, grown_begins}
use Rattle.row_pool.proofs.laws.rows_stay.Goals as goal

pub returns-clause-taken : goal.returns-clause-taken
returns-clause-taken c = grown_taken

pub returns-clause-begins : goal.returns-clause-begins
returns-clause-begins c = grown_begins
