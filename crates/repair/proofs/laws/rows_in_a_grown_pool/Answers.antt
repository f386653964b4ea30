use Rattle.repair.proofs.Growing.{own_in_grown, rows_in_grown}
use Rattle.repair.proofs.laws.rows_in_a_grown_pool.Goals as goal

pub returns-clause-own : goal.returns-clause-own
returns-clause-own c = own_in_grown

pub returns-clause-rows : goal.returns-clause-rows
returns-clause-rows c = rows_in_grown
