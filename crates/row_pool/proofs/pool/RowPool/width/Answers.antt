use Rattle.std.proofs.Common.{subst}
use Rattle.row_pool.specs.Pool.{IsPool}
use Rattle.row_pool.proofs.Regions.{is_pool}
use Rattle.row_pool.proofs.pool.RowPool.width.Goals as goal

pub returns-clause-lawful : goal.returns-clause-lawful
returns-clause-lawful c = subst IsPool c.self.view_is (is_pool _ _ _ c.self.invariant)
