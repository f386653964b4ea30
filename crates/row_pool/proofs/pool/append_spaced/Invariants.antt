use Rattle.std.proofs.Common.{◌≡◌, ◌-◌, ◌*◌, ◌++◌, length}
use Rattle.row_pool.specs.Region.{spaced}
use Rattle.row_pool.proofs.pool.append_spaced.Given as goal

abbrev pub invariant-loop-row : goal.invariant-loop-row
invariant-loop-row l = record {
  built : l.out.items ++ spaced l.width l.more (l.rows - l._row) l.rest ≡ spaced l.width l.more l.rows l.cells;
  whole : length l.rest ≡ (l.rows - l._row) * l.width;
}
