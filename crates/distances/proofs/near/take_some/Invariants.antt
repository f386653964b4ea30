use Rattle.std.proofs.Common.{◌≡◌, ◌+◌, ◌-◌, ◌^◌, length}
use Rattle.problem_model.specs.RowPops.{IsUnderWay}
use Rattle.problem_model.specs.Sums.{done_sum}
use Rattle.problem_model.specs.Limits.{path_bits}
use Rattle.row_pool.specs.Row.{cells_of}
use Rattle.distances.specs.Searched.{nodes, table, height, IsOpenRow}
use Rattle.distances.specs.Relaxed.{waits_of}
use Rattle.distances.specs.Wiping.{AreListed}
use Rattle.distances.proofs.near.take_some.Given as goal

abbrev pub invariant-loop-node : goal.invariant-loop-node
invariant-loop-node g l = record {
  under_way : IsUnderWay (nodes l.search) (table l.search) l.p (height l.search) (2 ^ (path_bits + 2)) (2 ^ 93) (cells_of l.fn.row) (cells_of l.row) (waits_of l.front);
  state : IsOpenRow l.search l.row l.front;
  cells : length l.row ≡ length l.fn.row;
  room : length l.front ≡ length l.fn.front;
  listed : AreListed (nodes l.search) l.row l.front l.seen.items;
}

abbrev pub decreases-loop-node : goal.decreases-loop-node
decreases-loop-node g l = nodes l.search - done_sum (nodes l.search) (λ _. 1) (cells_of l.fn.row) (cells_of l.row) (waits_of l.front)
