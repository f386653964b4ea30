use Rattle.std.proofs.Common.{◌≡◌, ◌<◌, ℕ, true, length, All}
use Rattle.std.specs.Prelude.{Contains}
use Rattle.row_pool.specs.Row.{cell_at}
use Rattle.distances.proofs.scratch.wipe_seen.Given as goal

abbrev pub invariant-loop-node : goal.invariant-loop-node
invariant-loop-node l = record {
  cells : length l.row ≡ length l.fn.row;
  within : All (λ k. k < length l.fn.row) l.seen.items;
  listed : (k : ℕ) → (cell_at l.row k).known ≡ true → Contains l.seen.items k;
}

abbrev pub decreases-loop-node : goal.decreases-loop-node
decreases-loop-node l = length l.seen.items
