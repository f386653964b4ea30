use Rattle.std.proofs.Common.{◌≡◌, ◌<◌, ℕ, true, length}
use Rattle.row_pool.specs.Row.{cell_at}
use Rattle.distances.specs.Relaxed.{waits_of}
use Rattle.distances.specs.Wiping.{rests}
use Rattle.distances.proofs.Resting.{waiting_count}
use Rattle.distances.proofs.scratch.wipe_waiting.Given as goal

abbrev pub invariant-loop-node : goal.invariant-loop-node
invariant-loop-node g l = record {
  cells : length l.row ≡ length l.fn.row;
  room : length l.front ≡ length l.fn.front;
  within : (k : ℕ) → waits_of l.front k ≡ true → k < length l.fn.row;
  known : (k : ℕ) → rests l.row l.front k ≡ rests l.fn.row l.fn.front k;
  same : (k : ℕ) → rests l.row l.front k ≡ true → (cell_at l.row k).value ≡ (cell_at l.fn.row k).value;
}

abbrev pub decreases-loop-node : goal.decreases-loop-node
decreases-loop-node g l = waiting_count l.front
