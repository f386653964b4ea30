use Rattle.std.proofs.Common.{ℕ, Bool}
use Rattle.withdrawals.specs.Withdrawals.{LeavesFrom}
use Rattle.row_pool.specs.Row.{cells_of}
use Rattle.distances.specs.Changes.{AreBlank}
use Rattle.repair.specs.Clearings.{IsRowBefore, AreSeeded}
use Rattle.repair.proofs.affected.clear_heads.Given as goal

abbrev pub invariant-loop-i : goal.invariant-loop-i
invariant-loop-i l = record {
  seeded : (was : ℕ → Bool) (p : ℕ) → IsRowBefore l.search.graph l.search.side was l.removed p (cells_of l.initial.row)
      → (marks : ℕ → Bool) × AreSeeded l.search.graph l.search.side l.i l.removed p (cells_of l.initial.row) l.row marks l.found l.count;
  places : LeavesFrom l.count l.initial.found l.found;
  blank : AreBlank l.initial.row → AreBlank l.row;
}
