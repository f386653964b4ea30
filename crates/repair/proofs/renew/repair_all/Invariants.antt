use Rattle.std.proofs.Common.{◌≡◌, ℕ, drop, All}
use Rattle.problem_model.specs.Tables.{without}
use Rattle.sync_graph.specs.Graph.{table_of}
use Rattle.row_pool.specs.Pool.{Pool}
use Rattle.distances.specs.Searched.{nodes}
use Rattle.repair.specs.Slots.{slots_in, AreOwn, IsRowsOf}
use Rattle.repair.specs.Renewals.{Repairs}
use Rattle.repair.proofs.renew.repair_all.Given as goal

-- whatever repairs the slots that are left repairs all
abbrev pub invariant-loop-entry : goal.invariant-loop-entry
invariant-loop-entry g l = record {
  own : AreOwn l.pool (slots_in (drop l.entry-index l.entries));
  before : All (IsRowsOf (nodes l.search) (without (table_of l.search.graph) l.arc) l.pool) (slots_in (drop l.entry-index l.entries));
  goes : (new : Pool) (after : ℕ) → Repairs l.search.graph (slots_in (drop l.entry-index l.entries)) l.pool new l.steps after → Repairs l.search.graph (slots_in l.entries) l.initial.pool new l.initial.steps after;
  width : l.pool.width ≡ l.initial.pool.width;
  queue : l.queue ≡ l.initial.queue;
}
