use Rattle.std.proofs.Common.{◌≡◌, ◌<◌, drop, All}
use Rattle.row_pool.specs.Pool.{Pool}
use Rattle.distances.specs.Searched.{nodes}
use Rattle.repair.specs.Slots.{slots_in, AreOwn}
use Rattle.repair.specs.Renewals.{Renews}
use Rattle.repair.proofs.renew.make_all.Given as goal

-- whatever renews the slots that are left renews all
abbrev pub invariant-loop-entry : goal.invariant-loop-entry
invariant-loop-entry g l = record {
  own : AreOwn l.pool (slots_in (drop l.entry-index l.entries));
  below : All (λ slot. slot.node < nodes l.search) (slots_in (drop l.entry-index l.entries));
  goes : (new : Pool) → Renews l.search.graph (slots_in (drop l.entry-index l.entries)) l.pool new → Renews l.search.graph (slots_in l.entries) l.initial.pool new;
  width : l.pool.width ≡ l.initial.pool.width;
  queue : l.queue ≡ l.initial.queue;
}
