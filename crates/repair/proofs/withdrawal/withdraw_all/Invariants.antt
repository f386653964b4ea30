use Rattle.std.proofs.Common.{◌≡◌, ℕ, List, drop}
use Rattle.row_pool.specs.Pool.{Pool}
use Rattle.repair.specs.Slots.{slots_in, AreOwn}
use Rattle.repair.specs.Withdrawals.{WereRows, WithdrawsRows}
use Rattle.repair.proofs.withdrawal.withdraw_all.Given as goal

-- whatever repairs the slots that are left repairs all
abbrev pub invariant-loop-entry : goal.invariant-loop-entry
invariant-loop-entry g l = record {
  own : AreOwn l.pool (slots_in (drop l.entry-index l.entries));
  before : WereRows l.withdrawal.search.graph l.withdrawal.removed.now l.pool (slots_in (drop l.entry-index l.entries));
  goes : (new : Pool) (last : List ℕ) (after : ℕ) → WithdrawsRows l.withdrawal.search.graph l.withdrawal.removed.now (slots_in (drop l.entry-index l.entries)) l.pool new l.found last l.steps after
      → WithdrawsRows l.withdrawal.search.graph l.withdrawal.removed.now (slots_in l.entries) l.initial.pool new l.initial.found last l.initial.steps after;
  width : l.pool.width ≡ l.initial.pool.width;
  queue : l.queue ≡ l.initial.queue;
}
