use Rattle.std.proofs.Common.{◌≡◌, ℕ, ◌<◌, ◌≤◌, ◌-◌, length, get_or}
use Rattle.sync_graph.proofs.lists.place_of.Given as goal

-- the entry stands here or behind
abbrev pub invariant-loop-k : goal.invariant-loop-k
invariant-loop-k l = (m : ℕ) × (l.k ≤ m) × (m < length l.list) × (get_or l.list m 0 ≡ l.entry)

abbrev pub decreases-loop-k : goal.decreases-loop-k
decreases-loop-k l = length l.list - l.k
