use Rattle.std.proofs.Common.{◌≡◌, ◌≤◌, ◌+◌, ◌-◌, ◌++◌, length, drop, vec_len, vec_capacity}
use Rattle.roster.specs.Readings.{stamps_of}
use Rattle.roster.specs.Roster.{came_from}
use Rattle.roster.proofs.arrivals.append_came.Given as goal

abbrev pub invariant-loop-k : goal.invariant-loop-k
invariant-loop-k l = record {
  came_is : l.came.items ++ came_from l.label (l.first + l.k) (stamps_of (drop l.k l.events)) ≡ l.initial.came.items ++ came_from l.label l.first (stamps_of l.events);
  room : vec_len l.came + (length l.events - l.k) ≤ vec_capacity l.came;
}
