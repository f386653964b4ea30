use Rattle.std.proofs.Common.{◌≡◌, ◌<◌, ◌^◌, All, drop}
use Rattle.std.specs.List.{range_with_len}
use Rattle.roster.specs.Readings.{stamps_of}
use Rattle.session_graph.specs.Plans.{turn_numbers}
use Rattle.session_graph.proofs.plans.turns_from.Given as goal

-- the events before this one have their turns, and if the stamps from here on fit, all do
abbrev pub invariant-loop-k : goal.invariant-loop-k
invariant-loop-k l = record {
  numbers : turn_numbers l.turns.items ≡ range_with_len l.first l.k;
  fits : All (λ stamp. stamp < 2 ^ 62) (drop l.k (stamps_of l.events)) → All (λ stamp. stamp < 2 ^ 62) (stamps_of l.events);
}
