use Rattle.std.proofs.Common.{◌≡◌, [], replicate}
use Rattle.roster.specs.Groups.{lists_of}
use Rattle.roster.proofs.groups.empty_lists.Given as goal

abbrev pub invariant-loop : goal.invariant-loop
invariant-loop g l = lists_of l.lists.items ≡ replicate l.counter []
