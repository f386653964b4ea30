use Rattle.std.proofs.Common.{◌≡◌, take}
use Rattle.msg_match.specs.Held.{seen_groups}
use Rattle.msg_match.specs.Parts.{sum_of_groups}
use Rattle.msg_match.proofs.tallies.sum.Given as goal

-- what the groups so far count as
abbrev pub invariant-loop-group : goal.invariant-loop-group
invariant-loop-group l = l.sum ≡ sum_of_groups (seen_groups (take l.group-index l.groups))
