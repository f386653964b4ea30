use Rattle.std.proofs.Common.{◌≡◌, ◌≤◌, length, take}
use Rattle.std.specs.Prelude.{filter}
use Rattle.msg_match.specs.Groups.{is_ambiguous}
use Rattle.msg_match.specs.Held.{seen_groups}
use Rattle.msg_match.proofs.tallies.ambiguous_count.Given as goal

-- what is counted are the ambiguous ones so far
abbrev pub invariant-loop-group : goal.invariant-loop-group
invariant-loop-group l = (l.count ≤ l.group-index) × (l.count ≡ length (filter is_ambiguous (seen_groups (take l.group-index l.groups))))
