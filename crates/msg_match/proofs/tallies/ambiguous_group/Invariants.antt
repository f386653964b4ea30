use Rattle.std.proofs.Common.{◌≡◌, slice_get, drop}
use Rattle.std.specs.Prelude.{filter}
use Rattle.msg_match.specs.Groups.{is_ambiguous}
use Rattle.msg_match.specs.Held.{seen_groups}
use Rattle.msg_match.proofs.tallies.ambiguous_group.Given as goal

-- the one that is asked for stands in what is left, behind so many others
abbrev pub invariant-loop-group : goal.invariant-loop-group
invariant-loop-group l = slice_get (filter is_ambiguous (seen_groups (drop l.group-index l.groups))) l.before ≡ slice_get (filter is_ambiguous (seen_groups l.groups)) l.k
