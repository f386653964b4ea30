use Rattle.std.proofs.Common.{take}
use Rattle.msg_match.specs.Held.{seen_groups}
use Rattle.msg_match.specs.Parts.{AreCouplesIn}
use Rattle.msg_match.proofs.key_matcher.couples_in.Given as goal

-- the messages of the groups so far are found
abbrev pub invariant-loop-group : goal.invariant-loop-group
invariant-loop-group l = AreCouplesIn (seen_groups (take l.group-index l.groups)) l.found
