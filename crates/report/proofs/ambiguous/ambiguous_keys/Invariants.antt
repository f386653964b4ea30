use Rattle.std.proofs.Common.{◌≡◌, List, All, map, take}
use Rattle.msg_match.specs.Held.{seen_groups}
use Rattle.msg_match.specs.Parts.{keys_in}
use Rattle.msg_match.specs.Ends.{End}
use Rattle.msg_match.specs.EndsInside.{AreRising, HasEventsOf, led_groups}
use Rattle.report.specs.Inside.{ids_in, led}
use Rattle.report.proofs.ambiguous.ambiguous_keys.Given as goal

-- the ambiguous ones of the keys so far
abbrev pub invariant-loop-group : goal.invariant-loop-group
invariant-loop-group l = (ends : List End) → AreRising ends → All (HasEventsOf (ids_in l.roster) ends) (seen_groups l.groups) → map led l.keys.items ≡ led_groups ends (keys_in (seen_groups (take l.group-index l.groups)))
