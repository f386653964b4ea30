use Rattle.std.proofs.Common.{◌≡◌, take}
use Rattle.msg_match.specs.Held.{seen_items}
use Rattle.msg_match.specs.Windowed.{grouped_items}
use Rattle.msg_match.proofs.regrouping.by_groups.Given as goal

-- the events so far are added by their groups
abbrev pub invariant-loop-place : goal.invariant-loop-place
invariant-loop-place l = l.matcher ≡ take l.place (grouped_items (seen_items l.items))
