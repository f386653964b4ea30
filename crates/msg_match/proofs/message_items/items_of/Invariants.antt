use Rattle.std.proofs.Common.{◌≡◌, take}
use Rattle.traces.specs.Seen.{seen_events}
use Rattle.msg_match.specs.Held.{seen_items}
use Rattle.msg_match.specs.Ends.{items_from}
use Rattle.msg_match.proofs.message_items.items_of.Given as goal

-- the ends of messages among the events so far are found
abbrev pub invariant-loop-place : goal.invariant-loop-place
invariant-loop-place l = seen_items l.items.items ≡ items_from l.first (seen_events (take l.place l.events))
