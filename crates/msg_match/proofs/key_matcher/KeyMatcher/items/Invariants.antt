use Rattle.std.proofs.Common.{◌≡◌, take}
use Rattle.msg_match.specs.Held.{seen_items}
use Rattle.msg_match.specs.Inside.{items_by}
use Rattle.msg_match.proofs.key_matcher.KeyMatcher.items.Given as goal

-- the events so far are copied
abbrev pub invariant-loop-entry : goal.invariant-loop-entry
invariant-loop-entry l = seen_items l.items.items ≡ items_by l.self-inside.keys (take l.entry-index l.entry-items)
